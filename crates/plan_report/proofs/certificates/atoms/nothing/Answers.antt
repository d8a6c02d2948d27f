-- Words that are 0 have no bits.
use Rattle.std.proofs.Common.{◌≡◌, ℕ, length, ap, ◌∙◌, rules}
use Rattle.std.specs.List.{range_with_len}
use Rattle.std.proofs.Math.ListN.{replicate}
use Rattle.std.proofs.lemmas.Simd.{splat_is_map}
use Rattle.std.proofs.lemmas.List.FromFn.{length-range_with_len}
use Rattle.ground_model.specs.Packed.{words_for}
use Rattle.plan_report.specs.certificates.Kept.{nothing}
use Rattle.plan_report.proofs.certificates.atoms.nothing.Goals as goal

zeros : (n : ℕ) → replicate n 0 ≡ nothing n
zeros n = splat_is_map (range_with_len 0 n) n 0 (length-range_with_len 0 n)

pub returns-clause-state : goal.returns-clause-state
returns-clause-state c =
    let width : c.max-width.result ≡ words_for (length c.args.problem.now.atoms) = search rules in
    let words : c.in_ok-words.words.items ≡ replicate c.max-width.result 0 = search rules in
    c.from_words.ensures ∙ c.from_vec.ensures ∙ words ∙ zeros c.max-width.result ∙ ap nothing width
