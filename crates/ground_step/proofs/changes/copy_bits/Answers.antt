-- All words are copied.
use Rattle.std.proofs.Common.{◌≡◌, ◌∙◌, arith, rules, subst}
use Rattle.std.proofs.lemmas.List.{ext_get_or}
use Rattle.ground_step.proofs.Packed.{AreWords, are_words, is_packed}
use Rattle.ground_step.proofs.changes.copy_bits.Goals as goal

pub returns : goal.returns
returns c =
    let words : AreWords c.words-word-items.result.now = are_words c.words-word-items.result.now (search rules) in
    let same : c.loop-place.into ≡ c.words-word-items.result.now =
    ext_get_or 0 c.loop-place.into c.words-word-items.result.now c.loop-place.invariant.0
    (λ k within. c.loop-place.invariant.2 k (omega arith)) in
    same ∙ c.loop-place.invariant.1
    ∙ is_packed c.args.from.now (subst AreWords c.loop-place.invariant.1 words)
