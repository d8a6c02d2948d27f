-- Words that are all equal have the same atoms.
use Rattle.std.proofs.Common.{sym, ◌∙◌, arith}
use Rattle.plain_list.specs.Texts.{compare_texts}
use Rattle.ground_step.specs.Atoms.{true_atoms}
use Rattle.plan_report.proofs.lemmas.certificates.Apart.{same_words}
use Rattle.plan_report.proofs.certificates.state_order.compare_states.Goals as goal

pub returns : goal.returns
returns c =
    let s = c.words-ours.result.now in let t = c.words-theirs.result.now in
    sym (same_words s t c.loop-place.place
    (omega (arith, c.loop-place-test.false, c.max-place-end.ensures)) (omega (arith, c.loop-place-test.false, c.max-place-end.ensures))
    c.loop-place.invariant)
    ∙ (λ j. compare_texts (true_atoms (c.words-ours.ensures j)) (true_atoms (c.words-theirs.ensures j)))
