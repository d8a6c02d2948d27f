use Rattle.std.proofs.Common.{sym, ◌∙◌}
use Rattle.grounder.proofs.lemmas.actions.AgreeSteps.{agrees_at}
use Rattle.grounder.proofs.actions.agreeing.agree.Goals as goal

pub loop-place-preserved : goal.loop-place-preserved
loop-place-preserved c =
    agrees_at c.args.named.now c.args.row.now c.args.other.now c.loop-place.place c.loop-place-test.true c.requires.row c.requires.other
    (sym c.agree_at.ensures ∙ c.if-not-agree_at.false) ∙ c.loop-place.invariant
