-- The choices of the actions so far are placed.
use Rattle.applicable_actions.proofs.lemmas.distinct.Placing.{ArePlaced}
use Rattle.applicable_actions.proofs.distinct.prepared_actions.PreparedActions.new.Given as goal

abbrev pub invariant-loop-code : goal.invariant-loop-code
invariant-loop-code l = ArePlaced l.actions l.spans.items l.choices.items l.code
