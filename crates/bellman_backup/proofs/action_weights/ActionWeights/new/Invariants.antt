-- The shares of the actions so far are placed.
use Rattle.bellman_backup.proofs.PlacedWeights.{ArePlaced}
use Rattle.bellman_backup.proofs.action_weights.ActionWeights.new.Given as goal

abbrev pub invariant-loop-code : goal.invariant-loop-code
invariant-loop-code l = ArePlaced l.action-items l.spans.items l.shares.items l.code
