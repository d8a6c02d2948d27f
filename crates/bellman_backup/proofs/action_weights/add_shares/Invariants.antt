-- The shares of the choices so far stand behind the others.
use Rattle.std.proofs.Common.{◌≡◌, ◌++◌, map, take}
use Rattle.bellman_backup.specs.Odds.{share_of}
use Rattle.bellman_backup.proofs.action_weights.add_shares.Given as goal

abbrev pub invariant-loop-choice : goal.invariant-loop-choice
invariant-loop-choice l = l.shares.items ≡ l.initial.shares.items ++ map share_of (take l.choice-index l.choices)
