use Rattle.std.proofs.Common.{◌≡◌, take}
use Rattle.applicable_actions.proofs.distinct.same.+conditions.Given as goal

abbrev pub invariant-same_conditions-loop-place : goal.invariant-same_conditions-loop-place
invariant-same_conditions-loop-place l = take l.place l.some ≡ take l.place l.others
