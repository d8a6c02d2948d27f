use Rattle.std.proofs.Common.{◌≡◌, take}
use Rattle.applicable_actions.proofs.distinct.same.same_parts.Given as goal

abbrev pub invariant-loop-place : goal.invariant-loop-place
invariant-loop-place l = take l.place l.some ≡ take l.place l.others
