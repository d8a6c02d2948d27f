-- The starts so far are added up.
use Rattle.std.proofs.Common.{take}
use Rattle.lower_seed.specs.Means.{IsUnderSum}
use Rattle.lower_seed.proofs.means.add_up.Given as goal

abbrev pub invariant-loop-place : goal.invariant-loop-place
invariant-loop-place g l = IsUnderSum (g.R.Rule.answers l.seed.rule) l.problem l.rows (take l.place l.start-items) l.sum
