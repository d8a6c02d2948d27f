use Rattle.std.proofs.Common.{◌≡◌, drop}
use Rattle.grounder.specs.actions.Repeating.{agree_where}
use Rattle.grounder.proofs.actions.agreeing.agree.Given as goal

abbrev pub invariant-loop-place : goal.invariant-loop-place
invariant-loop-place l = agree_where (drop l.place l.named) (drop l.place l.row) (drop l.place l.other) ≡ agree_where l.named l.row l.other
