use Rattle.std.proofs.Common.{◌≡◌, ◌+◌, ◌∷◌, take}
use Rattle.task_instances.specs.kept_rows.Patterns.{numbers_in}
use Rattle.task_instances.proofs.kept_rows.pattern.Pattern.write_over.Given as goal

abbrev pub invariant-loop-place : goal.invariant-loop-place
invariant-loop-place l = take (l.place + 1) l.into ≡ l.self.predicate ∷ numbers_in l.row (take l.place l.slot-items)
