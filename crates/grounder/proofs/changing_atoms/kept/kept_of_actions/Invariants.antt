use Rattle.std.proofs.Common.{take}
use Rattle.std.specs.List.{AllZip}
use Rattle.task_instances.specs.kept_rows.Kept.{AreKept}
use Rattle.grounder.proofs.changing_atoms.kept.kept_of_actions.Given as goal

abbrev pub invariant-loop-action : goal.invariant-loop-action
invariant-loop-action l = AllZip (AreKept l.facts) (take l.action-index l.action-items) l.kept.items
