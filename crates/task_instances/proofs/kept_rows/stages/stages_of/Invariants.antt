use Rattle.std.proofs.Common.{◌≤◌, length, drop, reverse}
use Rattle.task_instances.specs.facts.Facts.{table_of}
use Rattle.task_instances.specs.kept_rows.Stages.{conjuncts_of, conditions_of, AreStages}
use Rattle.task_instances.specs.kept_rows.Patterns.{ArePrepared}
use Rattle.task_instances.proofs.kept_rows.stages.stages_of.Given as goal

abbrev pub decreases-loop-place : goal.decreases-loop-place
decreases-loop-place l = l.place

abbrev pub invariant-loop-place : goal.invariant-loop-place
invariant-loop-place l = record {
  within : l.place ≤ length l.params;
  made : AreStages (table_of l.facts) (drop l.place l.params) (conjuncts_of l.action.condition) (conditions_of l.first.items) (reverse l.stages.items);
  prepared : ArePrepared l.facts l.action.params l.place (reverse l.stages.items);
}
