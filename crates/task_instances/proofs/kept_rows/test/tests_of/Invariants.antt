use Rattle.std.proofs.Common.{◌≡◌, take}
use Rattle.std.specs.Prelude.{All}
use Rattle.task_instances.specs.kept_rows.Patterns.{IsTest, conditions_in}
use Rattle.task_instances.specs.kept_rows.Stages.{conditions_of}
use Rattle.task_instances.proofs.kept_rows.test.tests_of.Given as goal

abbrev pub invariant-loop-condition : goal.invariant-loop-condition
invariant-loop-condition l = record {
  conditions : conditions_in l.tests.items ≡ conditions_of (take l.condition-index l.conditions);
  tests : All (IsTest l.facts l.params) l.tests.items;
}
