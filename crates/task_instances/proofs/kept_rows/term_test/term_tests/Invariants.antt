use Rattle.std.proofs.Common.{◌≡◌, take}
use Rattle.std.specs.Prelude.{All}
use Rattle.task_instances.specs.kept_rows.Patterns.{IsTermTest, terms_in}
use Rattle.task_instances.proofs.kept_rows.term_test.term_tests.Given as goal

abbrev pub invariant-loop-term : goal.invariant-loop-term
invariant-loop-term l = record {
  terms : terms_in l.tests.items ≡ take l.term-index l.terms;
  tests : All (IsTermTest l.facts l.params) l.tests.items;
}
