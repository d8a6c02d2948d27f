use Rattle.std.proofs.Common.{◌≡◌, drop}
use Rattle.ground_terms.specs.terms.Scopes.{binding_of}
use Rattle.task_instances.specs.kept_rows.Patterns.{conditions_in}
use Rattle.task_instances.specs.kept_rows.Stages.{may_all_hold}
use Rattle.task_instances.proofs.kept_rows.test.may_all_pass.Given as goal

abbrev pub invariant-loop-test : goal.invariant-loop-test
invariant-loop-test l =
    may_all_hold l.facts (binding_of l.scope) (conditions_in (drop l.test-index l.tests))
    ≡ may_all_hold l.facts (binding_of l.scope) (conditions_in l.tests)
