use Rattle.std.proofs.Common.{◌≡◌, drop}
use Rattle.std.specs.List.{list_all}
use Rattle.ppddl_model.specs.Steps.{world}
use Rattle.ground_terms.specs.terms.Scopes.{binding_of}
use Rattle.task_instances.specs.kept_rows.Terms.{is_valued_under}
use Rattle.task_instances.specs.kept_rows.Patterns.{terms_in}
use Rattle.task_instances.proofs.kept_rows.term_test.are_passed.Given as goal

abbrev pub invariant-loop-test : goal.invariant-loop-test
invariant-loop-test l =
    list_all (is_valued_under (world l.facts) (binding_of l.scope)) (terms_in (drop l.test-index l.tests))
    ≡ list_all (is_valued_under (world l.facts) (binding_of l.scope)) (terms_in l.tests)
