use Rattle.std.proofs.Common.{◌≡◌, drop}
use Rattle.ground_terms.specs.terms.Scopes.{binding_of}
use Rattle.task_instances.specs.kept_rows.Stages.{conditions_of, may_all_hold}
use Rattle.task_instances.proofs.kept_rows.test.may_all_hold.Given as goal

abbrev pub invariant-loop-condition : goal.invariant-loop-condition
invariant-loop-condition l =
    may_all_hold l.facts (binding_of l.scope) (conditions_of (drop l.condition-index l.conditions))
    ≡ may_all_hold l.facts (binding_of l.scope) (conditions_of l.conditions)
