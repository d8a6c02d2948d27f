use Rattle.ppddl_model.specs.declared.tree.Action.{Action}
use Rattle.ppddl_model.specs.Changing.{predicates_of}
use Rattle.task_instances.proofs.lemmas.fact_rows.Adding.{names_more}
use Rattle.task_instances.proofs.facts.predicates.add_of_actions.Goals as goal

pub loop-action-preserved : goal.loop-action-preserved
loop-action-preserved c =
    names_more (λ (a : Action). predicates_of a.effect) c.args.actions.now c.loop-action.action-index c.action-item.result c.loop-action.names
    c.add_predicates.new.names _ c.loop-action-test.true c.action-item.is c.in_ok-add_predicates.ensures c.loop-action.invariant
