use Rattle.ppddl_model.specs.Changing.{chance_predicates}
use Rattle.task_instances.proofs.lemmas.fact_rows.Adding.{names_more}
use Rattle.task_instances.proofs.facts.predicates.add_of_items.Goals as goal

pub loop-item-preserved : goal.loop-item-preserved
loop-item-preserved c =
    names_more chance_predicates c.args.items.now c.loop-item.item-index c.item-item.result c.loop-item.names c.add_of_item.new.names _
    c.loop-item-test.true c.item-item.is c.in_ok-add_of_item.ensures c.loop-item.invariant
