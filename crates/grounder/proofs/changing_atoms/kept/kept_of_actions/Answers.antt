use Rattle.task_instances.specs.kept_rows.Kept.{AreKept}
use Rattle.grounder.proofs.lemmas.changing_atoms.Gathering.{one_more}
use Rattle.grounder.proofs.changing_atoms.kept.kept_of_actions.Goals as goal

pub loop-action-preserved : goal.loop-action-preserved
loop-action-preserved c =
    one_more (AreKept c.args.facts.now) c.as_slice-action-items.result.now c.loop-action.kept.items c.push.new.self.items c.loop-action.action-index
    c.action-item.result c.in_ok-kept_bindings.field-0 c.loop-action-test.true c.action-item.is c.in_ok-push.ensures.items
    c.in_ok-kept_bindings.ensures c.loop-action.invariant
