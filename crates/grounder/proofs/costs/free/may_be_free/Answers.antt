use Rattle.grounder.proofs.Costing.{all_dear}
use Rattle.grounder.proofs.costs.free.may_be_free.Goals as goal

pub returns : goal.returns
returns c _ = all_dear c.args.task.now c.args.base c.if-base-eq0.false c.args.task.now.domain.actions
