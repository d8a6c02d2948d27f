use Rattle.task_instances.proofs.lemmas.kept_rows.RowSteps.{pushed}
use Rattle.task_instances.proofs.kept_rows.rows.Rows.push.Goals as goal

pub returns : goal.returns
returns c =
    pushed c.self.inside.width c.self.inside.count c.self.inside.numbers.items c.extend_from_slice.new.self.items c.args.row.now c.args.self.now
    c.self.invariant c.requires c.in_ok-extend_from_slice.ensures.items c.self.view_is
