use Rattle.std.proofs.Common.{length, sym, ap, ◌∙◌}
use Rattle.task_instances.specs.kept_rows.Rows.{Table}
use Rattle.task_instances.proofs.lemmas.kept_rows.RowSteps.{rows-length}
use Rattle.task_instances.proofs.kept_rows.rows.Rows.len.Goals as goal

pub returns : goal.returns
returns c =
    sym (ap (λ (t : Table). length t.rows) (sym c.self.view_is)
    ∙ rows-length c.self.inside.width c.self.inside.count c.self.inside.numbers.items)
