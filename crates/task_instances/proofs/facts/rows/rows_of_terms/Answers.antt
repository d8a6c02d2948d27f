use Rattle.std.proofs.Common.{refl}
use Rattle.task_instances.proofs.lemmas.facts.ByNumber.{term_rows_tell}
use Rattle.task_instances.proofs.facts.rows.rows_of_terms.Goals as goal

pub returns-in-Ok : goal.returns-in-Ok
returns-in-Ok c =
    term_rows_tell c.args.task.now c.add_terms.new.rows
    (rw (c.in-Ok.ensures, c.requires, c.in_ok-rows.ensures, c.as_slice.ensures, c.as_slice-2.ensures) refl)
