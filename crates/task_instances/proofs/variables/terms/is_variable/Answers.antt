use Rattle.std.proofs.Common.{sym, ap, ◌∙◌}
use Rattle.std.specs.Cmp.Lexicographic.{texts_ties}
use Rattle.ppddl_model.specs.State.{same_name}
use Rattle.task_instances.specs.kept_rows.Stages.{is_variable}
use Rattle.task_instances.proofs.variables.terms.is_variable.Goals as goal

pub returns-in-Variable : goal.returns-in-Variable
returns-in-Variable c =
    let v = c.args.variable.now in
    c.eq.ensures ∙ texts_ties v c.as_slice.result.now ∙ ap (same_name v) c.as_slice.ensures ∙ ap (is_variable v) (sym c.in-Variable.is)
