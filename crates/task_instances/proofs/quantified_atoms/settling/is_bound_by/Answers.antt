use Rattle.std.proofs.Common.{sym, ap, ◌∙◌}
use Rattle.std.specs.List.{list_any}
use Rattle.task_instances.specs.quantified_atoms.Needed.{hides, params_of}
use Rattle.task_instances.specs.quantified_atoms.Quantified.{is_bound_by}
use Rattle.task_instances.proofs.quantified_atoms.settling.is_bound_by.Goals as goal

pub returns-in-Variable : goal.returns-in-Variable
returns-in-Variable c =
    let ps = params_of c.args.params.now in
    c.is_hidden.ensures ∙ ap (λ n. list_any (hides n) ps) c.as_slice.ensures ∙ ap (is_bound_by ps) (sym c.in-Variable.is)
