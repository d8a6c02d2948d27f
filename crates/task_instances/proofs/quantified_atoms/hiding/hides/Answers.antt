use Rattle.std.proofs.Common.{ap, ◌∙◌}
use Rattle.std.specs.Cmp.Lexicographic.{texts_ties}
use Rattle.ppddl_model.specs.State.{same_name}
use Rattle.task_instances.proofs.quantified_atoms.hiding.hides.Goals as goal

pub returns : goal.returns
returns c =
    let v = c.args.variable.now in
    c.eq.ensures ∙ texts_ties c.as_slice.result.now v ∙ ap (λ n. same_name n v) c.as_slice.ensures
