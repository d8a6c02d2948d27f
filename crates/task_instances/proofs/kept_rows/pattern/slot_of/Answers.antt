use Rattle.std.proofs.Common.{sym, ap, subst, ◌∙◌}
use Rattle.type_table.specs.Numbered.{number_of}
use Rattle.type_table.specs.Types.{object_names}
use Rattle.task_instances.specs.declared.kept_rows.pattern.Slot.TheVariants.{Number, Place}
use Rattle.task_instances.specs.kept_rows.Patterns.{IsLastPlace, IsSlot}
use Rattle.task_instances.proofs.lemmas.kept_rows.Placing.{place_stands, number_stands}
use Rattle.task_instances.proofs.kept_rows.pattern.slot_of.Goals as goal

pub returns-in-Some : goal.returns-in-Some
returns-in-Some c =
    let table = c.args.table.now in
    let params = c.args.params.now in
    subst (λ t. IsSlot table params t (Place c.in-Some.place)) (sym c.in-Variable.is)
    (place_stands table params c.in-Variable.name c.in-Some.place
    (subst (λ n. IsLastPlace params n c.in-Some.place) c.as_slice.ensures c.in-Some.ensures))

pub returns-in-Some-object_number : goal.returns-in-Some-object_number
returns-in-Some-object_number c =
    let table = c.args.table.now in
    let params = c.args.params.now in
    let number = c.in-Some-object_number.number in
    subst (λ t. IsSlot table params t (Number number)) (sym c.in-Object.is)
    (number_stands table params c.in-Object.name number
    (sym (c.in-Some-object_number.ensures ∙ ap (number_of (object_names table)) c.as_slice-in-Object.ensures)))
