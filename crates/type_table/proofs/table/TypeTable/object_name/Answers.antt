use Rattle.std.proofs.Common.{◌≡◌, ◌<◌, ◌∙◌, ap, sym, length, arith}
use Rattle.ppddl_model.specs.Objects.{World}
use Rattle.type_table.specs.Numbered.{number_of, name_at}
use Rattle.type_table.specs.Types.{object_names}
use Rattle.type_table.proofs.Bridge.{own_number}
use Rattle.type_table.proofs.Worlds.{many_objects, world_names}
use Rattle.type_table.proofs.table.TypeTable.object_name.Goals as goal

pub name-requires : goal.name-requires
name-requires c =
    let t = c.self.inside in
    omega (arith, c.requires, ap (λ (w : World). length w.objects) c.self.view_is, many_objects t.types t.objects t.kinds t.members.items c.self.invariant)

pub returns-clause-name : goal.returns-clause-name
returns-clause-name c =
    let t = c.self.inside in
    c.name.ensures
    ∙ ap (λ names. name_at names c.args.object) (sym (world_names t.types t.objects t.kinds t.members.items c.self.invariant))
    ∙ ap (λ w. name_at (object_names w) c.args.object) c.self.view_is

pub returns-clause-number : goal.returns-clause-number
returns-clause-number c =
    let t = c.self.inside in
    let below : c.args.object < length t.objects =
    omega (arith, c.requires, ap (λ (w : World). length w.objects) c.self.view_is, many_objects t.types t.objects t.kinds t.members.items c.self.invariant) in
    let names : object_names c.args.self.now ≡ t.objects = ap object_names (sym c.self.view_is) ∙ world_names t.types t.objects t.kinds t.members.items c.self.invariant in
    (λ i. number_of (names i) (c.name.ensures i)) ∙ own_number t.objects c.self.invariant.distinct c.args.object below
