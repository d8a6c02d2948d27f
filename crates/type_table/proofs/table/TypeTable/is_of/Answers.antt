use Rattle.std.proofs.Common.{◌<◌, ◌∙◌, ap, sym, length, get_or, arith}
use Rattle.ppddl_model.specs.Objects.{World, is_under}
use Rattle.type_table.specs.Types.{kind_at, type_at, under}
use Rattle.type_table.specs.Table.{world_of}
use Rattle.type_table.proofs.Worlds.{many_objects, world_kind}
use Rattle.type_table.proofs.table.TypeTable.is_of.Goals as goal

pub bounds-as_slice-object : goal.bounds-as_slice-object
bounds-as_slice-object c =
    let t = c.self.inside in
    omega (
      arith,
      c.requires.object,
      ap (λ (w : World). length w.objects) c.self.view_is,
      many_objects t.types t.objects t.kinds t.members.items c.self.invariant,
      c.self.invariant.long,
      ap length c.as_slice.ensures,
    )

pub returns : goal.returns
returns c =
    let t = c.self.inside in
    let below : c.args.object < length (world_of t.types t.objects t.kinds).objects =
    omega (arith, c.requires.object, ap (λ (w : World). length w.objects) c.self.view_is) in
    c.is_under.ensures
    ∙ ap (λ ks. under t.types (get_or ks c.args.object 0) c.args.kind) c.as_slice.ensures
    ∙ ap (λ kind. is_under (world_of t.types t.objects t.kinds) kind (type_at (world_of t.types t.objects t.kinds) c.args.kind))
    (sym (world_kind t.types t.objects t.kinds t.members.items c.self.invariant c.args.object below))
    ∙ ap (λ w. is_under w (kind_at w c.args.object) (type_at w c.args.kind)) c.self.view_is
