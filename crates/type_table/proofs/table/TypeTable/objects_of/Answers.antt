use Rattle.std.proofs.Common.{◌≡◌, ◌<◌, ◌∙◌, ap, sym, subst, length, arith, map}
use Rattle.ppddl_model.specs.Objects.{World}
use Rattle.std.specs.Prelude.{All}
use Rattle.type_table.specs.Hierarchy.{members_of}
use Rattle.type_table.specs.Table.{world_of}
use Rattle.type_table.specs.Types.{type_names, object_at, objects_under}
use Rattle.type_table.proofs.Worlds.{members_are, members_within, row_is}
use Rattle.type_table.proofs.table.TypeTable.objects_of.Goals as goal

pub returns-clause-objects : goal.returns-clause-objects
returns-clause-objects c =
    let t = c.self.inside in
    let row : c.as_slice.result.now ≡ members_of t.types t.kinds c.args.kind =
    c.as_slice.ensures.value
    ∙ row_is t.types t.objects t.kinds t.members.items c.self.invariant c.args.kind c.index.result.now
    (omega (arith, c.requires, ap (λ (w : World). length (type_names w.types)) c.self.view_is)) c.index.ensures in
    ap (λ w. map (object_at w) c.as_slice.result.now) (sym c.self.view_is)
    ∙ ap (map (object_at (world_of t.types t.objects t.kinds))) row
    ∙ members_are t.types t.objects t.kinds t.members.items c.self.invariant c.args.kind
    ∙ ap (λ w. objects_under w c.args.kind) c.self.view_is

pub returns-clause-within : goal.returns-clause-within
returns-clause-within c k d below =
    let t = c.self.inside in
    let row : c.as_slice.result.now ≡ members_of t.types t.kinds c.args.kind =
    c.as_slice.ensures.value
    ∙ row_is t.types t.objects t.kinds t.members.items c.self.invariant c.args.kind c.index.result.now
    (omega (arith, c.requires, ap (λ (w : World). length (type_names w.types)) c.self.view_is)) c.index.ensures in
    let all : All (λ o. o < length (world_of t.types t.objects t.kinds).objects) c.as_slice.result.now =
    subst (All (λ o. o < length (world_of t.types t.objects t.kinds).objects)) (sym row)
    (members_within t.types t.objects t.kinds t.members.items c.self.invariant c.args.kind) in
    omega (arith, all k d below, ap (λ (w : World). length w.objects) c.self.view_is)
