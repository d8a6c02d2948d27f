use Rattle.std.proofs.Common.{◌≡◌, ◌<◌, ◌∙◌, ap, sym, subst, length, map, arith}
use Rattle.std.specs.Prelude.{IsTrue, All}
use Rattle.std.specs.List.{list_all, AllZip}
use Rattle.ppddl_model.specs.Objects.{once}
use Rattle.type_table.specs.Reading.{items_of, IsKindOf, has_kind}
use Rattle.type_table.specs.Rows.{EachRow}
use Rattle.type_table.specs.Hierarchy.{members_of}
use Rattle.type_table.specs.Types.{type_names, table_world}
use Rattle.type_table.proofs.Lists.{map_length}
use Rattle.type_table.proofs.Worlds.{all_known, kinds_long, kinds_within, world_is, is_table}
use Rattle.type_table.proofs.table.TypeTable.make.Goals as goal

pub kinds-requires-clause-known : goal.kinds-requires-clause-known
kinds-requires-clause-known c =
    subst (λ ns. IsTrue (list_all (has_kind ns) c.args.objects.now)) (sym (c.names.ensures ∙ ap type_names c.in_ok-types.ensures.types))
    (all_known c.args.types.now c.args.objects.now c.requires)

pub member_rows-requires-clause-within : goal.member_rows-requires-clause-within
member_rows-requires-clause-within c =
    let all = subst (λ ns. AllZip (IsKindOf ns) c.in_ok-kinds.kinds (once c.args.objects.now)) c.names.ensures c.in_ok-kinds.ensures.kinds in
    subst (All (λ k. k < length (type_names c.in_ok-types.types))) (sym c.as_slice.ensures)
    (kinds_within c.in_ok-types.types c.kinds.new.names c.args.objects.now c.in_ok-kinds.kinds c.in_ok-kinds.ensures.names all)

pub member_rows-requires-clause-few : goal.member_rows-requires-clause-few
member_rows-requires-clause-few c =
    let all = subst (λ ns. AllZip (IsKindOf ns) c.in_ok-kinds.kinds (once c.args.objects.now)) c.names.ensures c.in_ok-kinds.ensures.kinds in
    omega (
      arith,
      ap length c.as_slice.ensures,
      kinds_long c.in_ok-types.types c.kinds.new.names c.args.objects.now c.in_ok-kinds.kinds c.in_ok-kinds.ensures.names all,
      ap length c.names-2.view_is,
      map_length items_of c.names-2.inside.set.keys,
      c.names-2.invariant,
    )

pub invariant_of-result : goal.invariant_of-result
invariant_of-result c =
    let all = subst (λ ns. AllZip (IsKindOf ns) c.in_ok-kinds.kinds (once c.args.objects.now)) c.names.ensures c.in_ok-kinds.ensures.kinds in
    let types = c.in_ok-types.types in
    is_table types c.kinds.new.names c.args.objects.now c.in_ok-kinds.kinds c.in_ok-kinds.ensures.names all c.in_ok-members.members.items
    (subst (λ kinds. EachRow (length (type_names types)) (λ k row. row ≡ members_of types kinds k) (map items_of c.in_ok-members.members.items)) c.as_slice.ensures
    c.in_ok-members.ensures)

pub returns-clause-table : goal.returns-clause-table
returns-clause-table c =
    let all = subst (λ ns. AllZip (IsKindOf ns) c.in_ok-kinds.kinds (once c.args.objects.now)) c.names.ensures c.in_ok-kinds.ensures.kinds in
    world_is c.in_ok-types.types c.kinds.new.names c.args.objects.now c.in_ok-kinds.kinds c.in_ok-kinds.ensures.names all
    ∙ ap (λ types. table_world types c.args.objects.now) c.in_ok-types.ensures.types
