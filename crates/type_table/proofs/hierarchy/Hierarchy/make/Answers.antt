use Rattle.std.proofs.Common.{◌∙◌, Err, sym, ap, refl, map, arith}
use Rattle.std.specs.List.{list_any}
use Rattle.std.proofs.lemmas.Result.{err_from_is_err_and}
use Rattle.type_table.specs.declared.refusal.TypeRefusal.TheVariants.{Cycle}
use Rattle.type_table.specs.Above.{rows_of}
use Rattle.type_table.specs.Reading.{items_of}
use Rattle.type_table.specs.Rows.{is_round}
use Rattle.type_table.proofs.Lists.{map_length, handed_on}
use Rattle.type_table.proofs.Bridge.{above_of, reached_of, child_below, parent_below, all_parents_within, is_hierarchy, types_are, round_is_cycle, cycle_of_round}
use Rattle.type_table.proofs.hierarchy.Hierarchy.make.Goals as goal

pub parent_rows-requires : goal.parent_rows-requires
parent_rows-requires c k d below =
    omega (arith, c.len.ensures, child_below c.links.new.names c.in_ok-links.links c.as_slice.result.now c.args.types.now c.in_ok-links.ensures.links c.as_slice.ensures k d below)

pub make-requires-clause-within : goal.make-requires-clause-within
make-requires-clause-within c =
    let names = c.links.new.names in
    let links = c.in_ok-links.links in
    let parents = map items_of c.as_slice-2.result.now in
    let above = above_of c.len.result names c.as_slice.result.now links c.in_ok-parents.parents.items c.as_slice-2.result.now
    c.len.ensures c.as_slice.ensures c.as_slice-2.ensures.value c.in_ok-parents.ensures in
    all_parents_within c.args.types.now names links parents c.in_ok-links.ensures.names c.in_ok-links.ensures.links above

pub make-requires-clause-ends : goal.make-requires-clause-ends
make-requires-clause-ends c k d below =
    let names = c.links.new.names in
    let links = c.in_ok-links.links in
    let parents = map items_of c.as_slice-2.result.now in
    let above = above_of c.len.result names c.as_slice.result.now links c.in_ok-parents.parents.items c.as_slice-2.result.now
    c.len.ensures c.as_slice.ensures c.as_slice-2.ensures.value c.in_ok-parents.ensures in
    let many = map_length items_of c.as_slice-2.result.now in
    record {
      child = omega (arith, many, above.many, child_below names links c.as_slice-3.result.now c.args.types.now c.in_ok-links.ensures.links c.as_slice-3.ensures k d below);
      parent = omega (arith, many, above.many, parent_below names links c.as_slice-3.result.now c.args.types.now c.in_ok-links.ensures.links c.as_slice-3.ensures k d below);
    }

pub returns-in_err-above-clause-cycle : goal.returns-in_err-above-clause-cycle
returns-in_err-above-clause-cycle c is =
    let names = c.links.new.names in
    let links = c.in_ok-links.links in
    let parents = map items_of c.as_slice-2.result.now in
    let above = above_of c.len.result names c.as_slice.result.now links c.in_ok-parents.parents.items c.as_slice-2.result.now
    c.len.ensures c.as_slice.ensures c.as_slice-2.ensures.value c.in_ok-parents.ensures in
    let p = err_from_is_err_and c.from_residual-in_err-above.result c.from_residual-in_err-above.ensures.1 in
    cycle_of_round c.args.types.now names links parents c.in_ok-links.ensures.names c.in_ok-links.ensures.links above
    (c.in_err-above.ensures.cycle (handed_on c.from_residual-in_err-above.result c.in_err-above.field-0.0 Cycle (p.1 ∙ ap Err p.2) is))

pub invariant_of-result : goal.invariant_of-result
invariant_of-result c =
    let names = c.links.new.names in
    let links = c.in_ok-links.links in
    let parents = map items_of c.as_slice-2.result.now in
    let above = above_of c.len.result names c.as_slice.result.now links c.in_ok-parents.parents.items c.as_slice-2.result.now
    c.len.ensures c.as_slice.ensures c.as_slice-2.ensures.value c.in_ok-parents.ensures in
    let rows = rows_of c.in_ok-above.above in
    let reached = reached_of c.as_slice-2.result.now rows c.in_ok-above.ensures.rows in
    is_hierarchy c.args.types.now names links parents rows c.in_ok-links.ensures.names c.in_ok-links.ensures.links above reached c.in_ok-above.above refl c.in_ok-above.ensures.sound

pub returns-clause-types : goal.returns-clause-types
returns-clause-types c =
    let names = c.links.new.names in
    let links = c.in_ok-links.links in
    let parents = map items_of c.as_slice-2.result.now in
    let above = above_of c.len.result names c.as_slice.result.now links c.in_ok-parents.parents.items c.as_slice-2.result.now
    c.len.ensures c.as_slice.ensures c.as_slice-2.ensures.value c.in_ok-parents.ensures in
    let rows = rows_of c.in_ok-above.above in
    let reached = reached_of c.as_slice-2.result.now rows c.in_ok-above.ensures.rows in
    types_are c.args.types.now names links parents rows c.in_ok-links.ensures.names c.in_ok-links.ensures.links above reached

pub returns-clause-acyclic : goal.returns-clause-acyclic
returns-clause-acyclic c =
    let names = c.links.new.names in
    let links = c.in_ok-links.links in
    let parents = map items_of c.as_slice-2.result.now in
    let above = above_of c.len.result names c.as_slice.result.now links c.in_ok-parents.parents.items c.as_slice-2.result.now
    c.len.ensures c.as_slice.ensures c.as_slice-2.ensures.value c.in_ok-parents.ensures in
    let rows = rows_of c.in_ok-above.above in
    let reached = reached_of c.as_slice-2.result.now rows c.in_ok-above.ensures.rows in
    sym (round_is_cycle c.args.types.now names links parents rows c.in_ok-links.ensures.names c.in_ok-links.ensures.links above reached)
    ∙ ap (list_any (is_round rows)) (sym c.as_slice-3.ensures)
    ∙ c.in_ok-above.ensures.acyclic
