use Rattle.std.proofs.Common.{rules}
use Rattle.std.proofs.lemmas.Option.{slice_get_within}
use Rattle.bound_core.proofs.lemmas.ends.Adding.{row_there, first_row, fits, one_more}
use Rattle.bound_core.proofs.ends.add_up.Goals as goal

pub bounds-rows-place : goal.bounds-rows-place
bounds-rows-place c =
    let at = first_row c.args.problem.now c.args.rows.now c.requires.starts c.starts-start-items.result.now c.starts-start-items.ensures.value c.loop-place.place c.start-item.result (search rules) c.start-item.is in
    slice_get_within c.args.rows.now c.loop-place.place at.row at.here

pub with-sums-requires-clause-lower : goal.with-sums-requires-clause-lower
with-sums-requires-clause-lower c =
    let g = c.args.problem.now in let rows = c.args.rows.now in let xs = c.starts-start-items.result.now in let i = c.loop-place.place in
    let x = c.start-item.result in let row = c.index-rows-place.result in
    let at = first_row g rows c.requires.starts xs c.starts-start-items.ensures.value i x (search rules) c.start-item.is in
    let there = row_there rows i x at row c.index-rows-place.is in
    (fits g rows c.requires.closing xs i x (search rules) c.start-item.is row there.0 there.1 c.loop-place.sums c.loop-place.invariant c.starts-start-items.ensures.valid c.starts-start-items.ensures.value).0

pub with-sums-requires-clause-upper : goal.with-sums-requires-clause-upper
with-sums-requires-clause-upper c =
    let g = c.args.problem.now in let rows = c.args.rows.now in let xs = c.starts-start-items.result.now in let i = c.loop-place.place in
    let x = c.start-item.result in let row = c.index-rows-place.result in
    let at = first_row g rows c.requires.starts xs c.starts-start-items.ensures.value i x (search rules) c.start-item.is in
    let there = row_there rows i x at row c.index-rows-place.is in
    (fits g rows c.requires.closing xs i x (search rules) c.start-item.is row there.0 there.1 c.loop-place.sums c.loop-place.invariant c.starts-start-items.ensures.valid c.starts-start-items.ensures.value).1

pub loop-place-preserved : goal.loop-place-preserved
loop-place-preserved c =
    let g = c.args.problem.now in let rows = c.args.rows.now in let xs = c.starts-start-items.result.now in let i = c.loop-place.place in
    let x = c.start-item.result in let row = c.index-rows-place.result in
    let at = first_row g rows c.requires.starts xs c.starts-start-items.ensures.value i x (search rules) c.start-item.is in
    let there = row_there rows i x at row c.index-rows-place.is in
    one_more g rows c.requires.closing xs i x (search rules) c.start-item.is row there.0 there.1 c.loop-place.sums c.loop-place.invariant c.with-sums.result c.with-sums.ensures.lower c.with-sums.ensures.upper
