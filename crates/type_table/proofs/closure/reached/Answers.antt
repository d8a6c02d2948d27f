use Rattle.std.proofs.Common.{◌≡◌, ◌<◌, ◌≤◌, ◌∙◌, length, map, get_or, sym, ap, subst, arith, rules}
use Rattle.type_table.specs.Reading.{items_of}
use Rattle.type_table.specs.Rows.{row_at, Adds, IsReached}
use Rattle.type_table.proofs.Lists.{map_length}
use Rattle.type_table.proofs.RowSteps.{seen_few, search_ends, search_goes_on, next_within, row_of_vector}
use Rattle.type_table.proofs.closure.reached.Goals as goal

pub bounds-parents-current : goal.bounds-parents-current
bounds-parents-current c =
    let l = c.loop-next in
    let rows = map items_of c.args.parents.now in
    let left : l.next < length l.seen.keys = search rules in
    let keys : get_or c.as_slice.result.now l.next 0 ≡ get_or l.seen.keys l.next 0 = ap (λ ks. get_or ks l.next 0) c.as_slice.ensures.keys in
    omega (arith, keys, map_length items_of c.args.parents.now, next_within rows c.args.kind l.next l.seen.keys l.invariant left)

pub loop-next-smaller : goal.loop-next-smaller
loop-next-smaller c =
    let l = c.loop-next in
    let rows = map items_of c.args.parents.now in
    let left : l.next < length l.seen.keys = search rules in
    omega (arith, left, map_length items_of c.args.parents.now, seen_few rows c.args.kind l.next l.seen.keys l.invariant)

pub loop-next-preserved : goal.loop-next-preserved
loop-next-preserved c =
    let l = c.loop-next in
    let rows = map items_of c.args.parents.now in
    let left : l.next < length l.seen.keys = search rules in
    let keys : get_or c.as_slice.result.now l.next 0 ≡ get_or l.seen.keys l.next 0 = ap (λ ks. get_or ks l.next 0) c.as_slice.ensures.keys in
    let row : c.as_slice-in-loop-next.result.now ≡ row_at rows (get_or c.as_slice.result.now l.next 0) =
    c.as_slice-in-loop-next.ensures.value
    ∙ sym (row_of_vector c.args.parents.now (get_or c.as_slice.result.now l.next 0) c.index-parents-current.result
    (omega (arith, keys, map_length items_of c.args.parents.now, next_within rows c.args.kind l.next l.seen.keys l.invariant left)) c.index-parents-current.is) in
    search_goes_on rows c.args.kind l.next l.seen.keys l.invariant (get_or c.as_slice.result.now l.next 0) c.add_all.new.seen.keys c.requires.within left keys
    (subst (λ xs. Adds l.seen.keys xs c.add_all.new.seen.keys) row c.in_ok-add_all.ensures.added) c.in_ok-add_all.ensures.distinct

pub returns : goal.returns
returns c =
    let l = c.loop-next in
    let rows = map items_of c.args.parents.now in
    let past : length l.seen.keys ≤ l.next = search rules in
    let same : c.from_vec.result ≡ l.seen.keys = c.from_vec.ensures ∙ c.in_ok-to_vec.ensures.items_if_clones_equal (λ _ _ e. e) ∙ c.as_slice-2.ensures.keys in
    subst (IsReached rows c.args.kind) (sym same) (search_ends rows c.args.kind l.next l.seen.keys l.invariant past)
