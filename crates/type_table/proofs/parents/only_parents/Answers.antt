use Rattle.std.proofs.Common.{◌≡◌, ◌+◌, ◌∙◌, Err, map, sym, subst, ap, arith}
use Rattle.std.specs.Prelude.{IfSome}
use Rattle.std.proofs.lemmas.Result.{err_from_is_err_and}
use Rattle.type_table.specs.declared.refusal.TypeRefusal.TheVariants.{Cycle}
use Rattle.type_table.specs.Forest.{IsOnly, IsOwnParent, IsSingle}
use Rattle.type_table.specs.Reading.{items_of}
use Rattle.type_table.specs.Rows.{row_at}
use Rattle.type_table.proofs.Lists.{map_length, handed_on}
use Rattle.type_table.proofs.RowSteps.{row_of_vector}
use Rattle.type_table.proofs.Rounds.{AreOnly, only_more, single_of, round_of_own}
use Rattle.type_table.proofs.parents.only_parents.Goals as goal

pub returns-in_err-parent-clause-cycle : goal.returns-in_err-parent-clause-cycle
returns-in_err-parent-clause-cycle c is =
    let rows = map items_of c.args.rows.now in
    let l = c.loop-kind in
    let row : c.as_slice.result.now ≡ row_at rows l.kind = c.as_slice.ensures.value ∙ sym (row_of_vector c.args.rows.now l.kind c.index-rows-kind.result c.loop-kind-test.true c.index-rows-kind.is) in
    let p = err_from_is_err_and c.from_residual.result c.from_residual.ensures.1 in
    let own = c.in_err-parent.ensures.cycle (handed_on c.from_residual.result c.in_err-parent.field-0.0 Cycle (p.1 ∙ ap Err p.2) is) in
    round_of_own rows l.kind (subst (λ r. IsOwnParent r l.kind) row own)

pub loop-kind-preserved : goal.loop-kind-preserved
loop-kind-preserved c =
    let rows = map items_of c.args.rows.now in
    let l = c.loop-kind in
    let row : c.as_slice.result.now ≡ row_at rows l.kind = c.as_slice.ensures.value ∙ sym (row_of_vector c.args.rows.now l.kind c.index-rows-kind.result c.loop-kind-test.true c.index-rows-kind.is) in
    let only : IsOnly c.as_slice.result.now l.kind c.in-Some.parent = subst (λ o. IfSome o (IsOnly c.as_slice.result.now l.kind)) c.in-Some.is c.in_ok-parent.ensures.only in
    subst (AreOnly rows (l.kind + 1)) (sym c.in_ok-push.ensures)
    (only_more rows l.kind l.parents.items c.in-Some.parent l.invariant (subst (λ r. IsOnly r l.kind c.in-Some.parent) row only))

pub returns-clause-single : goal.returns-clause-single
returns-clause-single c =
    let rows = map items_of c.args.rows.now in
    subst (IsSingle rows) (sym c.from_vec.ensures)
    (single_of rows c.loop-kind.kind c.loop-kind.parents.items c.requires.within
    (omega (arith, c.loop-kind.auto.kind-end, c.loop-kind-test.false, map_length items_of c.args.rows.now)) c.loop-kind.invariant)
