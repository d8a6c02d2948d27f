-- The row is of the state, or the rows behind it are left.
use Rattle.std.proofs.Common.{◌≡◌, true, false, Option, None, Some, length, sym, ap, ◌∙◌}
use Rattle.certificate.specs.Rows.{Row, shown}
use Rattle.certificate_check.specs.Claims.{row_state, row_of, rows_of}
use Rattle.decision_process.specs.Readings.{row_at}
use Rattle.ground_model.specs.Packed.{State, same_state}
use Rattle.cert_merge.specs.Drafts.{own}
use Rattle.cert_merge.proofs.Interval.{Line, state_is, step_on, step_off}
use Rattle.cert_merge.proofs.reading.bounds_at.Goals as goal

pub returns-then-eq-clause-lower : goal.returns-then-eq-clause-lower
returns-then-eq-clause-lower c =
    let g = c.args.problem.now in let draft = c.args.draft.now in let s = c.args.state.now in let r : Row = shown c.row-row.result in
    let state : c.write_state.new.room.state ≡ row_state g (own g draft) r
    = c.in_ok-write_state.ensures.state
    ∙ state_is g (own g draft) c.requires.form c.requires.known c.args.numbers.now (length c.loop-place.room.state) r c.requires.numbers c.loop-place.invariant.room in
    let on : same_state (row_state g (own g draft) r) s ≡ true
    = ap (λ (t : State). same_state t s) (sym state) ∙ sym c.eq.ensures ∙ c.if-eq.true in
    let found : row_at same_state (rows_of g (own g draft) draft.rows) s ≡ Some (row_of g (own g draft) r)
    = sym c.loop-place.invariant.left ∙ step_on g (own g draft) c.requires.form c.requires.known s c.loop-place.place r c.row-row.ensures on in
    sym (ap (λ (o : Option Line). elim o [ None ↦ 0 | Some x ↦ x.lower ]) found)

pub returns-then-eq-clause-upper : goal.returns-then-eq-clause-upper
returns-then-eq-clause-upper c =
    let g = c.args.problem.now in let draft = c.args.draft.now in let s = c.args.state.now in let r : Row = shown c.row-row.result in
    let state : c.write_state.new.room.state ≡ row_state g (own g draft) r
    = c.in_ok-write_state.ensures.state
    ∙ state_is g (own g draft) c.requires.form c.requires.known c.args.numbers.now (length c.loop-place.room.state) r c.requires.numbers c.loop-place.invariant.room in
    let on : same_state (row_state g (own g draft) r) s ≡ true
    = ap (λ (t : State). same_state t s) (sym state) ∙ sym c.eq.ensures ∙ c.if-eq.true in
    let found : row_at same_state (rows_of g (own g draft) draft.rows) s ≡ Some (row_of g (own g draft) r)
    = sym c.loop-place.invariant.left ∙ step_on g (own g draft) c.requires.form c.requires.known s c.loop-place.place r c.row-row.ensures on in
    sym (ap (λ (o : Option Line). elim o [ None ↦ g.penalty | Some x ↦ x.upper ]) found)

pub loop-place-preserved : goal.loop-place-preserved
loop-place-preserved c =
    let g = c.args.problem.now in let draft = c.args.draft.now in let s = c.args.state.now in let r : Row = shown c.row-row.result in
    let state : c.write_state.new.room.state ≡ row_state g (own g draft) r
    = c.in_ok-write_state.ensures.state
    ∙ state_is g (own g draft) c.requires.form c.requires.known c.args.numbers.now (length c.loop-place.room.state) r c.requires.numbers c.loop-place.invariant.room in
    let off : same_state (row_state g (own g draft) r) s ≡ false
    = ap (λ (t : State). same_state t s) (sym state) ∙ sym c.eq.ensures ∙ c.if-eq.false in
    record {
      room = c.in_ok-write_state.ensures.long ∙ c.loop-place.invariant.room;
      left = sym (step_off g (own g draft) c.requires.form c.requires.known s c.loop-place.place r c.row-row.ensures off) ∙ c.loop-place.invariant.left;
    }
