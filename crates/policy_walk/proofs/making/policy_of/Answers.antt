-- The rows from a place on are one more than those behind it.
use Rattle.std.proofs.Common.{◌≡◌, ℕ, suc, ◌-◌, ◌∷◌, drop, Some, length, ap, sym, subst, ◌∙◌, arith}
use Rattle.std.specs.List.{slice_get}
use Rattle.certificate.specs.Rows.{Row, shown}
use Rattle.certificate.specs.Content.{IsRow}
use Rattle.policy_walk.specs.Tables.{HasRows}
use Rattle.policy_walk.proofs.Rows.{at_place, from_place, acts_are, is_policy}
use Rattle.policy_walk.proofs.making.policy_of.Goals as goal

pub put_row-requires-clause-row : goal.put_row-requires-clause-row
put_row-requires-clause-row c =
    let m = c.args.certificate.now in
    at_place (IsRow (length m.atoms) (length m.acts)) m.rows (c.loop-place.place - 1) (shown c.row-row.result) c.rows-rows.ensures.valid.rows
    (subst (λ l. slice_get l (c.loop-place.place - 1) ≡ Some (shown c.row-row.result)) c.rows-rows.ensures.value c.row-row.ensures)

pub loop-place-preserved : goal.loop-place-preserved
loop-place-preserved c =
    let g = c.args.problem.now in let m = c.args.certificate.now in let r : Row = shown c.row-row.result in
    let i : ℕ = c.loop-place.place - 1 in
    let there : slice_get m.rows i ≡ Some r
    = subst (λ l. slice_get l i ≡ Some r) c.rows-rows.ensures.value c.row-row.ensures in
    let next : suc i ≡ c.loop-place.place = omega (arith, c.loop-place-test.true) in
    let split : drop i m.rows ≡ r ∷ drop c.loop-place.place m.rows
    = from_place m.rows i r there ∙ ap (λ n. r ∷ drop n m.rows) next in (
      omega (arith, c.loop-place.invariant.0),
      c.loop-place.invariant.1,
      subst (λ l. HasRows g m l c.put_row.new.acts.entries) (sym split)
          (c.in_ok-put_row.ensures (drop c.loop-place.place m.rows) c.loop-place.invariant.2),
    )

pub returns-clause-acts : goal.returns-clause-acts
returns-clause-acts c =
    let m = c.args.certificate.now in
    let none : c.loop-place.place ≡ 0 = omega (arith, c.loop-place-test.false) in
    acts_are c.args.problem.now m c.requires c.loop-place.acts.entries
    (subst (λ n. HasRows c.args.problem.now m (drop n m.rows) c.loop-place.acts.entries) none c.loop-place.invariant.2)

pub returns-clause-is_policy : goal.returns-clause-is_policy
returns-clause-is_policy c =
    let m = c.args.certificate.now in
    let none : c.loop-place.place ≡ 0 = omega (arith, c.loop-place-test.false) in
    is_policy c.args.problem.now m c.requires c.loop-place.acts.entries
    (subst (λ n. HasRows c.args.problem.now m (drop n m.rows) c.loop-place.acts.entries) none c.loop-place.invariant.2)
