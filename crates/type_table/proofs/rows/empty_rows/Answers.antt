use Rattle.std.proofs.Common.{◌≡◌, [], map, sym, subst, ◌+◌, List, ℕ, arith}
use Rattle.type_table.specs.Reading.{items_of}
use Rattle.type_table.specs.Rows.{EachRow}
use Rattle.type_table.proofs.RowSteps.{rows_more, vectors_more}
use Rattle.type_table.proofs.rows.empty_rows.Goals as goal

abbrev IsEmpty : ℕ → List ℕ → Type 0
IsEmpty k row = row ≡ []

pub loop-kind-init : goal.loop-kind-init
loop-kind-init c = subst (λ rows. EachRow 0 IsEmpty (map items_of rows)) (sym c.new-rows.ensures.items) (record {
  many = omega arith;
  each = λ k below. absurd (omega arith);
})

pub loop-kind-preserved : goal.loop-kind-preserved
loop-kind-preserved c =
    subst (λ rows. EachRow (c.loop-kind._kind + 1) IsEmpty (map items_of rows)) (sym c.in_ok-push.ensures.items)
    (subst (EachRow (c.loop-kind._kind + 1) IsEmpty) (sym (vectors_more c.loop-kind.rows.items c.new.result))
    (rows_more c.loop-kind._kind IsEmpty (map items_of c.loop-kind.rows.items) c.new.result.items c.loop-kind.invariant c.new.ensures.items))

pub returns : goal.returns
returns c = subst (λ n. EachRow n IsEmpty (map items_of c.loop-kind.rows.items)) (omega (arith, c.loop-kind.auto._kind-end, c.loop-kind-test.false)) c.loop-kind.invariant
