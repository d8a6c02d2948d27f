-- A row that is set.
use Rattle.std.proofs.Common.{◌≡◌, ℕ, length, slice_set, sym, subst, arith}
use Rattle.std.proofs.lemmas.List.{length-set, get_or-set_same, get_or-set_other, get_or_past}
use mathlib.Core.Logic.{dite}
use native.Mathlib.Decide.{ℕ_discrete, dec_lt}
use Rattle.ground_model.specs.Packed.{State}
use Rattle.ground_model.specs.Ground.{Ground}
use Rattle.kept_transitions.specs.declared.kept_row.KeptRow.{KeptRow}
use Rattle.kept_transitions.specs.Rows.{Transitions, IsKept, never, row_of, with_row}
use Rattle.kept_transitions.specs.Meaning.{IsKeptState, AreKeptStates}

nothing_is_kept : IsKept never → ⊥
nothing_is_kept kept = omega arith

module _ (R : State → ℕ → Type 0) (g : Ground) (t : Transitions) (id : ℕ) (row : KeptRow) where
  abbrev now : Transitions
  now = with_row t id row

  -- what a row has rests on no row
  rows_aside : (j : ℕ) (r : KeptRow) → IsKeptState R g j t r → IsKeptState R g j now r
  rows_aside j r is = record {
    state = is.state;
    is = is.is;
    off_goal = is.off_goal;
    actions = record { codes = is.actions.codes; enough = is.actions.enough; count = is.actions.count; each = is.actions.each };
  }

  module _ (are : AreKeptStates R g t) (is : IsKept row → IsKeptState R g id t row) where
    own_row : IsKept (row_of now id) → IsKeptState R g id now (row_of now id)
    own_row kept = dite (dec_lt id (length t.rows))
        (λ inside.
        let set : row_of now id ≡ row = get_or-set_same t.rows id row never inside in
        subst (IsKeptState R g id now) (sym set) (rows_aside id row (is (subst IsKept set kept))))
        (λ outside.
        let long = length-set t.rows id row in
        let none : row_of now id ≡ never = get_or_past (slice_set t.rows id row) id never (omega arith) in
        absurd (nothing_is_kept (subst IsKept none kept)))

    other_row : (j : ℕ) → (j ≡ id → ⊥) → IsKept (row_of now j) → IsKeptState R g j now (row_of now j)
    other_row j other kept =
        let same : row_of now j ≡ row_of t j = get_or-set_other t.rows id j row never other in
        subst (IsKeptState R g j now) (sym same) (rows_aside j (row_of t j) (are j (subst IsKept same kept)))

    pub kept_more : AreKeptStates R g now
    kept_more j kept = dite (ℕ_discrete j id)
        (λ here. subst (λ i. IsKept (row_of now i) → IsKeptState R g i now (row_of now i)) (sym here) own_row kept)
        (λ other. other_row j other kept)
