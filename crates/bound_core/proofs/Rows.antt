-- The numbers of rows are those of their states, where no two published rows have one state.
use Rattle.std.proofs.Common.{◌≡◌, ◌≢◌, ℕ, suc, zero, min, max, cond, true, false, ◌&&◌, List, [], ◌∷◌, None, Some, refl, sym, ap, inl, inr, ◌∙◌, arith}
use Rattle.std.specs.Prelude.{Option}
use Rattle.std.specs.List.{slice_get}
use Rattle.std.specs.Cmp.Lexicographic.{bytes_decides}
use Rattle.std.proofs.lemmas.Bool.{cases_Bool, and_parts}
use Rattle.ground_model.specs.Packed.{State, same_state}
use Rattle.ground_model.specs.Ground.{Ground}
use Rattle.bound_core.specs.declared.id_row.IdRow.{IdRow}
use Rattle.bound_core.specs.Numbers.{first_word}
use Rattle.bound_core.specs.Shown.{state_in, published_state, is_of, lower_in, upper_in}
use Rattle.bound_core.specs.Laws as laws
use Rattle.bound_core.proofs.Numbers.{same_state_itself, none_is_not_some}

pub is_of_published : (row : Option IdRow) (s : State) → is_of row s ≡ true → published_state row ≡ Some s
is_of_published None s on = absurd cc
is_of_published (Some row) s on =
    let parts = and_parts row.published (same_state (state_in row) s) on in
    ap (λ b. cond b (Some (state_in row)) None) parts.0 ∙ ap Some ((bytes_decides (state_in row) s).0 parts.1)

none_of : (rows : List IdRow) (s : State) → ((i : ℕ) → is_of (slice_get rows i) s ≡ false)
    → (lower_in rows s ≡ 0) × ((first : ℕ) → upper_in first rows s ≡ first)
none_of [] s other = (refl, λ first. refl)
none_of (row ∷ rows) s other =
    let rest = none_of rows s (λ i. other (suc i)) in (
      ap (λ b. cond b (max (lower_in rows s) row.lower) (lower_in rows s)) (other 0) ∙ rest.0,
      λ first. ap (λ b. cond b (min (upper_in first rows s) row.upper) (upper_in first rows s)) (other 0) ∙ rest.1 first,
    )

only_row : (rows : List IdRow) (id : ℕ) (row : IdRow) (s : State) → slice_get rows id ≡ Some row → is_of (Some row) s ≡ true
    → ((j : ℕ) → j ≢ id → is_of (slice_get rows j) s ≡ false)
    → (lower_in rows s ≡ row.lower) × ((first : ℕ) → upper_in first rows s ≡ min first row.upper)
only_row [] id row s there on other = absurd (none_is_not_some row there)
only_row (first_row ∷ rows) zero row s there on other =
    let here : first_row ≡ row = cc in
    let rest = none_of rows s (λ i. other (suc i) (λ same. omega arith)) in
    let there_on : is_of (Some first_row) s ≡ true = ap (λ r. is_of (Some r) s) here ∙ on in (
      ap (λ b. cond b (max (lower_in rows s) first_row.lower) (lower_in rows s)) there_on
          ∙ ap (λ n. max n first_row.lower) rest.0 ∙ (let z : max 0 first_row.lower ≡ first_row.lower = omega arith in z)
          ∙ ap (λ (r : IdRow). r.lower) here,
      λ first. ap (λ b. cond b (min (upper_in first rows s) first_row.upper) (upper_in first rows s)) there_on
          ∙ ap (λ n. min n first_row.upper) (rest.1 first) ∙ ap (λ (r : IdRow). min first r.upper) here,
    )
only_row (first_row ∷ rows) (suc id) row s there on other =
    let rest = only_row rows id row s there on (λ j apart. other (suc j) (λ same. apart (omega arith))) in
    let off : is_of (Some first_row) s ≡ false = other 0 (λ same. omega arith) in (
      ap (λ b. cond b (max (lower_in rows s) first_row.lower) (lower_in rows s)) off ∙ rest.0,
      λ first. ap (λ b. cond b (min (upper_in first rows s) first_row.upper) (upper_in first rows s)) off ∙ rest.1 first,
    )

published_is_of : (row : IdRow) → published_state (Some row) ≡ Some (state_in row) → is_of (Some row) (state_in row) ≡ true
published_is_of row there = elim (cases_Bool row.published) [
  | inl on ↦ ap (λ b. b && same_state (state_in row) (state_in row)) on ∙ same_state_itself (state_in row)
  | inr off ↦ absurd (none_is_not_some (state_in row) (ap (λ b. cond b (Some (state_in row)) None) (sym off) ∙ there))
]

module _ (g : Ground) where
  pub rows_show_their_numbers : laws.RowsShowTheirNumbers g
  rows_show_their_numbers c states id row there published =
      let s : State = state_in row in
      let mine : published_state (Some row) ≡ Some s = ap published_state (sym there) ∙ published in
      let only = only_row c.ids id row s there (published_is_of row mine)
      (λ j apart. elim (cases_Bool (is_of (slice_get c.ids j) s)) [
        | inl on ↦ absurd (apart (states.distinct j id s (is_of_published (slice_get c.ids j) s on) published))
        | inr off ↦ off
      ]) in (
        only.0,
        only.1 (first_word g s),
      )
