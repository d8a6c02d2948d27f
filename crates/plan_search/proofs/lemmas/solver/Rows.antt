-- The rows of a closed table, and the ids that they are of.
use Rattle.std.proofs.Common.{◌≡◌, ℕ, zero, suc, ◌+◌, ◌-◌, ◌<◌, ◌≤◌, Some, List, [], ◌∷◌, get_or, sym, ap, ◌∙◌, inl, inr, arith}
use Rattle.std.specs.Prelude.{AllPairs, Contains, is_some}
use Rattle.std.specs.List.{slice_get}
use Rattle.std.proofs.lemmas.Option.{slice_get-get_or, slice_get_within, slice_get_cases}
use Rattle.plain_list.proofs.Members.{Contains-first, Contains-cons_cases, Contains-nil}
use Rattle.plain_list.proofs.Related.{AllPairs-head, AllPairs-tail}
use Rattle.ground_model.specs.Packed.{State}
use Rattle.ground_model.proofs.Steps.{slice_get-contains}
use Rattle.bound_core.specs.declared.image.ImageRow.{ImageRow}
use Rattle.bound_core.specs.Core.{Core}
use Rattle.word_table.specs.Closed.{IsRow, AreRows}
use Rattle.bound_core.specs.ends.Closing.{IsRowAt}

pub some_is : {X : Type 0} (x y : X) → Some x ≡ Some y → x ≡ y
some_is x y same = cc

pub place_of : {X : Type 0} (xs : List X) (x : X) → Contains xs x → (k : ℕ) × (slice_get xs k ≡ Some x)
place_of xs x (k, below, found) = (k, slice_get-get_or xs k x below ∙ ap Some found)

module _ (c : Core) (ids : List ℕ) (rows : List ImageRow) (are : AreRows c ids rows) where
  pub row_shown : (k : ℕ) (row : ImageRow) → slice_get rows k ≡ Some row → IsRow c (get_or ids k 0) row
  row_shown k row at =
      let below = slice_get_within rows k row at in
      let here = slice_get-get_or ids k 0 (let count = are.count in omega arith) in
      are.each k (get_or ids k 0) row here at

  pub shown : (row : ImageRow) → Contains rows row → (id : ℕ) × IsRow c id row
  shown row there = let place = place_of rows row there in (get_or ids place.0 0, row_shown place.0 row place.1)

  pub row_here : (k id : ℕ) (s : State) → slice_get ids k ≡ Some id → c.state_of id ≡ Some s → IsRowAt rows k s
  row_here k id s at state = elim (slice_get_cases rows k).1 [
    | inl t ↦ record { row = t.0; here = t.2; of_state = some_is t.0.state s (sym (are.each k id t.0 at t.2).state ∙ state) }
    | inr t ↦ absurd (let below = slice_get_within ids k id at in let count = are.count in let past = t.0 in omega arith)
  ]

  -- a state that is published has a row
  pub row_of : (id : ℕ) (s : State) → c.state_of id ≡ Some s → (row : ImageRow) × Contains rows row × (row.state ≡ s)
  row_of id s state =
      let place = place_of ids id (are.all id (ap is_some state)) in
      let row = row_here place.0 id s place.1 state in
      (row.row, slice_get-contains rows place.0 row.row row.here, row.of_state)

-- ---- the first ids

-- numbers that rise from a on, with all below a + n among them, begin with these
head_is : (n a x : ℕ) (ids : List ℕ) → AllPairs (λ i j. i < j) (x ∷ ids) → ((i : ℕ) → Contains (x ∷ ids) i → a ≤ i)
    → ((i : ℕ) → a ≤ i → i < a + n → Contains (x ∷ ids) i) → 0 < n → x ≡ a
head_is n a x ids rise from all some = elim (Contains-cons_cases x ids a (all a (omega arith) (omega arith))) [
  | inl here ↦ here
  | inr later ↦ absurd (let less = AllPairs-head (λ i j. i < j) x ids rise a later in let least = from x (Contains-first x ids) in omega arith)
]

from_first : (k n a : ℕ) (ids : List ℕ) → AllPairs (λ i j. i < j) ids → ((i : ℕ) → Contains ids i → a ≤ i)
    → ((i : ℕ) → a ≤ i → i < a + n → Contains ids i) → k < n → slice_get ids k ≡ Some (a + k)
from_first k n a [] rise from all below = absurd (Contains-nil a (all a (omega arith) (omega arith)))
from_first zero n a (x ∷ ids) rise from all below = ap Some (let is = head_is n a x ids rise from all (omega arith) in omega arith)
from_first (suc k) n a (x ∷ ids) rise from all below =
    let is = head_is n a x ids rise from all (omega arith) in
    let rest : slice_get ids k ≡ Some (a + 1 + k)
    = from_first k (n - 1) (a + 1) ids (AllPairs-tail (λ i j. i < j) x ids rise)
    (λ i there. let less = AllPairs-head (λ i j. i < j) x ids rise i there in omega arith)
    (λ i above under. elim (Contains-cons_cases x ids i (all i (omega arith) (omega arith))) [
      | inl here ↦ absurd (omega arith)
      | inr later ↦ later
    ]) (omega arith) in
    rest ∙ ap Some (let same : a + 1 + k ≡ a + suc k = omega arith in same)

pub rising_first : (n : ℕ) (ids : List ℕ) → AllPairs (λ i j. i < j) ids → ((i : ℕ) → i < n → Contains ids i)
    → (k : ℕ) → k < n → slice_get ids k ≡ Some k
rising_first n ids rise all k below = from_first k n 0 ids rise (λ i there. omega arith) (λ i above under. all i (omega arith)) below
    ∙ ap Some (let same : 0 + k ≡ k = omega arith in same)
