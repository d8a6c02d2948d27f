-- The numbers of rows, once one of them has changed or one is new.
use Rattle.std.proofs.Common.{◌≡◌, ℕ, suc, zero, ◌≤◌, min, max, cond, Bool, true, false, ◌&&◌, List, [], ◌∷◌, ◌++◌, length, None, Some, refl, sym, ap, ◌∙◌, arith}
use Rattle.std.specs.Prelude.{Option, slice_set, replicate}
use Rattle.std.specs.Option.{unwrap_or}
use Rattle.std.specs.List.{slice_get}
use Rattle.ground_model.specs.Packed.{State, same_state}
use Rattle.ground_model.specs.Ground.{Ground}
use Rattle.bound_core.specs.declared.id_row.IdRow.{IdRow}
use Rattle.bound_core.specs.Numbers.{raised_at}
use Rattle.bound_core.specs.Core.{width}
use Rattle.bound_core.specs.Shown.{state_in, published_state, is_of, lower_in, upper_in, word_at}
use Rattle.core_run.specs.Stepped.{raised_row, sunk_row, empty_row}
use Rattle.core_run.proofs.Shown.{SameKeys, set_places, same_state_turned}

-- numbers at a test
both_raised : (b : Bool) (m l v : ℕ) → cond b (max m (max l v)) m ≡ cond b (max (cond b (max m l) m) v) (cond b (max m l) m)
both_raised true m l v = omega arith
both_raised false m l v = refl

later_raised : (b p : Bool) (m l v : ℕ) → cond p (max (cond b (max m v) m) l) (cond b (max m v) m) ≡ cond b (max (cond p (max m l) m) v) (cond p (max m l) m)
later_raised true true m l v = omega arith
later_raised true false m l v = refl
later_raised false true m l v = refl
later_raised false false m l v = refl

both_sunk : (b : Bool) (m l v : ℕ) → cond b (min m (min l v)) m ≡ cond b (min (cond b (min m l) m) v) (cond b (min m l) m)
both_sunk true m l v = omega arith
both_sunk false m l v = refl

later_sunk : (b p : Bool) (m l v : ℕ) → cond p (min (cond b (min m v) m) l) (cond b (min m v) m) ≡ cond b (min (cond p (min m l) m) v) (cond p (min m l) m)
later_sunk true true m l v = omega arith
later_sunk true false m l v = refl
later_sunk false true m l v = refl
later_sunk false false m l v = refl

-- a raise of a row is a raise at its state
raised_rows : (ids : List IdRow) (id : ℕ) (row : IdRow) (value : ℕ) (t : State) → slice_get ids id ≡ Some row
    → lower_in (slice_set ids id (raised_row row value)) t ≡ cond (is_of (Some row) t) (max (lower_in ids t) value) (lower_in ids t)
raised_rows [] id row value t there = absurd cc
raised_rows (first ∷ ids) zero row value t there =
    let here : first ≡ row = cc in
    both_raised (is_of (Some row) t) (lower_in ids t) row.lower value
    ∙ ap (λ r. cond (is_of (Some row) t) (max (cond (is_of (Some r) t) (max (lower_in ids t) r.lower) (lower_in ids t)) value)
    (cond (is_of (Some r) t) (max (lower_in ids t) r.lower) (lower_in ids t))) (sym here)
raised_rows (first ∷ ids) (suc id) row value t there =
    ap (λ m. cond (is_of (Some first) t) (max m first.lower) m) (raised_rows ids id row value t there)
    ∙ later_raised (is_of (Some row) t) (is_of (Some first) t) (lower_in ids t) first.lower value

sunk_rows : (first : ℕ) (ids : List IdRow) (id : ℕ) (row : IdRow) (word : ℕ) (t : State) → slice_get ids id ≡ Some row
    → upper_in first (slice_set ids id (sunk_row row word)) t ≡ cond (is_of (Some row) t) (min (upper_in first ids t) word) (upper_in first ids t)
sunk_rows first [] id row word t there = absurd cc
sunk_rows first (head ∷ ids) zero row word t there =
    let here : head ≡ row = cc in
    both_sunk (is_of (Some row) t) (upper_in first ids t) row.upper word
    ∙ ap (λ r. cond (is_of (Some row) t) (min (cond (is_of (Some r) t) (min (upper_in first ids t) r.upper) (upper_in first ids t)) word)
    (cond (is_of (Some r) t) (min (upper_in first ids t) r.upper) (upper_in first ids t))) (sym here)
sunk_rows first (head ∷ ids) (suc id) row word t there =
    ap (λ m. cond (is_of (Some head) t) (min m head.upper) m) (sunk_rows first ids id row word t there)
    ∙ later_sunk (is_of (Some row) t) (is_of (Some head) t) (upper_in first ids t) head.upper word

-- the state of a published row, where it is compared
pub published_test : (row : IdRow) (t : State) → row.published ≡ true → is_of (Some row) t ≡ same_state t (state_in row)
published_test row t on = ap (λ b. b && same_state (state_in row) t) on ∙ same_state_turned (state_in row) t

pub raised_lower : (ids : List IdRow) (id : ℕ) (row : IdRow) (value : ℕ) (t : State) → slice_get ids id ≡ Some row → row.published ≡ true
    → lower_in (slice_set ids id (raised_row row value)) t ≡ raised_at (state_in row) value (lower_in ids) t
raised_lower ids id row value t there on =
    raised_rows ids id row value t there ∙ ap (λ b. cond b (max (lower_in ids t) value) (lower_in ids t)) (published_test row t on)

pub sunk_upper : (first : ℕ) (ids : List IdRow) (id : ℕ) (row : IdRow) (word : ℕ) (t : State) → slice_get ids id ≡ Some row → row.published ≡ true
    → upper_in first (slice_set ids id (sunk_row row word)) t ≡ cond (same_state t (state_in row)) (min (upper_in first ids t) word) (upper_in first ids t)
sunk_upper first ids id row word t there on =
    sunk_rows first ids id row word t there ∙ ap (λ b. cond b (min (upper_in first ids t) word) (upper_in first ids t)) (published_test row t on)

pub upper_in-le_first : (first : ℕ) (ids : List IdRow) (t : State) → upper_in first ids t ≤ first
upper_in-le_first first [] t = omega arith
upper_in-le_first first (row ∷ ids) t =
    let rest = upper_in-le_first first ids t in elim (is_of (Some row) t) as
    (λ b. cond b (min (upper_in first ids t) row.upper) (upper_in first ids t) ≤ first) [
      | true ↦ omega arith
      | false ↦ rest
    ]

-- where what a row adds is the same
pub lower_kept : (ids : List IdRow) (id : ℕ) (row row' : IdRow) (t : State) → slice_get ids id ≡ Some row
    → ((m : ℕ) → cond (is_of (Some row') t) (max m row'.lower) m ≡ cond (is_of (Some row) t) (max m row.lower) m)
    → lower_in (slice_set ids id row') t ≡ lower_in ids t
lower_kept [] id row row' t there same = absurd cc
lower_kept (first ∷ ids) zero row row' t there same =
    let here : first ≡ row = cc in
    same (lower_in ids t) ∙ ap (λ r. cond (is_of (Some r) t) (max (lower_in ids t) r.lower) (lower_in ids t)) (sym here)
lower_kept (first ∷ ids) (suc id) row row' t there same =
    ap (λ m. cond (is_of (Some first) t) (max m first.lower) m) (lower_kept ids id row row' t there same)

pub upper_kept : (first : ℕ) (ids : List IdRow) (id : ℕ) (row row' : IdRow) (t : State) → slice_get ids id ≡ Some row
    → ((m : ℕ) → m ≤ first → cond (is_of (Some row') t) (min m row'.upper) m ≡ cond (is_of (Some row) t) (min m row.upper) m)
    → upper_in first (slice_set ids id row') t ≡ upper_in first ids t
upper_kept first [] id row row' t there same = absurd cc
upper_kept first (head ∷ ids) zero row row' t there same =
    let here : head ≡ row = cc in
    same (upper_in first ids t) (upper_in-le_first first ids t)
    ∙ ap (λ r. cond (is_of (Some r) t) (min (upper_in first ids t) r.upper) (upper_in first ids t)) (sym here)
upper_kept first (head ∷ ids) (suc id) row row' t there same =
    ap (λ m. cond (is_of (Some head) t) (min m head.upper) m) (upper_kept first ids id row row' t there same)

-- ---- a row with the same state and words

pub set_keys : (ids : List IdRow) (id : ℕ) (row row' : IdRow) → slice_get ids id ≡ Some row → published_state (Some row') ≡ published_state (Some row)
    → row'.words ≡ row.words → SameKeys ids (slice_set ids id row')
set_keys ids id row row' there state words = record {
  state = set_places (λ _ o o'. published_state o' ≡ published_state o) ids id row row' there state (λ j apart. refl);
  word = λ j place. set_places (λ _ o o'. word_at o' place ≡ word_at o place) ids id row row' there
      (ap (λ ws. unwrap_or (slice_get ws place) None) words) (λ i apart. refl) j;
}

-- ---- a new row

pub slice_get-push : {X : Type 0} (P : Option X → Type 0) (xs : List X) (y : X) (j : ℕ) → P (slice_get xs j)
    → ((j ≡ length xs) → P (Some y)) → P (slice_get (xs ++ y ∷ []) j)
slice_get-push P [] y zero old new = new refl
slice_get-push P [] y (suc j) old new = old
slice_get-push P (x ∷ xs) y zero old new = old
slice_get-push P (x ∷ xs) y (suc j) old new = slice_get-push P xs y j old (λ same. new (omega arith))

slice_get-past : {X : Type 0} (xs : List X) (j : ℕ) → j ≡ length xs → slice_get xs j ≡ None
slice_get-past [] j same = refl
slice_get-past (x ∷ xs) zero same = absurd (omega arith)
slice_get-past (x ∷ xs) (suc j) same = slice_get-past xs j (omega arith)

none_written : (n place : ℕ) → unwrap_or {T = Option ℕ} (slice_get (replicate {A = Option ℕ} n None) place) None ≡ None
none_written zero place = refl
none_written (suc n) zero = refl
none_written (suc n) (suc place) = none_written n place

pub push_keys : (g : Ground) (ids : List IdRow) → SameKeys ids (ids ++ empty_row g ∷ [])
push_keys g ids = record {
  state = λ j. slice_get-push (λ o. published_state o ≡ published_state (slice_get ids j)) ids (empty_row g) j refl
      (λ same. sym (ap published_state (slice_get-past ids j same)));
  word = λ j place. slice_get-push (λ o. word_at o place ≡ word_at (slice_get ids j) place) ids (empty_row g) j refl
      (λ same. none_written (width g) place ∙ sym (ap (λ o. word_at o place) (slice_get-past ids j same)));
}

pub push_lower : (g : Ground) (ids : List IdRow) (t : State) → lower_in (ids ++ empty_row g ∷ []) t ≡ lower_in ids t
push_lower g [] t = refl
push_lower g (row ∷ ids) t = ap (λ m. cond (is_of (Some row) t) (max m row.lower) m) (push_lower g ids t)

pub push_upper : (g : Ground) (first : ℕ) (ids : List IdRow) (t : State) → upper_in first (ids ++ empty_row g ∷ []) t ≡ upper_in first ids t
push_upper g first [] t = refl
push_upper g first (row ∷ ids) t = ap (λ m. cond (is_of (Some row) t) (min m row.upper) m) (push_upper g first ids t)

pub new_word : (g : Ground) (ids : List IdRow) (place : ℕ) → word_at (slice_get (ids ++ empty_row g ∷ []) (length ids)) place ≡ None
new_word g ids place =
    (push_keys g ids).word (length ids) place ∙ ap (λ o. word_at o place) (slice_get-past ids (length ids) refl)
