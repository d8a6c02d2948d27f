-- What a worker shows once it has learned what an entry says.
use Rattle.std.proofs.Common.{◌≡◌, ℕ, ◌≤◌, min, max, cond, Bool, true, false, ◌||◌, List, [], ◌∷◌, map, None, Some, refl, sym, ap, subst, inl, inr, ◌∙◌, arith}
use Rattle.std.specs.Prelude.{Option, nat_eq, slice_set}
use Rattle.std.specs.List.{slice_get}
use Rattle.std.proofs.lemmas.Bool.{cases_eq, eq-eqb, ne_eqb}
use Rattle.std.proofs.lemmas.List.{map-set}
use Rattle.ground_model.specs.Packed.{State, same_state}
use Rattle.ground_model.specs.Ground.{Ground}
use Rattle.bound_core.specs.declared.id_row.IdRow.{IdRow}
use Rattle.bound_core.specs.declared.worker.Seen.{Seen}
use Rattle.bound_core.specs.declared.worker.Worker.{Worker}
use Rattle.bound_core.specs.Numbers.{first_word}
use Rattle.bound_core.specs.Events.{sees_lower, sees_upper, learns, joined}
use Rattle.bound_core.specs.Shown.{state_in, is_of, seen_lower_in, seen_upper_in, word_in, sight_in}
use Rattle.core_run.specs.Merged.{knows_in, HasLearned}
use Rattle.core_run.proofs.Entries.{upper-le_first}
use Rattle.core_run.proofs.Shown.{SameKeys, sight_equal, sights_same}
use Rattle.core_run.proofs.Rows.{published_test}

-- a worker of whom nothing but these entries is known
abbrev pub said : List Seen → Worker
said ys = record { live = false; seen = ys; spare = None }

abbrev pub entry : ℕ → Option ℕ → Option ℕ → Seen
entry id lower upper = record { id = id; lower = lower; upper = upper }

pub taught : (g : Ground) (ids : List IdRow) (w w' : Worker) (ys : List Seen) → HasLearned w ys w'
    → sight_in ids g w' ≡ joined (sight_in ids g w) (sight_in ids g (said ys))
taught g ids w w' ys learned = sight_equal (sight_in ids g w') (joined (sight_in ids g w) (sight_in ids g (said ys)))
    learned.live learned.merged.knows (learned.merged.lower ids) (λ s. learned.merged.upper ids (first_word g s) s) learned.spare
    (λ place. ap (λ spare. word_in ids spare place) learned.spare)

-- worker k learns, over rows that say the same
pub workers_taught : (g : Ground) (ids ids' : List IdRow) (ws : List Worker) (k : ℕ) (w w' : Worker) (ys : List Seen)
    → SameKeys ids ids' → HasLearned w ys w'
    → map (sight_in ids' g) (slice_set ws k w')
    ≡ slice_set (map (sight_in ids g) ws) k (joined (sight_in ids g w) (sight_in ids g (said ys)))
workers_taught g ids ids' ws k w w' ys keys learned =
    sights_same g ids ids' (slice_set ws k w') keys
    ∙ map-set (sight_in ids g) ws k w'
    ∙ ap (slice_set (map (sight_in ids g) ws) k) (taught g ids w w' ys learned)

or_false : (b : Bool) → (b || false) ≡ b
or_false true = refl
or_false false = refl

-- an id that is known already
known_stays : (xs : List Seen) (id i : ℕ) → knows_in xs id ≡ true → (knows_in xs i || (nat_eq id i || false)) ≡ knows_in xs i
known_stays xs id i on = elim (cases_eq id i) [
  | inl same ↦
      let here : knows_in xs i ≡ true = subst (λ n. knows_in xs n ≡ true) same on in
      ap (λ b. b || (nat_eq id i || false)) here ∙ sym here
  | inr apart ↦ ap (λ b. knows_in xs i || (b || false)) (ne_eqb id i apart) ∙ or_false (knows_in xs i)
]

test_turned : (a b : ℕ) → nat_eq a b ≡ nat_eq b a
test_turned a b = elim (cases_eq a b) [
  | inl same ↦ eq-eqb a b same ∙ sym (eq-eqb b a (sym same))
  | inr apart ↦ ne_eqb a b apart ∙ sym (ne_eqb b a (λ same. apart (sym same)))
]

or_turned : (a b : Bool) → (a || b) ≡ (b || a)
or_turned true true = refl
or_turned true false = refl
or_turned false true = refl
or_turned false false = refl

module _ (g : Ground) (ids : List IdRow) (w : Worker) (id : ℕ) where
  -- what an entry adds
  lower_by : (b b' : Bool) (m n : ℕ) → b ≡ b' → max m (cond b (max 0 n) 0) ≡ cond b' (max m n) m
  lower_by true true m n same = omega arith
  lower_by true false m n same = absurd cc
  lower_by false true m n same = absurd cc
  lower_by false false m n same = omega arith

  upper_by : (b b' : Bool) (first m n : ℕ) → m ≤ first → b ≡ b' → min m (cond b (min first n) first) ≡ cond b' (min m n) m
  upper_by true true first m n within same = omega arith
  upper_by true false first m n within same = absurd cc
  upper_by false true first m n within same = absurd cc
  upper_by false false first m n within same = omega arith

  lower_none : (b : Bool) (m : ℕ) → max m (cond b (max 0 0) 0) ≡ m
  lower_none true m = omega arith
  lower_none false m = omega arith

  upper_none : (b : Bool) (first m : ℕ) → m ≤ first → min m (cond b (min first first) first) ≡ m
  upper_none true first m within = omega arith
  upper_none false first m within = omega arith

  within_first : (t : State) → seen_upper_in ids (first_word g t) w.seen t ≤ first_word g t
  within_first t = upper-le_first ids (first_word g t) w.seen t

  module _ (row : IdRow) (there : slice_get ids id ≡ Some row) (on : row.published ≡ true) where
    row_test : (t : State) → is_of (slice_get ids id) t ≡ same_state t (state_in row)
    row_test t = ap (λ o. is_of o t) there ∙ published_test row t on

    pub hears_lower : (n : ℕ) → knows_in w.seen id ≡ true
        → joined (sight_in ids g w) (sight_in ids g (said (entry id (Some n) None ∷ []))) ≡ sees_lower (state_in row) n (sight_in ids g w)
    hears_lower n known = sight_equal _ (sees_lower (state_in row) n (sight_in ids g w)) refl (λ i. known_stays w.seen id i known)
        (λ t. lower_by (is_of (slice_get ids id) t) (same_state t (state_in row)) (seen_lower_in ids w.seen t) n (row_test t))
        (λ t. upper_none (is_of (slice_get ids id) t) (first_word g t) (seen_upper_in ids (first_word g t) w.seen t) (within_first t))
        refl (λ place. refl)

    pub hears_upper : (n : ℕ) → knows_in w.seen id ≡ true
        → joined (sight_in ids g w) (sight_in ids g (said (entry id None (Some n) ∷ []))) ≡ sees_upper (state_in row) n (sight_in ids g w)
    hears_upper n known = sight_equal _ (sees_upper (state_in row) n (sight_in ids g w)) refl (λ i. known_stays w.seen id i known)
        (λ t. lower_none (is_of (slice_get ids id) t) (seen_lower_in ids w.seen t))
        (λ t. upper_by (is_of (slice_get ids id) t) (same_state t (state_in row)) (first_word g t) (seen_upper_in ids (first_word g t) w.seen t) n
        (within_first t) (row_test t))
        refl (λ place. refl)

  pub hears_id : joined (sight_in ids g w) (sight_in ids g (said (entry id None None ∷ []))) ≡ learns id (sight_in ids g w)
  hears_id = sight_equal _ (learns id (sight_in ids g w)) refl
      (λ i. ap (λ b. knows_in w.seen i || b) (or_false (nat_eq id i) ∙ test_turned id i) ∙ or_turned (knows_in w.seen i) (nat_eq i id))
      (λ t. lower_none (is_of (slice_get ids id) t) (seen_lower_in ids w.seen t))
      (λ t. upper_none (is_of (slice_get ids id) t) (first_word g t) (seen_upper_in ids (first_word g t) w.seen t) (within_first t))
      refl (λ place. refl)
