-- What a board shows of its rows and workers, and how it changes with them.
use Rattle.std.proofs.Common.{◌≡◌, ◌≢◌, ℕ, suc, zero, min, max, cond, Bool, true, false, ◌&&◌, ◌||◌, List, [], ◌∷◌, map, None, Some, refl, sym, ap, subst, inl, inr, ◌∙◌, arith}
use Rattle.std.specs.Prelude.{Option, nat_eq, slice_set}
use Rattle.std.specs.Option.{unwrap_or}
use Rattle.std.specs.List.{slice_get}
use Rattle.std.specs.Cmp.Lexicographic.{bytes_decides}
use Rattle.std.proofs.lemmas.Bool.{cases_Bool, cases_eq, eq-eqb}
use Rattle.ground_model.specs.Packed.{State, same_state}
use Rattle.ground_model.specs.Ground.{Ground}
use Rattle.bound_core.specs.declared.id_row.IdRow.{IdRow}
use Rattle.bound_core.specs.declared.worker.Seen.{Seen}
use Rattle.bound_core.specs.declared.worker.Worker.{Worker}
use Rattle.bound_core.specs.Numbers.{first_word}
use Rattle.bound_core.specs.Core.{Sight, Core}
use Rattle.bound_core.specs.Shown.{state_in, published_state, is_of, seen_lower_in, seen_upper_in, word_at, word_in, sight_in}
use Rattle.core_run.specs.Merged.{knows_in}

-- ---- records of functions

pub sight_equal : (v w : Sight) → v.live ≡ w.live → ((id : ℕ) → v.knows id ≡ w.knows id) → ((s : State) → v.lower s ≡ w.lower s)
    → ((s : State) → v.upper s ≡ w.upper s) → v.spare ≡ w.spare → ((place : ℕ) → v.draft place ≡ w.draft place) → v ≡ w
sight_equal v w live knows lower upper spare draft = λ i. record {
  live = live i;
  knows = λ id. knows id i;
  lower = λ s. lower s i;
  upper = λ s. upper s i;
  spare = spare i;
  draft = λ place. draft place i;
}

pub core_equal : (c d : Core) → c.given ≡ d.given → ((id : ℕ) → c.state_of id ≡ d.state_of id) → ((s : State) → c.lower s ≡ d.lower s)
    → ((s : State) → c.upper s ≡ d.upper s) → c.workers ≡ d.workers → c ≡ d
core_equal c d given state lower upper workers = λ i. record {
  given = given i;
  state_of = λ id. state id i;
  lower = λ s. lower s i;
  upper = λ s. upper s i;
  workers = workers i;
}

pub map_equal : {X Y : Type 0} (f h : X → Y) (xs : List X) → ((x : X) → f x ≡ h x) → map f xs ≡ map h xs
map_equal f h [] same = refl
map_equal f h (x ∷ xs) same = ap (λ y. y ∷ map f xs) (same x) ∙ ap (λ l. h x ∷ l) (map_equal f h xs same)

pub map_places : {X Y : Type 0} (f h : X → Y) (xs : List X) → ((j : ℕ) (x : X) → slice_get xs j ≡ Some x → h x ≡ f x) → map h xs ≡ map f xs
map_places f h [] same = refl
map_places f h (x ∷ xs) same = ap (λ w. w ∷ map h xs) (same 0 x refl) ∙ ap (λ l. f x ∷ l) (map_places f h xs (λ j. same (suc j)))

-- one worker changes, and the others show what they did
pub map_one : {X Y : Type 0} (f h : X → Y) (xs : List X) (k : ℕ) (x : X) → slice_get xs k ≡ Some x
    → ((j : ℕ) (y : X) → slice_get xs j ≡ Some y → j ≢ k → h y ≡ f y) → map h xs ≡ slice_set (map f xs) k (h x)
map_one f h [] k x there others = absurd cc
map_one f h (y ∷ xs) zero x there others =
    let here : y ≡ x = cc in
    ap (λ z. h z ∷ map h xs) here ∙ ap (λ l. h x ∷ l) (map_places f h xs (λ j z at. others (suc j) z at (λ same. omega arith)))
map_one f h (y ∷ xs) (suc k) x there others =
    ap (λ w. w ∷ map h xs) (others 0 y refl (λ same. omega arith))
    ∙ ap (λ l. f y ∷ l) (map_one f h xs k x there (λ j z at apart. others (suc j) z at (λ same. apart (omega arith))))

-- ---- lists

pub slice_get-set_same : {X : Type 0} (xs : List X) (i : ℕ) (x y : X) → slice_get xs i ≡ Some x → slice_get (slice_set xs i y) i ≡ Some y
slice_get-set_same [] i x y there = absurd cc
slice_get-set_same (z ∷ xs) zero x y there = refl
slice_get-set_same (z ∷ xs) (suc i) x y there = slice_get-set_same xs i x y there

pub slice_get-set_other : {X : Type 0} (xs : List X) (i j : ℕ) (y : X) → j ≢ i → slice_get (slice_set xs i y) j ≡ slice_get xs j
slice_get-set_other [] i j y apart = refl
slice_get-set_other (z ∷ xs) zero zero y apart = absurd (apart refl)
slice_get-set_other (z ∷ xs) zero (suc j) y apart = refl
slice_get-set_other (z ∷ xs) (suc i) zero y apart = refl
slice_get-set_other (z ∷ xs) (suc i) (suc j) y apart = slice_get-set_other xs i j y (λ same. apart (omega arith))

-- a fact of what is at each place, once one item is in the place of another
pub set_places : {X : Type 0} (P : ℕ → Option X → Option X → Type 0) (xs : List X) (i : ℕ) (x y : X) → slice_get xs i ≡ Some x
    → P i (Some x) (Some y) → ((j : ℕ) → j ≢ i → P j (slice_get xs j) (slice_get xs j))
    → (j : ℕ) → P j (slice_get xs j) (slice_get (slice_set xs i y) j)
set_places P xs i x y there here others j = elim (cases_eq j i) [
  | inl same ↦ subst (λ n. P n (slice_get xs n) (slice_get (slice_set xs i y) n)) (sym same)
      (subst (λ o. P i o (slice_get (slice_set xs i y) i)) (sym there) (subst (P i (Some x)) (sym (slice_get-set_same xs i x y there)) here))
  | inr apart ↦ subst (P j (slice_get xs j)) (sym (slice_get-set_other xs i j y apart)) (others j apart)
]

pub same_state_turned : (s t : State) → same_state s t ≡ same_state t s
same_state_turned s t = elim (cases_Bool (same_state s t)) [
  | inl on ↦ on ∙ sym ((bytes_decides t s).1 (sym ((bytes_decides s t).0 on)))
  | inr off ↦ elim (cases_Bool (same_state t s)) [
    | inl on ↦ let both : same_state s t ≡ true = (bytes_decides s t).1 (sym ((bytes_decides t s).0 on)) in absurd cc
    | inr off' ↦ off ∙ sym off'
  ]
]

-- ---- rows

-- a row shows its state where it is published, and its words
pub record SameKeys (ids ids' : List IdRow) : Type 0 where
  pub state : (j : ℕ) → published_state (slice_get ids' j) ≡ published_state (slice_get ids j)
  pub word : (j place : ℕ) → word_at (slice_get ids' j) place ≡ word_at (slice_get ids j) place

has_state : Option State → State → Bool
has_state None t = false
has_state (Some s) t = same_state s t

is_of_state : (row : Option IdRow) (t : State) → is_of row t ≡ has_state (published_state row) t
unfolding has_state
is_of_state None t = refl
is_of_state (Some row) t = elim (cases_Bool row.published) [
  | inl on ↦ ap (λ b. b && same_state (state_in row) t) on ∙ sym (ap (λ b. has_state (cond b (Some (state_in row)) None) t) on)
  | inr off ↦ ap (λ b. b && same_state (state_in row) t) off ∙ sym (ap (λ b. has_state (cond b (Some (state_in row)) None) t) off)
]

pub same_rows : (row row' : Option IdRow) (t : State) → published_state row' ≡ published_state row → is_of row' t ≡ is_of row t
same_rows row row' t same = is_of_state row' t ∙ ap (λ o. has_state o t) same ∙ sym (is_of_state row t)

-- ---- sights

pub seen_lower_same : (ids ids' : List IdRow) (xs : List Seen) (t : State)
    → ((id : ℕ) → knows_in xs id ≡ true → is_of (slice_get ids' id) t ≡ is_of (slice_get ids id) t)
    → seen_lower_in ids' xs t ≡ seen_lower_in ids xs t
seen_lower_same ids ids' [] t same = refl
seen_lower_same ids ids' (x ∷ xs) t same =
    ap (λ b. cond b (max (seen_lower_in ids' xs t) (unwrap_or x.lower 0)) (seen_lower_in ids' xs t))
    (same x.id (ap (λ b. b || knows_in xs x.id) (eq-eqb x.id x.id refl)))
    ∙ ap (λ n. cond (is_of (slice_get ids x.id) t) (max n (unwrap_or x.lower 0)) n)
    (seen_lower_same ids ids' xs t (λ id on. same id (ap (λ b. nat_eq x.id id || b) on ∙ or_true (nat_eq x.id id))))
  where
    or_true : (b : Bool) → (b || true) ≡ true
    or_true true = refl
    or_true false = refl

pub seen_upper_same : (ids ids' : List IdRow) (first : ℕ) (xs : List Seen) (t : State)
    → ((id : ℕ) → knows_in xs id ≡ true → is_of (slice_get ids' id) t ≡ is_of (slice_get ids id) t)
    → seen_upper_in ids' first xs t ≡ seen_upper_in ids first xs t
seen_upper_same ids ids' first [] t same = refl
seen_upper_same ids ids' first (x ∷ xs) t same =
    ap (λ b. cond b (min (seen_upper_in ids' first xs t) (unwrap_or x.upper first)) (seen_upper_in ids' first xs t))
    (same x.id (ap (λ b. b || knows_in xs x.id) (eq-eqb x.id x.id refl)))
    ∙ ap (λ n. cond (is_of (slice_get ids x.id) t) (min n (unwrap_or x.upper first)) n)
    (seen_upper_same ids ids' first xs t (λ id on. same id (ap (λ b. nat_eq x.id id || b) on ∙ or_true (nat_eq x.id id))))
  where
    or_true : (b : Bool) → (b || true) ≡ true
    or_true true = refl
    or_true false = refl

word_in_same : (ids ids' : List IdRow) (spare : Option ℕ) (place : ℕ)
    → ((id : ℕ) → spare ≡ Some id → word_at (slice_get ids' id) place ≡ word_at (slice_get ids id) place)
    → word_in ids' spare place ≡ word_in ids spare place
word_in_same ids ids' None place same = refl
word_in_same ids ids' (Some id) place same = same id refl

-- a worker shows the same over rows that say the same of what it knows and of its spare
pub sight_same : (g : Ground) (ids ids' : List IdRow) (w : Worker)
    → ((id : ℕ) → knows_in w.seen id ≡ true → published_state (slice_get ids' id) ≡ published_state (slice_get ids id))
    → ((id place : ℕ) → w.spare ≡ Some id → word_at (slice_get ids' id) place ≡ word_at (slice_get ids id) place)
    → sight_in ids' g w ≡ sight_in ids g w
sight_same g ids ids' w state word =
    sight_equal (sight_in ids' g w) (sight_in ids g w) refl (λ id. refl)
    (λ t. seen_lower_same ids ids' w.seen t (λ id on. same_rows (slice_get ids id) (slice_get ids' id) t (state id on)))
    (λ t. seen_upper_same ids ids' (first_word g t) w.seen t (λ id on. same_rows (slice_get ids id) (slice_get ids' id) t (state id on)))
    refl (λ place. word_in_same ids ids' w.spare place (λ id is. word id place is))

pub sights_same : (g : Ground) (ids ids' : List IdRow) (ws : List Worker) → SameKeys ids ids' → map (sight_in ids' g) ws ≡ map (sight_in ids g) ws
sights_same g ids ids' ws keys =
    map_equal (sight_in ids' g) (sight_in ids g) ws (λ w. sight_same g ids ids' w (λ id _. keys.state id) (λ id place _. keys.word id place))
