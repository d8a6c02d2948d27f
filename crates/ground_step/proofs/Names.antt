-- Places of texts in lists whose items differ.
use Rattle.std.proofs.Common.{◌≡◌, ◌≢◌, ℕ, suc, zero, ◌+◌, ◌<◌, Bool, true, false, cond, not, ◌||◌, Ordering, List, [], ◌∷◌, length, map, take, Some, None, refl, sym, ap, subst, inl, inr, ◌∙◌, arith, get_or, add-one, ◌++◌, if◌then◌else◌}
use Rattle.std.specs.Prelude.{AllPairs, nat_eq, nat_lt, position}
use Rattle.std.specs.List.{position_or_len, list_any, HoldsAt}
use Rattle.std.specs.List.Sorted.{IsSortedBy, IsNonDecreasingBy, IsPartitionPoint}
use Rattle.std.specs.Ordering.{is_lt, is_eq, ordering_index, ordering_reverse}
use Rattle.std.specs.declared.cmp.Ordering.TheVariants.{Less, Equal, Greater}
use Rattle.std.specs.Cmp.Lexicographic.{pointwise, bytes_decides, texts_ties}
use Rattle.std.proofs.lemmas.Bool.{cases_Bool, cases_lt, lt-ltb, le-ltb, and_parts}
use Rattle.std.proofs.lemmas.Cmp.{tied_itself, nat_list_cmp_total}
use Rattle.std.proofs.lemmas.List.Sorted.{searchable_from_sorted}
use Rattle.std.proofs.lemmas.List.Folds.{list_any_none}
use Rattle.std.proofs.lemmas.List.Elements.{All-from_get_or}
use Rattle.std.proofs.lemmas.List.{get_or-map, get_or-take, get_or_default, length-take-le, take_more, map-append}
use Rattle.indexmap.specs.IndexSet.{insert_key}
use Rattle.plain_list.specs.Texts.{compare_texts, rises, rises_behind}
use Rattle.ground_model.specs.declared.action.GroundAction.{GroundAction}
use Rattle.ground_model.specs.declared.condition.GroundCondition.TheVariants.{False}
use Rattle.ground_step.specs.Names.{place_of}

-- ---- the first place

module _ {X : Type 0} (p : X → Bool) where
  place_is : (xs : List X) (i : ℕ) (d : X) → i < length xs → p (get_or xs i d) ≡ true
      → ((k : ℕ) → k < i → p (get_or xs k d) ≡ false) → position_or_len p xs ≡ i
  place_is [] i d within here before = absurd (omega arith)
  place_is (x ∷ xs) zero d within here before = ap (λ b. cond (not b) (1 + position_or_len p xs) 0) here
  place_is (x ∷ xs) (suc i) d within here before =
      ap (λ b. cond (not b) (1 + position_or_len p xs) 0) (before 0 (omega arith))
      ∙ (let rest : position_or_len p xs ≡ i = place_is xs i d (omega arith) here (λ k below. before (suc k) (omega arith)) in
      omega (arith, rest))

  place_past : (xs : List X) (d : X) → ((k : ℕ) → k < length xs → p (get_or xs k d) ≡ false)
      → position_or_len p xs ≡ length xs
  place_past [] d none = refl
  place_past (x ∷ xs) d none =
      ap (λ b. cond (not b) (1 + position_or_len p xs) 0) (none 0 (omega arith))
      ∙ (let rest : position_or_len p xs ≡ length xs = place_past xs d (λ k below. none (suc k) (omega arith)) in
      omega (arith, rest))

  pub position_found : (xs : List X) (i : ℕ) (d : X) → i < length xs → p (get_or xs i d) ≡ true
      → ((k : ℕ) → k < i → p (get_or xs k d) ≡ false) → position p xs ≡ Some i
  position_found xs i d within here before =
      ap (λ n. cond (nat_lt n (length xs)) (Some n) None) (place_is xs i d within here before)
      ∙ ap (λ b. cond b (Some i) None) (lt-ltb i (length xs) within)

  pub position_nowhere : (xs : List X) (d : X) → ((k : ℕ) → k < length xs → p (get_or xs k d) ≡ false)
      → position p xs ≡ None
  position_nowhere xs d none =
      ap (λ n. cond (nat_lt n (length xs)) (Some n) None) (place_past xs d none)
      ∙ ap (λ b. cond b (Some (length xs)) None) (le-ltb (length xs) (length xs) (omega arith))

-- ---- texts that differ

pub differs : (text other : List ℕ) → text ≢ other → pointwise nat_eq text other ≡ false
differs text other apart = elim (cases_Bool (pointwise nat_eq text other)) [
  | inl same ↦ absurd (apart ((bytes_decides text other).0 same))
  | inr other ↦ other
]

pub place_found : (texts : List (List ℕ)) → AllPairs (λ x y. x ≢ y) texts → (i : ℕ) (text : List ℕ)
    → i < length texts → get_or texts i [] ≡ text → place_of texts text ≡ Some i
place_found texts apart i text within here =
    position_found (pointwise nat_eq text) texts i [] within ((bytes_decides text (get_or texts i [])).1 (sym here))
    (λ k before. differs text (get_or texts k []) (λ same. apart k i [] before within (sym same ∙ sym here)))

pub place_nowhere : (texts : List (List ℕ)) (text : List ℕ)
    → ((k : ℕ) → k < length texts → text ≢ get_or texts k []) → place_of texts text ≡ None
place_nowhere texts text apart =
    position_nowhere (pointwise nat_eq text) texts [] (λ k within. differs text (get_or texts k []) (apart k within))

-- ---- names that are read from what holds them

place-map : {X Y : Type 0} (p : Y → Bool) (f : X → Y) (xs : List X)
    → position_or_len (λ x. p (f x)) xs ≡ position_or_len p (map f xs)
place-map p f [] = refl
place-map p f (x ∷ xs) = ap (λ n. cond (not (p (f x))) (1 + n) 0) (place-map p f xs)

pub map_length : {X Y : Type 0} (f : X → Y) (xs : List X) → length xs ≡ length (map f xs)
map_length f [] = refl
map_length f (x ∷ xs) = ap suc (map_length f xs)

pub position-map : {X Y : Type 0} (p : Y → Bool) (f : X → Y) (xs : List X)
    → position (λ x. p (f x)) xs ≡ position p (map f xs)
position-map p f xs = λ j.
    cond (nat_lt (place-map p f xs j) (map_length f xs j)) (Some (place-map p f xs j)) None

-- ---- texts in rising order

forward_not_back : (a b : Ordering) → a ≡ ordering_reverse b → is_lt a ≡ true → is_lt b ≡ false
forward_not_back a Less back forward = absurd cc
forward_not_back a Equal back forward = refl
forward_not_back a Greater back forward = refl

adjacent : (x : List ℕ) (ys : List (List ℕ)) (k : ℕ) (d : List ℕ) → rises_behind compare_texts x ys ≡ true
    → suc k < length (x ∷ ys) → is_lt (compare_texts (get_or (x ∷ ys) k d) (get_or (x ∷ ys) (suc k) d)) ≡ true
adjacent x [] k d rising within = absurd (omega arith)
adjacent x (y ∷ ys) zero d rising within = (and_parts (is_lt (compare_texts x y)) (rises_behind compare_texts y ys) rising).0
adjacent x (y ∷ ys) (suc k) d rising within =
    adjacent y ys k d (and_parts (is_lt (compare_texts x y)) (rises_behind compare_texts y ys) rising).1 (omega arith)

sorted : (texts : List (List ℕ)) → rises compare_texts texts ≡ true → IsSortedBy (λ x y. is_lt (compare_texts x y)) texts
sorted [] rising = λ k d from within. absurd (omega arith)
sorted (x ∷ ys) rising = λ k d from within.
    ap (λ j. is_lt (compare_texts (get_or (x ∷ ys) j d) (get_or (x ∷ ys) k d))) (add-one k)
    ∙ forward_not_back (compare_texts (get_or (x ∷ ys) k d) (get_or (x ∷ ys) (suc k) d))
    (compare_texts (get_or (x ∷ ys) (suc k) d) (get_or (x ∷ ys) k d))
    (nat_list_cmp_total.antisymm (get_or (x ∷ ys) k d) (get_or (x ∷ ys) (suc k) d))
    (adjacent x ys k d rising (omega arith))

pub searchable : (texts : List (List ℕ)) → rises compare_texts texts ≡ true → (text : List ℕ)
    → IsNonDecreasingBy (λ x. ordering_index (compare_texts x text)) texts
searchable texts rising text = searchable_from_sorted nat_list_cmp_total (λ x. x) texts text (sorted texts rising)

pub tied_is : (x y : List ℕ) → compare_texts x y ≡ Equal → x ≡ y
tied_is x y tied = (bytes_decides x y).0 (texts_ties x y ∙ ap is_eq tied)

pub found_is : (texts : List (List ℕ)) → AllPairs (λ x y. x ≢ y) texts → (text : List ℕ) (i : ℕ) → i < length texts
    → HoldsAt (λ x. compare_texts x text ≡ Equal) texts i → Some i ≡ place_of texts text
found_is texts apart text i within here =
    sym (place_found texts apart i text within (tied_is (get_or texts i []) text (here [])))

pub missed_is : (texts : List (List ℕ)) (text : List ℕ) (i : ℕ)
    → IsPartitionPoint (λ x. compare_texts x text ≡ Less) (λ x. compare_texts x text ≡ Greater) texts i
    → None ≡ place_of texts text
missed_is texts text i parts =
    sym (place_nowhere texts text (λ k within same.
    let tied : compare_texts (get_or texts k []) text ≡ Equal
    = subst (λ x. compare_texts (get_or texts k []) x ≡ Equal) (sym same) (tied_itself nat_list_cmp_total (get_or texts k [])) in
    elim (cases_lt k i) [
      | inl below ↦ absurd (cc (tied, parts.0 k [] (omega arith) below))
      | inr above ↦ absurd (cc (tied, parts.1 k [] above within))
    ]))

-- ---- names that are put in one by one

any-map : {X Y : Type 0} (p : Y → Bool) (f : X → Y) (xs : List X) → list_any (λ x. p (f x)) xs ≡ list_any p (map f xs)
any-map p f [] = refl
any-map p f (x ∷ xs) = ap (λ b. p (f x) || b) (any-map p f xs)

not_before : (names : List (List ℕ)) → AllPairs (λ x y. x ≢ y) names → (i : ℕ) (name : List ℕ) → i < length names
    → name ≡ get_or names i [] → list_any (pointwise nat_eq name) (take i names) ≡ false
not_before names apart i name within here =
    list_any_none (pointwise nat_eq name) (take i names)
    (All-from_get_or (λ x. pointwise nat_eq name x ≡ false) (take i names) [] (λ k below.
    let before : k < i = omega (arith, below, length-take-le i names (omega arith)) in
    subst (λ x. pointwise nat_eq name x ≡ false) (sym (get_or-take i names k [] before))
    (differs name (get_or names k []) (λ same. apart k i [] before within (sym same ∙ here)))))

module _ {K : Type 0} (name_of : K → List ℕ) where
  pub name_put : (names : List (List ℕ)) → AllPairs (λ x y. x ≢ y) names → (keys : List K) (i : ℕ) (key : K)
      → i < length names → map name_of keys ≡ take i names → name_of key ≡ get_or names i []
      → map name_of (insert_key (λ a b. pointwise nat_eq (name_of a) (name_of b)) keys key) ≡ take (i + 1) names
  name_put names apart keys i key within so_far here =
      let new : list_any (λ k. pointwise nat_eq (name_of key) (name_of k)) keys ≡ false
      = any-map (pointwise nat_eq (name_of key)) name_of keys
      ∙ ap (list_any (pointwise nat_eq (name_of key))) so_far
      ∙ not_before names apart i (name_of key) within here in
      ap (λ b. map name_of (if b then keys else keys ++ key ∷ [])) new
      ∙ map-append name_of keys (key ∷ [])
      ∙ (λ j. so_far j ++ here j ∷ [])
      ∙ sym (take_more names i [] within)

-- ---- the names of actions

no_action : GroundAction
no_action = record { name = []; condition = False; choices = []; den = 1 }

name_at : (actions : List GroundAction) (k : ℕ) (d : List ℕ) → k < length actions
    → get_or (map (λ (a : GroundAction). a.name) actions) k d ≡ (get_or actions k no_action).name
name_at actions k d within = get_or-map (λ (a : GroundAction). a.name) actions k no_action d within

pub name_read : (actions : List GroundAction) (k : ℕ) (a : GroundAction) → k < length actions → a ≡ get_or actions k a
    → a.name ≡ get_or (map (λ (b : GroundAction). b.name) actions) k []
name_read actions k a within read =
    ap (λ (b : GroundAction). b.name) (read ∙ get_or_default actions k a no_action within) ∙ sym (name_at actions k [] within)

pub names_apart : (actions : List GroundAction) → AllPairs (λ (a b : GroundAction). a.name ≢ b.name) actions
    → AllPairs (λ x y. x ≢ y) (map (λ (a : GroundAction). a.name) actions)
names_apart actions apart = λ i j d before within same.
    let below : j < length actions = omega (arith, within, sym (map_length (λ (a : GroundAction). a.name) actions)) in
    apart i j no_action before below
    (sym (name_at actions i d (omega arith)) ∙ same ∙ name_at actions j d below)
