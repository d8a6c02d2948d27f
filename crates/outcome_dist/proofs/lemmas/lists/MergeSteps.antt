-- Merging choices one by one.
use Rattle.std.proofs.Common.{◌≡◌, ℕ, zero, suc, ◌+◌, ◌<◌, ◌≤◌, Bool, true, false, not, ◌&&◌, ◌||◌, cond, List, [], ◌∷◌, ◌++◌, length, map, drop, drop-cons, take, get_or, add-one, refl, sym, ap, subst, ◌∙◌, arith}
use Rattle.std.specs.Prelude.{nat_eq, slice_set, if◌then◌else◌}
use Rattle.std.specs.List.{list_any, position_or_len}
use Rattle.std.specs.Cmp.Lexicographic.{pointwise}
use Rattle.indexmap.specs.IndexSet.{insert_key}
use Rattle.plain_list.specs.weighted.Mean.{products, positive}
use Rattle.plain_list.specs.weighted.Merged.{with_item, with_items}
use Rattle.plain_list.proofs.lemmas.weighted.Merging.{length-with_items}
use Rattle.ground_model.specs.declared.action.Choice.{Choice}
use Rattle.ground_model.specs.declared.action.Guarded.{Guarded}
use Rattle.ground_meaning.specs.choices.Same.{words_of, same_choice, same_part}
use Rattle.ground_meaning.specs.choices.Joint.{weight_of, idle, joined, added, with_weight}
use Rattle.ground_meaning.proofs.lemmas.choices.Members.{any-map}
use Rattle.ground_meaning.proofs.lemmas.choices.Same.{same_choice-is}
use Rattle.outcome_dist.specs.declared.lists.key.Key.{Key}
use Rattle.outcome_dist.specs.declared.lists.key.PartKey.{PartKey}
use Rattle.outcome_dist.specs.declared.lists.refusal.JointRefusal.{JointRefusal}
use Rattle.outcome_dist.specs.declared.lists.refusal.JointRefusal.TheVariants.{Choices, Denominator, OutcomeCost, Memory}
use Rattle.outcome_dist.specs.contracts.lists.key.KeyPartialEq.TheImpl as keys
use Rattle.outcome_dist.specs.contracts.lists.key.PartKeyPartialEq.TheImpl as part_keys
use Rattle.outcome_dist.specs.lists.Refusals.{IsTooMany}
use Rattle.outcome_dist.specs.lists.Keys.{key_of, part_key_of}
use Rattle.outcome_dist.specs.lists.Piles.{merging, with_more}
use Rattle.outcome_dist.proofs.lemmas.lists.Sets.{same_bools}

-- ---- one choice into a list

abbrev pub alike : Choice → Choice → Bool
alike y x = same_choice x y

pub record Placed (list new : List Choice) (weight place : ℕ) : Type 0 where
  pub within : place < length list
  pub is : new ≡ slice_set list place (with_more weight (get_or list place (idle 0)))

placed_first : (b : Bool) (x y : Choice) (xs rest : List Choice) (p : ℕ) → (b ≡ false → Placed xs rest y.weight p)
    → Placed (x ∷ xs) (elim b [ true ↦ added x y ∷ xs | false ↦ x ∷ rest ]) y.weight (cond (not b) (1 + p) 0)
placed_first true x y xs rest p later = record { within = omega arith; is = refl }
placed_first false x y xs rest p later =
    let one : suc p ≡ 1 + p = omega arith in
    let inner = later refl in
    let low : p < length xs = inner.within in
    subst (λ k. Placed (x ∷ xs) (x ∷ rest) y.weight k) one (record { within = omega (arith, low); is = ap (λ l. x ∷ l) inner.is })

pub placed : (xs : List Choice) (y : Choice) → list_any (alike y) xs ≡ true
    → Placed xs (with_item same_choice added xs y) y.weight (position_or_len (alike y) xs)
placed [] y e = absurd cc
placed (x ∷ xs) y e =
    placed_first (same_choice x y) x y xs (with_item same_choice added xs y) (position_or_len (alike y) xs)
    (λ other. placed xs y (sym (ap (λ b. b || list_any (alike y) xs) other) ∙ e))

missing_first : (b : Bool) (x y : Choice) (xs rest : List Choice) → rest ≡ xs ++ y ∷ [] → b ≡ false
    → elim b as (λ _. List Choice) [ true ↦ added x y ∷ xs | false ↦ x ∷ rest ] ≡ x ∷ (xs ++ y ∷ [])
missing_first true x y xs rest is e = absurd (cc e)
missing_first false x y xs rest is e = ap (λ l. x ∷ l) is

neither : (a b : Bool) → (a || b) ≡ false → (a ≡ false) × (b ≡ false)
neither true b e = absurd (cc e)
neither false b e = (refl, e)

pub missing : (xs : List Choice) (y : Choice) → list_any (alike y) xs ≡ false → with_item same_choice added xs y ≡ xs ++ y ∷ []
missing [] y e = refl
missing (x ∷ xs) y e =
    let parts = neither (same_choice x y) (list_any (alike y) xs) e in
    missing_first (same_choice x y) x y xs (with_item same_choice added xs y) (missing xs y parts.1) parts.0

-- ---- keys

abbrev pub same_key : Key → Key → Bool
same_key = (keys.ghosts).eq

abbrev same_part_key : PartKey → PartKey → Bool
same_part_key = (part_keys.ghosts).eq

regroup : (a b c d : Bool) → (a && (b && (c && d))) ≡ (a && b && c && d)
regroup true true c d = refl
regroup true false c d = refl
regroup false b c d = refl

part_tells : (x y : Guarded) → same_part_key (part_key_of x) (part_key_of y) ≡ same_part x y
part_tells x y =
    regroup (pointwise nat_eq (words_of x.condition) (words_of y.condition)) (pointwise nat_eq x.adds y.adds) (pointwise nat_eq x.deletes y.deletes)
    (nat_eq x.cost y.cost)

parts_tell : (xs ys : List Guarded) → pointwise same_part_key (map part_key_of xs) (map part_key_of ys) ≡ pointwise same_part xs ys
parts_tell [] [] = refl
parts_tell [] (y ∷ ys) = refl
parts_tell (x ∷ xs) [] = refl
parts_tell (x ∷ xs) (y ∷ ys) = λ i. part_tells x y i && parts_tell xs ys i

key_tells : (x y : Choice) → same_key (key_of x) (key_of y) ≡ same_choice x y
key_tells x y =
    ap (λ r. nat_eq x.cost y.cost && (pointwise nat_eq x.adds y.adds && (pointwise nat_eq x.deletes y.deletes && r))) (parts_tell x.guarded y.guarded)
    ∙ regroup (nat_eq x.cost y.cost) (pointwise nat_eq x.adds y.adds) (pointwise nat_eq x.deletes y.deletes) (pointwise same_part x.guarded y.guarded)

turned : (x y : Choice) → same_choice x y ≡ true → same_choice y x ≡ true
turned x y e =
    let is : with_weight 0 x ≡ with_weight 0 y = same_choice-is x y e 0 in
    (λ i. same_choice (sym is i) (is i)) ∙ e

symmetric : (x y : Choice) → same_choice x y ≡ same_choice y x
symmetric x y = same_bools (same_choice x y) (same_choice y x) (turned x y) (turned y x)

tells : (y : Choice) → (λ x. same_key (key_of y) (key_of x)) ≡ alike y
tells y = λ i x. (key_tells y x ∙ symmetric y x) i

place-map : (p : Key → Bool) (xs : List Choice) → position_or_len p (map key_of xs) ≡ position_or_len (λ x. p (key_of x)) xs
place-map p [] = refl
place-map p (x ∷ xs) = ap (λ k. cond (not (p (key_of x))) (1 + k) 0) (place-map p xs)

pub place_is : (xs : List Choice) (y : Choice) → position_or_len (same_key (key_of y)) (map key_of xs) ≡ position_or_len (alike y) xs
place_is xs y = place-map (same_key (key_of y)) xs ∙ ap (λ p. position_or_len p xs) (tells y)

pub any_is : (xs : List Choice) (y : Choice) → list_any (same_key (key_of y)) (map key_of xs) ≡ list_any (alike y) xs
any_is xs y = any-map (same_key (key_of y)) key_of xs ∙ ap (λ p. list_any p xs) (tells y)

keys_of_set : (xs : List Choice) (place weight : ℕ) → map key_of (slice_set xs place (with_more weight (get_or xs place (idle 0)))) ≡ map key_of xs
keys_of_set [] place weight = refl
keys_of_set (x ∷ xs) zero weight = refl
keys_of_set (x ∷ xs) (suc place) weight = ap (λ l. key_of x ∷ l) (keys_of_set xs place weight)

map-push : (xs : List Choice) (y : Choice) → map key_of (xs ++ y ∷ []) ≡ map key_of xs ++ key_of y ∷ []
map-push [] y = refl
map-push (x ∷ xs) y = ap (λ l. key_of x ∷ l) (map-push xs y)

-- an insertion and a merge, by keys
pub insert_is : (xs : List Choice) (y : Choice) → insert_key same_key (map key_of xs) (key_of y) ≡ map key_of (with_item same_choice added xs y)
insert_is xs y = ap (λ b. if b then map key_of xs else map key_of xs ++ key_of y ∷ []) (any_is xs y) ∙ either (list_any (alike y) xs) refl
  where
    either : (b : Bool) → list_any (alike y) xs ≡ b
        → (if b then map key_of xs else map key_of xs ++ key_of y ∷ []) ≡ map key_of (with_item same_choice added xs y)
    either true e = let at = placed xs y e in sym (keys_of_set xs (position_or_len (alike y) xs) y.weight) ∙ ap (map key_of) (sym at.is)
    either false e = sym (map-push xs y) ∙ ap (map key_of) (sym (missing xs y e))

-- ---- the place of the first equal choice

no_place : (xs : List Choice) (y : Choice) → list_any (alike y) xs ≡ false → position_or_len (alike y) xs ≡ length xs
no_place [] y e = refl
no_place (x ∷ xs) y e =
    let parts = neither (same_choice x y) (list_any (alike y) xs) e in
    let rest : position_or_len (alike y) xs ≡ length xs = no_place xs y parts.1 in
    ap (λ b. cond (not b) (1 + position_or_len (alike y) xs) 0) parts.0 ∙ omega (arith, rest)

pub placed_at : (xs : List Choice) (y : Choice) (place : ℕ) → place ≡ position_or_len (alike y) xs → place < length xs
    → Placed xs (with_item same_choice added xs y) y.weight place
placed_at xs y place is low = either (list_any (alike y) xs) refl
  where
    either : (b : Bool) → list_any (alike y) xs ≡ b → Placed xs (with_item same_choice added xs y) y.weight place
    either true e = subst (λ q. Placed xs (with_item same_choice added xs y) y.weight q) (sym is) (placed xs y e)
    either false e = let none : position_or_len (alike y) xs ≡ length xs = no_place xs y e in absurd (omega (arith, is, low, none))

pub missing_at : (xs : List Choice) (y : Choice) (place : ℕ) → place ≡ position_or_len (alike y) xs → length xs ≤ place
    → with_item same_choice added xs y ≡ xs ++ y ∷ []
missing_at xs y place is high = either (list_any (alike y) xs) refl
  where
    either : (b : Bool) → list_any (alike y) xs ≡ b → with_item same_choice added xs y ≡ xs ++ y ∷ []
    either true e = let low = (placed xs y e).within in absurd (omega (arith, is, high, low))
    either false e = missing xs y e

-- ---- lists into a list

with_items-append : (done ys zs : List Choice) → with_items same_choice added done (ys ++ zs) ≡ with_items same_choice added (with_items same_choice added done ys) zs
with_items-append done [] zs = refl
with_items-append done (y ∷ ys) zs = with_items-append (with_item same_choice added done y) ys zs

positive_step : (b : Bool) (y : Choice) (ys zs rest : List Choice) → rest ≡ ys ++ zs
    → elim b as (λ _. List Choice) [ true ↦ rest | false ↦ y ∷ rest ] ≡ elim b as (λ _. List Choice) [ true ↦ ys | false ↦ y ∷ ys ] ++ zs
positive_step true y ys zs rest h = h
positive_step false y ys zs rest h = ap (λ l. y ∷ l) h

positive-append : (ys zs : List Choice) → positive weight_of (ys ++ zs) ≡ positive weight_of ys ++ positive weight_of zs
positive-append [] zs = refl
positive-append (y ∷ ys) zs =
    positive_step (nat_eq (weight_of y) 0) y (positive weight_of ys) (positive weight_of zs) (positive weight_of (ys ++ zs)) (positive-append ys zs)

pub merging-append : (done ys zs : List Choice) → merging done (ys ++ zs) ≡ merging (merging done ys) zs
merging-append done ys zs =
    ap (with_items same_choice added done) (positive-append ys zs) ∙ with_items-append done (positive weight_of ys) (positive weight_of zs)

pub longer : (done ys : List Choice) → length done ≤ length (merging done ys)
longer done ys = (length-with_items same_choice added done (positive weight_of ys)).0

-- a list that is too long stays so
pub too_many : (e : JointRefusal) (done ys whole : List Choice) → merging done ys ≡ whole → IsTooMany e done → IsTooMany e whole
too_many Choices done ys whole is long =
    let same : length (merging done ys) ≡ length whole = ap length is in omega (arith, same, longer done ys, long)
too_many Memory done ys whole is long = tt
too_many Denominator done ys whole is long = long
too_many OutcomeCost done ys whole is long = long

-- ---- loops

pub drop_at : {X : Type 0} (l : List X) (i : ℕ) (x d : X) → i < length l → x ≡ get_or l i d → drop i l ≡ x ∷ drop (i + 1) l
drop_at l i x d within is = drop-cons l i d within ∙ ap (λ y. y ∷ drop (suc i) l) (sym is) ∙ ap (λ k. x ∷ drop k l) (sym (add-one i))

-- one more of the choices that are mapped and merged
pub map_step : (f : Choice → Choice) (done next whole ys : List Choice) (i : ℕ) (y d : Choice) → i < length ys → y ≡ get_or ys i d
    → merging done (map f (drop i ys)) ≡ whole → next ≡ merging done (f y ∷ []) → merging next (map f (drop (i + 1) ys)) ≡ whole
map_step f done next whole ys i y d within is before new =
    ap (λ l. merging l (map f (drop (i + 1) ys))) new
    ∙ sym (merging-append done (f y ∷ []) (map f (drop (i + 1) ys)))
    ∙ ap (λ l. merging done (map f l)) (sym (drop_at ys i y d within is)) ∙ before

pub map_refused : (e : JointRefusal) (f : Choice → Choice) (done whole ys : List Choice) (i : ℕ) (y d : Choice) → i < length ys → y ≡ get_or ys i d
    → merging done (map f (drop i ys)) ≡ whole → IsTooMany e (merging done (f y ∷ [])) → IsTooMany e whole
map_refused e f done whole ys i y d within is before long =
    too_many e (merging done (f y ∷ [])) (map f (drop (i + 1) ys)) whole
    (map_step f done (merging done (f y ∷ [])) whole ys i y d within is before refl) long

pub products_step : (done next whole xs ys : List Choice) (i : ℕ) (x d : Choice) → i < length xs → x ≡ get_or xs i d
    → merging done (products joined (drop i xs) ys) ≡ whole → next ≡ merging done (map (joined x) ys)
    → merging next (products joined (drop (i + 1) xs) ys) ≡ whole
products_step done next whole xs ys i x d within is before new =
    ap (λ l. merging l (products joined (drop (i + 1) xs) ys)) new
    ∙ sym (merging-append done (map (joined x) ys) (products joined (drop (i + 1) xs) ys))
    ∙ ap (λ l. merging done (products joined l ys)) (sym (drop_at xs i x d within is)) ∙ before

pub products_refused : (e : JointRefusal) (done whole xs ys : List Choice) (i : ℕ) (x d : Choice) → i < length xs → x ≡ get_or xs i d
    → merging done (products joined (drop i xs) ys) ≡ whole → IsTooMany e (merging done (map (joined x) ys)) → IsTooMany e whole
products_refused e done whole xs ys i x d within is before long =
    too_many e (merging done (map (joined x) ys)) (products joined (drop (i + 1) xs) ys) whole
    (products_step done (merging done (map (joined x) ys)) whole xs ys i x d within is before refl) long

pub list_refused : (e : JointRefusal) (f : Choice → Choice) (done whole : List Choice) (y : Choice) (rest : List Choice)
    → merging done (map f (y ∷ rest)) ≡ whole → IsTooMany e (merging done (f y ∷ [])) → IsTooMany e whole
list_refused e f done whole y rest before long =
    too_many e (merging done (f y ∷ [])) (map f rest) whole (sym (merging-append done (f y ∷ []) (map f rest)) ∙ before) long

take_next : {X : Type 0} (l : List X) (i : ℕ) (d : X) → i < length l → take (suc i) l ≡ take i l ++ get_or l i d ∷ []
take_next [] i d within = absurd (omega arith)
take_next (x ∷ l) zero d within = refl
take_next (x ∷ l) (suc i) d within = ap (λ m. x ∷ m) (take_next l i d (omega (arith, within)))

-- one more of the choices whose keys are put into a set
pub keys_step : (ks new : List Key) (xs : List Choice) (k : Key) (i : ℕ) (y d : Choice) → i < length xs → y ≡ get_or xs i d
    → ks ≡ map key_of (with_items same_choice added [] (take i xs)) → k ≡ key_of y → new ≡ insert_key same_key ks k
    → new ≡ map key_of (with_items same_choice added [] (take (i + 1) xs))
keys_step ks new xs k i y d within is are key inserted =
    let one : take (i + 1) xs ≡ take i xs ++ y ∷ [] = ap (λ n. take n xs) (add-one i) ∙ take_next xs i d within ∙ ap (λ x. take i xs ++ x ∷ []) (sym is) in
    inserted ∙ (λ j. insert_key same_key (are j) (key j))
    ∙ insert_is (with_items same_choice added [] (take i xs)) y
    ∙ ap (map key_of) (sym (ap (with_items same_choice added []) one ∙ with_items-append [] (take i xs) (y ∷ [])))
