-- Rising lists rise, and hold what they are made from.
use Rattle.std.proofs.Common.{◌≡◌, ℕ, ◌<◌, ◌≤◌, Bool, true, false, cond, not, ◌&&◌, ◌||◌, List, [], ◌∷◌}
use Rattle.std.proofs.Common.{refl, sym, ap, inl, inr, ◌∙◌, arith}
use Rattle.std.specs.Prelude.{nat_eq, nat_lt, filter, All}
use Rattle.std.specs.List.{list_all}
use Rattle.std.specs.declared.cmp.Ordering.TheVariants.{Less, Equal, Greater}
use Rattle.std.specs.Ordering.{nat_cmp, is_lt}
use Rattle.std.proofs.lemmas.Bool.{cases_order, and_parts, lt-ltb, ltb-true, ltb-false, eqb-true, eqb-false, eq-eqb}
use Rattle.std.proofs.lemmas.List.Elements.{All-cons, All-head, All-tail, All-filter}
use Rattle.std.proofs.lemmas.Map.Views.{any-filter_same}
use Rattle.plain_list.specs.Texts.{rises, rises_behind}
use Rattle.ground_model.specs.Choices.{is_member}
use Rattle.ground_meaning.specs.choices.Rising.{insert, rising, less}

less_by_tests : (below same : Bool) → is_lt (cond below Less (cond same Equal Greater)) ≡ below
less_by_tests true same = refl
less_by_tests false true = refl
less_by_tests false false = refl

is_below : (x y : ℕ) → is_lt (nat_cmp x y) ≡ nat_lt x y
is_below x y = less_by_tests (nat_lt x y) (nat_eq x y)

below_is : (x y : ℕ) → is_lt (nat_cmp x y) ≡ true → x < y
below_is x y e = ltb-true x y (sym (is_below x y) ∙ e)

below_from : (x y : ℕ) → x < y → is_lt (nat_cmp x y) ≡ true
below_from x y below = is_below x y ∙ lt-ltb x y below

both : (a b : Bool) → a ≡ true → b ≡ true → (a && b) ≡ true
both a b e f = rw e f

abbrev Behind : ℕ → List ℕ → Type 0
Behind x ys = rises_behind nat_cmp x ys ≡ true

behind_cons : (x y : ℕ) (ys : List ℕ) → x < y → Behind y ys → Behind x (y ∷ ys)
behind_cons x y ys below rest = both (is_lt (nat_cmp x y)) (rises_behind nat_cmp y ys) (below_from x y below) rest

behind_first : (x y : ℕ) (ys : List ℕ) → Behind x (y ∷ ys) → x < y
behind_first x y ys rise = below_is x y (and_parts (is_lt (nat_cmp x y)) (rises_behind nat_cmp y ys) rise).0

behind_rest : (x y : ℕ) (ys : List ℕ) → Behind x (y ∷ ys) → Behind y ys
behind_rest x y ys rise = (and_parts (is_lt (nat_cmp x y)) (rises_behind nat_cmp y ys) rise).1

behind_less : (x y : ℕ) (ys : List ℕ) → x < y → Behind y ys → Behind x ys
behind_less x y [] below rise = refl
behind_less x y (z ∷ ys) below rise =
    let second : y < z = behind_first y z ys rise in
    behind_cons x z ys (omega (arith, below, second)) (behind_rest y z ys rise)

-- ---- insertion

behind_inserted : (x y z : ℕ) (ys rest : List ℕ) (below same : Bool) → nat_lt y z ≡ below → nat_eq y z ≡ same
    → x < y → Behind x (z ∷ ys) → (z < y → Behind z rest)
    → Behind x (elim below [ true ↦ y ∷ z ∷ ys | false ↦ elim same [ true ↦ z ∷ ys | false ↦ z ∷ rest ] ])
behind_inserted x y z ys rest true same e f before rise later =
    behind_cons x y (z ∷ ys) before (behind_cons y z ys (ltb-true y z e) (behind_rest x z ys rise))
behind_inserted x y z ys rest false true e f before rise later = rise
behind_inserted x y z ys rest false false e f before rise later =
    let least : z ≤ y = ltb-false y z e in
    let above : z < y = elim (cases_order y z) [
      | inl same ↦ absurd (eqb-false y z f same)
      | inr (inl less) ↦ absurd (omega (arith, least, less))
      | inr (inr more) ↦ more
    ] in
    behind_cons x z rest (behind_first x z ys rise) (later above)

behind_insert : (x y : ℕ) (ys : List ℕ) → x < y → Behind x ys → Behind x (insert y ys)
behind_insert x y [] before rise = behind_cons x y [] before refl
behind_insert x y (z ∷ ys) before rise =
    behind_inserted x y z ys (insert y ys) (nat_lt y z) (nat_eq y z) refl refl before rise
    (λ above. behind_insert z y ys above (behind_rest x z ys rise))

rises_inserted : (y z : ℕ) (ys rest : List ℕ) (below same : Bool) → nat_lt y z ≡ below → nat_eq y z ≡ same
    → Behind z ys → (z < y → Behind z rest)
    → rises nat_cmp (elim below as (λ _. List ℕ) [ true ↦ y ∷ z ∷ ys | false ↦ elim same [ true ↦ z ∷ ys | false ↦ z ∷ rest ] ]) ≡ true
rises_inserted y z ys rest true same e f rise later = behind_cons y z ys (ltb-true y z e) rise
rises_inserted y z ys rest false true e f rise later = rise
rises_inserted y z ys rest false false e f rise later =
    let least : z ≤ y = ltb-false y z e in
    elim (cases_order y z) [
      | inl same ↦ absurd (eqb-false y z f same)
      | inr (inl less) ↦ absurd (omega (arith, least, less))
      | inr (inr more) ↦ later more
    ]

rises-insert : (y : ℕ) (ys : List ℕ) → rises nat_cmp ys ≡ true → rises nat_cmp (insert y ys) ≡ true
rises-insert y [] rise = refl
rises-insert y (z ∷ ys) rise =
    rises_inserted y z ys (insert y ys) (nat_lt y z) (nat_eq y z) refl refl rise (λ above. behind_insert z y ys above rise)

pub rises-rising : (xs : List ℕ) → rises nat_cmp (rising xs) ≡ true
rises-rising [] = refl
rises-rising (x ∷ xs) = rises-insert x (rising xs) (rises-rising xs)

-- ---- what is left of a rising list

behind_kept : (p : ℕ → Bool) (x y : ℕ) (ys : List ℕ) (kept : Bool) → x < y → Behind y ys
    → Behind x (filter p ys) → Behind y (filter p ys) → Behind x (cond kept (y ∷ filter p ys) (filter p ys))
behind_kept p x y ys true before rise low high = behind_cons x y (filter p ys) before high
behind_kept p x y ys false before rise low high = low

behind-filter : (p : ℕ → Bool) (x : ℕ) (ys : List ℕ) → Behind x ys → Behind x (filter p ys)
behind-filter p x [] rise = refl
behind-filter p x (y ∷ ys) rise =
    let before : x < y = behind_first x y ys rise in
    let rest : Behind y ys = behind_rest x y ys rise in
    behind_kept p x y ys (p y) before rest (behind-filter p x ys (behind_less x y ys before rest)) (behind-filter p y ys rest)

rises_kept : (p : ℕ → Bool) (y : ℕ) (ys : List ℕ) (kept : Bool) → rises nat_cmp (filter p ys) ≡ true → Behind y (filter p ys)
    → rises nat_cmp (cond kept (y ∷ filter p ys) (filter p ys)) ≡ true
rises_kept p y ys true low high = high
rises_kept p y ys false low high = low

rises_from_behind : (y : ℕ) (ys : List ℕ) → Behind y ys → rises nat_cmp ys ≡ true
rises_from_behind y [] rise = refl
rises_from_behind y (z ∷ ys) rise = behind_rest y z ys rise

rises-filter : (p : ℕ → Bool) (ys : List ℕ) → rises nat_cmp ys ≡ true → rises nat_cmp (filter p ys) ≡ true
rises-filter p [] rise = refl
rises-filter p (y ∷ ys) rise =
    rises_kept p y ys (p y) (rises-filter p ys (rises_from_behind y ys rise)) (behind-filter p y ys rise)

pub rises-less : (xs gone : List ℕ) → rises nat_cmp xs ≡ true → rises nat_cmp (less xs gone) ≡ true
rises-less xs gone = rises-filter (λ q. not (is_member gone q)) xs

-- ---- members

module _ (P : ℕ → Type 0) where
  all_inserted : (y z : ℕ) (ys rest : List ℕ) (below same : Bool) → P y → All P (z ∷ ys) → All P rest
      → All P (elim below [ true ↦ y ∷ z ∷ ys | false ↦ elim same [ true ↦ z ∷ ys | false ↦ z ∷ rest ] ])
  all_inserted y z ys rest true same first each later = All-cons P y (z ∷ ys) first each
  all_inserted y z ys rest false true first each later = each
  all_inserted y z ys rest false false first each later = All-cons P z rest (All-head P z ys each) later

  all-insert : (y : ℕ) (ys : List ℕ) → P y → All P ys → All P (insert y ys)
  all-insert y [] first each = All-cons P y [] first each
  all-insert y (z ∷ ys) first each =
      all_inserted y z ys (insert y ys) (nat_lt y z) (nat_eq y z) first each (all-insert y ys first (All-tail P z ys each))

  pub All-rising : (xs : List ℕ) → All P xs → All P (rising xs)
  All-rising [] each = each
  All-rising (x ∷ xs) each = all-insert x (rising xs) (All-head P x xs each) (All-rising xs (All-tail P x xs each))

  pub All-less : (xs gone : List ℕ) → All P xs → All P (less xs gone)
  All-less xs gone = All-filter (λ q. not (is_member gone q)) P xs

-- nothing is left of what is gone
gone_is_none : (xs gone : List ℕ) (q : ℕ) → is_member gone q ≡ true → is_member (less xs gone) q ≡ false
gone_is_none xs gone q inside =
    any-filter_same (nat_eq q) (λ k. not (is_member gone k)) false
    (λ k same. ap not (ap (is_member gone) (sym (eqb-true q k same)) ∙ inside)) xs

or_right : (a b : Bool) → b ≡ true → (a || b) ≡ true
or_right true b e = refl
or_right false b e = e

disjoint_from : (xs all gone : List ℕ) → ((q : ℕ) → is_member xs q ≡ true → is_member gone q ≡ true)
    → list_all (λ q. not (is_member (less all gone) q)) xs ≡ true
disjoint_from [] all gone within = refl
disjoint_from (x ∷ xs) all gone within =
    both (not (is_member (less all gone) x)) (list_all (λ q. not (is_member (less all gone) q)) xs)
    (ap not (gone_is_none all gone x (within x (ap (λ b. b || is_member xs x) (eq-eqb x x refl)))))
    (disjoint_from xs all gone (λ q inside. within q (or_right (nat_eq q x) (is_member xs q) inside)))

pub disjoint-less : (all adds : List ℕ) → list_all (λ q. not (is_member (less all adds) q)) adds ≡ true
disjoint-less all adds = disjoint_from adds all adds (λ q inside. inside)
