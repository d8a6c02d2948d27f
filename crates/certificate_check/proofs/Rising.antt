-- Lists of numbers that rise, by their members.
use Rattle.std.proofs.Common.{◌≡◌, ◌⊎◌, inl, inr, ℕ, ◌<◌, true, List, [], ◌∷◌, Ordering, refl, sym, subst, arith}
use Rattle.std.specs.Prelude.{Contains}
use Rattle.std.specs.List.{AllByRecursion}
use Rattle.std.specs.Ordering.{nat_cmp, is_lt, MatchOrdering}
use Rattle.std.specs.declared.cmp.Ordering.TheVariants.{Less, Equal, Greater}
use Rattle.std.proofs.lemmas.Bool.{and_parts}
use Rattle.std.proofs.lemmas.Cmp.{ranked}
use Rattle.plain_list.specs.Texts.{rises, rises_behind}
use Rattle.plain_list.proofs.Members.{Contains-first, Contains-later, Contains-cons_cases, Contains-nil}

pub less_is : (o : Ordering) → is_lt o ≡ true → o ≡ Less
less_is Less e = refl
less_is Equal e = absurd cc
less_is Greater e = absurd cc

below : (x y : ℕ) → is_lt (nat_cmp x y) ≡ true → x < y
below x y e =
    subst (λ o. MatchOrdering o (x < y) (x ≡ y) (y < x)) (less_is (nat_cmp x y) e) (ranked x y (nat_cmp x y) refl)

abbrev pub Above : ℕ → List ℕ → Type 0
Above x ys = AllByRecursion (λ y. x < y) ys

abbrev pub Rising : List ℕ → Type 0
Rising [] = Unit {0}
Rising (x ∷ xs) = Above x xs × Rising xs

weaker : (x y : ℕ) → x < y → (ys : List ℕ) → Above y ys → Above x ys
weaker x y first [] above = tt
weaker x y first (z ∷ ys) above = (omega (arith, first, above.0), weaker x y first ys above.1)

rising_behind : (x : ℕ) (ys : List ℕ) → rises_behind nat_cmp x ys ≡ true → Above x ys × Rising ys
rising_behind x [] e = (tt, tt)
rising_behind x (y ∷ ys) e =
    let parts = and_parts (is_lt (nat_cmp x y)) (rises_behind nat_cmp y ys) e in
    let first : x < y = below x y parts.0 in
    let rest : Above y ys × Rising ys = rising_behind y ys parts.1 in
    ((first, weaker x y first ys rest.0), rest)

pub rising : (xs : List ℕ) → rises nat_cmp xs ≡ true → Rising xs
rising [] e = tt
rising (x ∷ xs) e = rising_behind x xs e

above_member : (x : ℕ) (ys : List ℕ) → Above x ys → (z : ℕ) → Contains ys z → x < z
above_member x [] above z inside = absurd (Contains-nil z inside)
above_member x (y ∷ ys) above z inside = elim (Contains-cons_cases y ys z inside) [
  | inl here ↦ subst (λ n. x < n) here above.0
  | inr later ↦ above_member x ys above.1 z later
]

heads : (x y : ℕ) → (y ≡ x) ⊎ (y < x) → (x ≡ y) ⊎ (x < y) → x ≡ y
heads x y (inl same) other = sym same
heads x y (inr less) (inl same) = same
heads x y (inr less) (inr more) = absurd (omega (arith, less, more))

member_cases : (y : ℕ) (ys : List ℕ) → Above y ys → (x : ℕ) → Contains (y ∷ ys) x → (y ≡ x) ⊎ (y < x)
member_cases y ys above x inside = elim (Contains-cons_cases y ys x inside) [
  | inl here ↦ inl here
  | inr later ↦ inr (above_member y ys above x later)
]

-- a member of what comes behind x is one of what comes behind an equal item
behind : (x y : ℕ) (xs ys : List ℕ) → x ≡ y → Above x xs → ((z : ℕ) → Contains (x ∷ xs) z → Contains (y ∷ ys) z)
    → (z : ℕ) → Contains xs z → Contains ys z
behind x y xs ys same above forth z inside =
    elim (Contains-cons_cases y ys z (forth z (Contains-later x xs z inside))) [
      | inl here ↦ absurd (let more : x < z = above_member x xs above z inside in omega (arith, more, same, here))
      | inr later ↦ later
    ]

pub same_members : (xs ys : List ℕ) → Rising xs → Rising ys → ((z : ℕ) → Contains xs z → Contains ys z)
    → ((z : ℕ) → Contains ys z → Contains xs z) → xs ≡ ys
same_members [] [] rise rise' forth back = refl
same_members [] (y ∷ ys) rise rise' forth back = absurd (Contains-nil y (back y (Contains-first y ys)))
same_members (x ∷ xs) [] rise rise' forth back = absurd (Contains-nil x (forth x (Contains-first x xs)))
same_members (x ∷ xs) (y ∷ ys) rise rise' forth back =
    let same : x ≡ y = heads x y (member_cases y ys rise'.0 x (forth x (Contains-first x xs)))
    (member_cases x xs rise.0 y (back y (Contains-first y ys))) in
    let rest : xs ≡ ys = same_members xs ys rise.1 rise'.1 (behind x y xs ys same rise.0 forth)
    (behind y x ys xs (sym same) rise'.0 back) in
    λ j. same j ∷ rest j
