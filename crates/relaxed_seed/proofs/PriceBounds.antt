-- How prices of conditions grow with those of atoms, and what they are for atoms that are free where they are true.
use Rattle.std.proofs.Common.{◌≡◌, ℕ, ◌+◌, ◌<◌, ◌≤◌, min, max, Bool, true, false, not, List, [], ◌++◌, refl, inl, inr, arith}
use Rattle.std.specs.Prelude.{All, Contains}
use Rattle.std.proofs.lemmas.Bool.{and_parts, and_cases, or_parts, or_cases}
use Rattle.std.proofs.lemmas.List.Elements.{All-head, All-weaker, All-contains, All-contains_itself, Contains-append_left, Contains-append_right}
use Rattle.ground_model.specs.declared.condition.GroundCondition.{GroundCondition, Row_of-GroundCondition, end_of-GroundCondition, more_of-GroundCondition}
use Rattle.ground_model.specs.declared.condition.GroundCondition.TheVariants.{True, False, Atom, Not', All', Any'}
use Rattle.ground_model.specs.Truth.{truth, all_true, any_true, atoms_in, atoms_in_each}
use Rattle.ground_model.specs.Invariant.{AllBelow}
use Rattle.relaxed_seed.specs.Prices.{price_as, greatest_price, least_price, price}
use Rattle.relaxed_seed.specs.Potential.{IsBelow}

pub All-append_left : {X : Type 0} (P : X → Type 0) (xs ys : List X) → All P (xs ++ ys) → All P xs
All-append_left P xs ys both =
    All-weaker (Contains xs) P (λ x inside. All-contains P (xs ++ ys) x both (Contains-append_left xs ys x inside)) xs (All-contains_itself xs)

pub All-append_right : {X : Type 0} (P : X → Type 0) (xs ys : List X) → All P (xs ++ ys) → All P ys
All-append_right P xs ys both =
    All-weaker (Contains ys) P (λ x inside. All-contains P (xs ++ ys) x both (Contains-append_right xs ys x inside)) ys (All-contains_itself ys)

greater_falls : (a b a' b' k : ℕ) → a ≤ k + a' → b ≤ k + b' → max a b ≤ k + max a' b'
greater_falls a b a' b' k first second = omega (arith, first, second)

smaller_falls : (a b a' b' k : ℕ) → a ≤ k + a' → b ≤ k + b' → min a b ≤ k + min a' b'
smaller_falls a b a' b' k first second = omega (arith, first, second)

greater_within : (a b n : ℕ) → a ≤ n → b ≤ n → max a b ≤ n
greater_within a b n first second = omega (arith, first, second)

smaller_within : (a b n : ℕ) → b ≤ n → min a b ≤ n
smaller_within a b n second = omega (arith, second)

greater_zero : (a b : ℕ) → a ≡ 0 → b ≡ 0 → max a b ≡ 0
greater_zero a b first second = omega (arith, first, second)

smaller_zero_left : (a b : ℕ) → a ≡ 0 → min a b ≡ 0
smaller_zero_left a b first = omega (arith, first)

smaller_zero_right : (a b : ℕ) → b ≡ 0 → min a b ≡ 0
smaller_zero_right a b second = omega (arith, second)

true_from_not : (b : Bool) → not b ≡ false → b ≡ true
true_from_not true e = refl
true_from_not false e = absurd cc

false_from_not : (b : Bool) → not b ≡ true → b ≡ false
false_from_not true e = absurd cc
false_from_not false e = refl

-- where prices of atoms fall by at most k, so do those of conditions
module _ (penalty k : ℕ) (r q : ℕ → ℕ) (falls : (p : ℕ) → r p ≤ k + q p) where
  mutual
    pub price_falls : (b : Bool) (c : GroundCondition) → price_as r penalty b c ≤ k + price_as q penalty b c
    price_falls true True = omega arith
    price_falls false True = omega arith
    price_falls true False = omega arith
    price_falls false False = omega arith
    price_falls true (Atom p) = falls p
    price_falls false (Atom p) = omega arith
    price_falls true (Not' u (more_of-GroundCondition c end_of-GroundCondition)) = price_falls false c
    price_falls false (Not' u (more_of-GroundCondition c end_of-GroundCondition)) = price_falls true c
    price_falls true (All' shape cs) = greatest_falls true cs
    price_falls false (All' shape cs) = least_falls false cs
    price_falls true (Any' shape cs) = least_falls true cs
    price_falls false (Any' shape cs) = greatest_falls false cs

    greatest_falls : (b : Bool) {n : _} (cs : Row_of-GroundCondition n) → greatest_price r penalty b cs ≤ k + greatest_price q penalty b cs
    greatest_falls b end_of-GroundCondition = omega arith
    greatest_falls b (more_of-GroundCondition c cs) =
        greater_falls (price_as r penalty b c) (greatest_price r penalty b cs) (price_as q penalty b c) (greatest_price q penalty b cs) k
        (price_falls b c) (greatest_falls b cs)

    least_falls : (b : Bool) {n : _} (cs : Row_of-GroundCondition n) → least_price r penalty b cs ≤ k + least_price q penalty b cs
    least_falls b end_of-GroundCondition = omega arith
    least_falls b (more_of-GroundCondition c cs) =
        smaller_falls (price_as r penalty b c) (least_price r penalty b cs) (price_as q penalty b c) (least_price q penalty b cs) k
        (price_falls b c) (least_falls b cs)

le_plus_none : (a b : ℕ) → a ≤ b → a ≤ 0 + b
le_plus_none a b below = omega (arith, below)

le_without_none : (a b : ℕ) → a ≤ 0 + b → a ≤ b
le_without_none a b below = omega (arith, below)

-- so they rise with them
pub price_rises : (penalty : ℕ) (r r' : ℕ → ℕ) → IsBelow r r' → (c : GroundCondition) → price r penalty c ≤ price r' penalty c
price_rises penalty r r' below c =
    le_without_none (price r penalty c) (price r' penalty c)
    (price_falls penalty 0 r r' (λ p. le_plus_none (r p) (r' p) (below p)) true c)

-- where no price of an atom is above the penalty, no price is
module _ (penalty : ℕ) (r : ℕ → ℕ) (within : (p : ℕ) → r p ≤ penalty) where
  mutual
    pub price_within : (b : Bool) (c : GroundCondition) → price_as r penalty b c ≤ penalty
    price_within true True = omega arith
    price_within false True = omega arith
    price_within true False = omega arith
    price_within false False = omega arith
    price_within true (Atom p) = within p
    price_within false (Atom p) = omega arith
    price_within true (Not' u (more_of-GroundCondition c end_of-GroundCondition)) = price_within false c
    price_within false (Not' u (more_of-GroundCondition c end_of-GroundCondition)) = price_within true c
    price_within true (All' shape cs) = greatest_within true cs
    price_within false (All' shape cs) = least_within false cs
    price_within true (Any' shape cs) = least_within true cs
    price_within false (Any' shape cs) = greatest_within false cs

    greatest_within : (b : Bool) {n : _} (cs : Row_of-GroundCondition n) → greatest_price r penalty b cs ≤ penalty
    greatest_within b end_of-GroundCondition = omega arith
    greatest_within b (more_of-GroundCondition c cs) =
        greater_within (price_as r penalty b c) (greatest_price r penalty b cs) penalty (price_within b c) (greatest_within b cs)

    least_within : (b : Bool) {n : _} (cs : Row_of-GroundCondition n) → least_price r penalty b cs ≤ penalty
    least_within b end_of-GroundCondition = omega arith
    least_within b (more_of-GroundCondition c cs) =
        smaller_within (price_as r penalty b c) (least_price r penalty b cs) penalty (least_within b cs)

-- where true atoms are free, what holds is free
module _ (penalty n : ℕ) (bit : ℕ → Bool) (r : ℕ → ℕ) (free : (p : ℕ) → p < n → bit p ≡ true → r p ≡ 0) where
  mutual
    pub free_as : (b : Bool) (c : GroundCondition) → AllBelow n (atoms_in c) → truth bit c ≡ b → price_as r penalty b c ≡ 0
    free_as true True below is = refl
    free_as false True below is = absurd cc
    free_as true False below is = absurd cc
    free_as false False below is = refl
    free_as true (Atom p) below is = free p (All-head (λ q. q < n) p [] below) is
    free_as false (Atom p) below is = refl
    free_as true (Not' u (more_of-GroundCondition c end_of-GroundCondition)) below is =
        free_as false c (All-append_left (λ q. q < n) (atoms_in c) [] below) (false_from_not (truth bit c) is)
    free_as false (Not' u (more_of-GroundCondition c end_of-GroundCondition)) below is =
        free_as true c (All-append_left (λ q. q < n) (atoms_in c) [] below) (true_from_not (truth bit c) is)
    free_as true (All' shape cs) below is = all_free cs below is
    free_as false (All' shape cs) below is = one_not_free cs below is
    free_as true (Any' shape cs) below is = one_free cs below is
    free_as false (Any' shape cs) below is = none_free cs below is

    all_free : {m : _} (cs : Row_of-GroundCondition m) → AllBelow n (atoms_in_each cs) → all_true bit cs ≡ true
        → greatest_price r penalty true cs ≡ 0
    all_free end_of-GroundCondition below is = refl
    all_free (more_of-GroundCondition c cs) below is =
        let parts = and_parts (truth bit c) (all_true bit cs) is in
        greater_zero (price_as r penalty true c) (greatest_price r penalty true cs)
        (free_as true c (All-append_left (λ q. q < n) (atoms_in c) (atoms_in_each cs) below) parts.0)
        (all_free cs (All-append_right (λ q. q < n) (atoms_in c) (atoms_in_each cs) below) parts.1)

    one_not_free : {m : _} (cs : Row_of-GroundCondition m) → AllBelow n (atoms_in_each cs) → all_true bit cs ≡ false
        → least_price r penalty false cs ≡ 0
    one_not_free end_of-GroundCondition below is = absurd cc
    one_not_free (more_of-GroundCondition c cs) below is = elim (and_cases (truth bit c) (all_true bit cs) is) [
      | inl here ↦
          smaller_zero_left (price_as r penalty false c) (least_price r penalty false cs)
          (free_as false c (All-append_left (λ q. q < n) (atoms_in c) (atoms_in_each cs) below) here)
      | inr later ↦
          smaller_zero_right (price_as r penalty false c) (least_price r penalty false cs)
          (one_not_free cs (All-append_right (λ q. q < n) (atoms_in c) (atoms_in_each cs) below) later)
    ]

    one_free : {m : _} (cs : Row_of-GroundCondition m) → AllBelow n (atoms_in_each cs) → any_true bit cs ≡ true
        → least_price r penalty true cs ≡ 0
    one_free end_of-GroundCondition below is = absurd cc
    one_free (more_of-GroundCondition c cs) below is = elim (or_cases (truth bit c) (any_true bit cs) is) [
      | inl here ↦
          smaller_zero_left (price_as r penalty true c) (least_price r penalty true cs)
          (free_as true c (All-append_left (λ q. q < n) (atoms_in c) (atoms_in_each cs) below) here)
      | inr later ↦
          smaller_zero_right (price_as r penalty true c) (least_price r penalty true cs)
          (one_free cs (All-append_right (λ q. q < n) (atoms_in c) (atoms_in_each cs) below) later)
    ]

    none_free : {m : _} (cs : Row_of-GroundCondition m) → AllBelow n (atoms_in_each cs) → any_true bit cs ≡ false
        → greatest_price r penalty false cs ≡ 0
    none_free end_of-GroundCondition below is = refl
    none_free (more_of-GroundCondition c cs) below is =
        let parts = or_parts (truth bit c) (any_true bit cs) is in
        greater_zero (price_as r penalty false c) (greatest_price r penalty false cs)
        (free_as false c (All-append_left (λ q. q < n) (atoms_in c) (atoms_in_each cs) below) parts.0)
        (none_free cs (All-append_right (λ q. q < n) (atoms_in c) (atoms_in_each cs) below) parts.1)
