-- Members of lists, and tests of both and either.
use Rattle.std.proofs.Common.{◌≡◌, ◌⊎◌, zero, suc, Bool, true, false, ◌&&◌, ◌||◌, List, [], ◌∷◌, inl, inr, refl, arith}
use Rattle.std.specs.Prelude.{Contains}

module _ {X : Type 0} where
  pub is_first : (x : X) (xs : List X) → Contains (x ∷ xs) x
  is_first x xs = (0, omega arith, refl)

  pub is_later : (y x : X) (xs : List X) → Contains xs x → Contains (y ∷ xs) x
  is_later y x xs (k, below, here) = (suc k, omega arith, here)

  pub first_or_later : (y x : X) (xs : List X) → Contains (y ∷ xs) x → (y ≡ x) ⊎ Contains xs x
  first_or_later y x xs (zero, below, here) = inl here
  first_or_later y x xs (suc k, below, here) = inr (k, omega arith, here)

  pub none_is_in : (x : X) → Contains [] x → ⊥
  none_is_in x (k, below, here) = omega arith

pub both : (a b : Bool) → a ≡ true → b ≡ true → (a && b) ≡ true
both true b first second = second
both false b first second = absurd cc

pub either_first : (a b : Bool) → a ≡ true → (a || b) ≡ true
either_first true b on = refl
either_first false b on = absurd cc

pub either_second : (a b : Bool) → b ≡ true → (a || b) ≡ true
either_second true b on = refl
either_second false b on = on

pub one_of : (a b : Bool) → (a || b) ≡ true → (a ≡ true) ⊎ (b ≡ true)
one_of true b on = inl refl
one_of false b on = inr on
