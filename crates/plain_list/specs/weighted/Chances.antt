-- When two weighted lists give each key the same chance.
--     IsExact same                             the test holds exactly of equal keys
--     SameChances w key w' key' same l d l' d' each key has the same weight in l over the denominator d as in l' over d'
use Rattle.std.specs.Prelude.{◌≡◌, ℕ, ◌*◌, Bool, List, Decides}
use Rattle.plain_list.specs.weighted.Mean.{weight}

abbrev pub IsExact : {X : Type 0} → (X → X → Bool) → Type 0
IsExact {X} same = (x y : X) → Decides (same x y) (x ≡ y)

module _ {C D X : Type 0} (w : C → ℕ) (key : C → X) (w' : D → ℕ) (key' : D → X) where
  abbrev pub SameChances : (X → X → Bool) → List C → ℕ → List D → ℕ → Type 0
  SameChances same l den l' den' =
      (x : X) → weight w key same l x * den' ≡ weight w' key' same l' x * den
