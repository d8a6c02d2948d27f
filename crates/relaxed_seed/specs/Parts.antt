-- The prices of the parts of a condition, in a list.
--     max_with f l               the greatest of f over l, 0 without any
--     dearest, cheapest r penalty b cs
--                                the greatest and the least price of making one of these conditions true, where b is true, else false
use Rattle.std.specs.Prelude.{ℕ, max, Bool, List, [], ◌∷◌}
use Rattle.decision_process.specs.Process.{min_with}
use Rattle.ground_model.specs.declared.condition.GroundCondition.{GroundCondition}
use Rattle.relaxed_seed.specs.Prices.{price_as}

abbrev pub max_with : {A : Type 0} → (A → ℕ) → List A → ℕ
max_with f [] = 0
max_with f (a ∷ more) = max (f a) (max_with f more)

abbrev pub dearest : (ℕ → ℕ) → ℕ → Bool → List GroundCondition → ℕ
dearest r penalty b cs = max_with (price_as r penalty b) cs

abbrev pub cheapest : (ℕ → ℕ) → ℕ → Bool → List GroundCondition → ℕ
cheapest r penalty b cs = min_with penalty (price_as r penalty b) cs
