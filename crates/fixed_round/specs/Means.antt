-- Means over the outcomes of a choice: outcome i has weight `ws i` out of `den`, cost `cs i`,
-- and value `vs i` of what follows.
--     weighted ws cs vs            the sum of weight * (cost + value)
--     AreOutcomes ws cs vs den     lists of the outcomes of a choice, within the limits
--     IsFloor total den n          n is total / den, rounded down
--     IsCeiling total den n        n is total / den, rounded up
use Rattle.std.specs.Prelude.{◌≡◌, ℕ, ◌+◌, ◌*◌, ◌^◌, ◌<◌, ◌≤◌, List, ◌∷◌, length, sum, All}

abbrev pub weighted : List ℕ → List ℕ → List ℕ → ℕ
weighted (w ∷ ws) (c ∷ cs) (v ∷ vs) = w * (c + v) + weighted ws cs vs
weighted _ _ _ = 0

-- weights, costs and values of the outcomes of one choice
pub record AreOutcomes (ws cs vs : List ℕ) (den : ℕ) : Type 0 where
  pub a_cost_each : length cs ≡ length ws
  pub a_value_each : length vs ≡ length ws
  pub whole : sum ws ≡ den
  pub den_positive : 1 ≤ den
  pub den_bounded : den ≤ 10 ^ 18
  pub costs_bounded : All (λ c. c ≤ 10 ^ 13) cs
  pub values_bounded : All (λ v. v ≤ 10 ^ 14) vs

-- n is the greatest whole number of at most total / den
pub record IsFloor (total den n : ℕ) : Type 0 where
  pub at_most : n * den ≤ total
  pub greatest : total < (n + 1) * den

-- n is the least whole number of at least total / den
pub record IsCeiling (total den n : ℕ) : Type 0 where
  pub at_least : total ≤ n * den
  pub least : n * den < total + den
