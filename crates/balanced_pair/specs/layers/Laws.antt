-- The laws of layers, as statements.
--     GreaterIsSubSolution      the greater of two sub-solutions of the Bellman equation is one
--     GroupIsSubSolution        where weights sum to the denominator, the sums of a group are one
--     LayersAreSubSolution      and so is the greatest sum of several groups
use Rattle.std.specs.Prelude.{ℕ, max, List, Contains}
use Rattle.decision_process.specs.Process.{Process, HasDenominator}
use Rattle.balanced_pair.specs.Pairs.{IsSubSolution}
use Rattle.balanced_pair.specs.layers.Layers.{Layer, group_low, IsGroup, layers_low}

abbrev pub GreaterIsSubSolution : {S A : Type 0} → Process S A → Type 0
GreaterIsSubSolution {S} p = (low other : S → ℕ) → IsSubSolution p low → IsSubSolution p other
    → IsSubSolution p (λ s. max (low s) (other s))

module _ (V : Type 0) {S A : Type 0} (p : Process S A) where
  abbrev pub GroupIsSubSolution : Type 0
  GroupIsSubSolution = HasDenominator p → (layers : List (Layer S A V)) → IsGroup p layers
      → IsSubSolution p (group_low p layers)

  abbrev pub LayersAreSubSolution : Type 0
  LayersAreSubSolution = HasDenominator p → (groups : List (List (Layer S A V)))
      → ((group : List (Layer S A V)) → Contains groups group → IsGroup p group)
      → IsSubSolution p (layers_low p groups)
