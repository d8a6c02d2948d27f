-- The laws of relaxed potentials, as statements.
--     ConsistentIsUnder p        where each step costs at least 1, a consistent heuristic is known from below of each state
-- Of a ground problem:
--     HasGreatestPotential g     each state has a greatest potential
--     GreatestPotentialsAgree g  and no two that differ
--     HasRelaxed g, RelaxedIsDetermined g
--                                so each state has one greatest relaxed cost
--     RelaxedIsConsistent g      it is consistent
--     RelaxedIsUnder g           and known from below of each state
use Rattle.std.specs.Prelude.{◌≡◌, ℕ}
use Rattle.decision_process.specs.Process.{Process, HasDenominator, CostsAtLeast}
use Rattle.decision_process.specs.under.Under.{IsUnder}
use Rattle.ground_model.specs.Packed.{State}
use Rattle.ground_model.specs.Ground.{Ground}
use Rattle.ground_model.specs.Steps.{ground_process}
use Rattle.relaxed_seed.specs.Potential.{IsGreatestPotential, IsRelaxed}
use Rattle.relaxed_seed.specs.Consistent.{IsConsistent}

abbrev pub ConsistentIsUnder : {S A : Type 0} → Process S A → Type 0
ConsistentIsUnder {S} p = HasDenominator p → CostsAtLeast p 1 → (h : S → ℕ) → IsConsistent p h
    → (s : S) → IsUnder p (h s) s

module _ (g : Ground) where
  abbrev pub HasGreatestPotential : Type 0
  HasGreatestPotential = (s : State) → (r : ℕ → ℕ) × IsGreatestPotential g s r

  abbrev pub GreatestPotentialsAgree : Type 0
  GreatestPotentialsAgree = (s : State) (r r' : ℕ → ℕ) → IsGreatestPotential g s r
      → IsGreatestPotential g s r' → (q : ℕ) → r q ≡ r' q

  abbrev pub HasRelaxed : Type 0
  HasRelaxed = (s : State) → (value : ℕ) × IsRelaxed g s value

  abbrev pub RelaxedIsDetermined : Type 0
  RelaxedIsDetermined = (s : State) (value value' : ℕ) → IsRelaxed g s value
      → IsRelaxed g s value' → value ≡ value'

  abbrev pub RelaxedIsConsistent : Type 0
  RelaxedIsConsistent = (h : State → ℕ) → ((s : State) → IsRelaxed g s (h s))
      → IsConsistent (ground_process g) h

  abbrev pub RelaxedIsUnder : Type 0
  RelaxedIsUnder = (s : State) (value : ℕ) → IsRelaxed g s value
      → IsUnder (ground_process g) value s
