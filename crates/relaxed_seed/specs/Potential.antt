-- Relaxed potentials: prices of atoms that no choice undercuts, where each choice is an action of its own and nothing is deleted.
--     AllowsGuarded penalty base cost r x, AllowsChoice penalty base r c
--                                no atom that the part, or the choice, adds has a price above the choice's own cost and the greater of
--                                `base`, which is the price of the action's condition, and the price of the part's condition
--     AllowsAction penalty r a   this of each choice of the action
--     IsPotential g s r          prices of at most the penalty, 0 at the atoms that are true in s, which each action allows
--     IsBelow r r'               no price of r is above that of r'
--     IsGreatestPotential g s r  a potential that no other exceeds at any atom
--     IsRelaxed g s v            v is the price of the goal by the greatest potential: the greatest relaxed cost of s
-- A choice costs its `cost`, without those of its guarded parts. What it both deletes and adds is added.
-- Source: the heuristic h-max (Bonet and Geffner 2001) of the all-outcomes determinisation (Yoon, Fern and Givan 2007).
use Rattle.std.specs.Prelude.{◌≡◌, ℕ, ◌+◌, ◌<◌, ◌≤◌, max, true, All, length}
use Rattle.ground_model.specs.declared.action.Choice.{Choice}
use Rattle.ground_model.specs.declared.action.GroundAction.{GroundAction}
use Rattle.ground_model.specs.declared.action.Guarded.{Guarded}
use Rattle.ground_model.specs.Packed.{State, has_bit}
use Rattle.ground_model.specs.Ground.{Ground}
use Rattle.relaxed_seed.specs.Prices.{price}

abbrev pub IsBelow : (ℕ → ℕ) → (ℕ → ℕ) → Type 0
IsBelow r r' = (q : ℕ) → r q ≤ r' q

module _ (penalty : ℕ) where
  abbrev pub AllowsGuarded : ℕ → ℕ → (ℕ → ℕ) → Guarded → Type 0
  AllowsGuarded base cost r x =
      All (λ q. r q ≤ cost + max base (price r penalty x.condition)) x.adds

  pub record AllowsChoice (base : ℕ) (r : ℕ → ℕ) (c : Choice) : Type 0 where
    pub adds : All (λ q. r q ≤ c.cost + base) c.adds
    pub guarded : All (AllowsGuarded base c.cost r) c.guarded

  abbrev pub AllowsAction : (ℕ → ℕ) → GroundAction → Type 0
  AllowsAction r a = All (AllowsChoice (price r penalty a.condition) r) a.choices

module _ (g : Ground) (s : State) where
  pub record IsPotential (r : ℕ → ℕ) : Type 0 where
    pub within_quit : (q : ℕ) → r q ≤ g.penalty
    pub at_true : (q : ℕ) → q < length g.atoms → has_bit s q ≡ true → r q ≡ 0
    pub allowed : All (AllowsAction g.penalty r) g.actions

  pub record IsGreatestPotential (r : ℕ → ℕ) : Type 0 where
    pub potential : IsPotential r
    pub greatest : (r' : ℕ → ℕ) → IsPotential r' → IsBelow r' r

  pub record IsRelaxed (value : ℕ) : Type 0 where
    pub prices : ℕ → ℕ
    pub greatest : IsGreatestPotential prices
    pub value_is : value ≡ price prices g.penalty g.goal
