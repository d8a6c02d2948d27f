-- Prices that stand in a list and are lowered until every action allows them.
--     AreWithin penalty prices   no price is above the penalty
--     IsLowered penalty Allows old new fell
--                                prices were lowered by no more than a fact about prices asks for: each prices of which it holds are still
--                                below them where they were; where nothing fell it holds of them, else their sum fell
--     IsAbovePotentials g s prices
--                                prices of at most the penalty, 0 at the atoms that are true in s, with each potential below them
use Rattle.std.specs.Prelude.{◌≡◌, ℕ, ◌<◌, ◌≤◌, Bool, true, false, List, length}
use Rattle.std.specs.List.{sum}
use Rattle.ground_model.specs.Packed.{State, has_bit}
use Rattle.ground_model.specs.Ground.{Ground}
use Rattle.relaxed_seed.specs.Prices.{prices_at}
use Rattle.relaxed_seed.specs.Potential.{IsBelow, IsPotential}

abbrev pub AreWithin : ℕ → List ℕ → Type 0
AreWithin penalty prices = (q : ℕ) → prices_at prices penalty q ≤ penalty

module _ (penalty : ℕ) (Allows : (ℕ → ℕ) → Type 0) (old new : List ℕ) where
  pub record IsLowered (fell : Bool) : Type 0 where
    pub same_length : length new ≡ length old
    pub below : IsBelow (prices_at new penalty) (prices_at old penalty)
    pub above : (r : ℕ → ℕ) → IsBelow r (prices_at old penalty) → Allows r
        → IsBelow r (prices_at new penalty)
    pub rests : fell ≡ false → (new ≡ old) × Allows (prices_at new penalty)
    pub falls : fell ≡ true → sum new < sum old

module _ (g : Ground) (s : State) (prices : List ℕ) where
  pub record IsAbovePotentials : Type 0 where
    pub same_length : length prices ≡ length g.atoms
    pub within_quit : AreWithin g.penalty prices
    pub at_true : (q : ℕ) → q < length g.atoms → has_bit s q ≡ true
        → prices_at prices g.penalty q ≡ 0
    pub above : (r : ℕ → ℕ) → IsPotential g s r → IsBelow r (prices_at prices g.penalty)
