-- What is known of a condition where only some atoms are known.
--     kleene known c         the value of c, where known says which atoms are known, and how; None is what is left open
--     Admits x b             b is what x says, if x says anything
--     AdmitsEach known bit   each atom's truth is what is known of it
-- Source: Kleene's strong three-valued logic (Kleene 1952).
use Rattle.std.specs.Prelude.{◌≡◌, ℕ, Bool, true, false, List, [], ◌∷◌, Option, Some, None}
use Rattle.ppddl_model.specs.Known.{known_not, known_all, known_any}
use Rattle.ground_model.specs.declared.condition.GroundCondition.{GroundCondition, Row_of-GroundCondition, end_of-GroundCondition, more_of-GroundCondition}
use Rattle.ground_model.specs.declared.condition.GroundCondition.TheVariants.{True, False, Atom, Not', All', Any'}

module _ (known : ℕ → Option Bool) where
  abbrev mutual
    pub kleene : GroundCondition → Option Bool
    kleene True = Some true
    kleene False = Some false
    kleene (Atom q) = known q
    kleene (Not' u (more_of-GroundCondition c end_of-GroundCondition)) = known_not (kleene c)
    kleene (All' shape cs) = known_all (kleene_each cs)
    kleene (Any' shape cs) = known_any (kleene_each cs)

    pub kleene_each : {n : _} → Row_of-GroundCondition n → List (Option Bool)
    kleene_each end_of-GroundCondition = []
    kleene_each (more_of-GroundCondition c cs) = kleene c ∷ kleene_each cs

abbrev pub Admits : Option Bool → Bool → Type 0
Admits None b = Unit {0}
Admits (Some a) b = b ≡ a

abbrev pub AdmitsEach : (ℕ → Option Bool) → (ℕ → Bool) → Type 0
AdmitsEach known bit = (q : ℕ) → Admits (known q) (bit q)
