-- Guarded parts that can act, as a number: the mark of the first in its lowest bit.
--     IsNever c              the condition holds in no state
--     AreActing marks xs     each of the parts has a mark, unless its condition holds in no state
use Rattle.std.specs.Prelude.{◌≡◌, ℕ, ◌/◌, ◌%◌, Bool, false, nat_eq, ⊤, List, [], ◌∷◌}
use Rattle.ground_model.specs.declared.action.Guarded.{Guarded}
use Rattle.ground_model.specs.declared.condition.GroundCondition.{GroundCondition}
use Rattle.ground_model.specs.Truth.{truth}

abbrev pub IsNever : GroundCondition → Type 0
IsNever c = (bit : ℕ → Bool) → truth bit c ≡ false

abbrev pub AreActing : ℕ → List Guarded → Type 0
AreActing marks [] = ⊤
AreActing marks (x ∷ xs) = (nat_eq (marks % 2) 1 ≡ false → IsNever x.condition) × AreActing (marks / 2) xs
