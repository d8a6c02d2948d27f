-- Which guarded parts hold, as a number: the mark of the first in its lowest bit.
--     marks_of bit xs        a mark for each of the parts whose condition holds
--     with_marked marks s xs the adds of the parts that have a mark
use Rattle.std.specs.Prelude.{ℕ, ◌+◌, ◌*◌, ◌/◌, ◌%◌, Bool, cond, nat_eq, List, [], ◌∷◌}
use Rattle.ground_model.specs.declared.action.Guarded.{Guarded}
use Rattle.ground_model.specs.Packed.{State}
use Rattle.ground_model.specs.Truth.{truth}
use Rattle.ground_step.specs.Edits.{with_atoms}

abbrev pub marks_of : (ℕ → Bool) → List Guarded → ℕ
marks_of bit [] = 0
marks_of bit (x ∷ xs) = cond (truth bit x.condition) 1 0 + 2 * marks_of bit xs

abbrev pub with_marked : ℕ → State → List Guarded → State
with_marked marks s [] = s
with_marked marks s (x ∷ xs) =
    with_marked (marks / 2) (cond (nat_eq (marks % 2) 1) (with_atoms s x.adds) s) xs
