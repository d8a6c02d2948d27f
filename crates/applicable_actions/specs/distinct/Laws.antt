-- The laws of actions that are enough, as statements.
--     LowerByEnough, UpperByEnough
--                                the backup of a state that is no goal is the least candidate of actions that are enough, or the penalty
--     SuccessorsByEnough         the states that follow a state that is no goal follow by actions that are enough, and no others do
use Rattle.std.specs.Prelude.{◌≡◌, ℕ, ◌↔◌, false, List, flat_map, Contains}
use Rattle.decision_process.specs.Process.{min_with}
use Rattle.decision_process.specs.Backup.{lower_candidate, upper_candidate, lower_backup, upper_backup}
use Rattle.decision_process.specs.Levels.{nexts, successors}
use Rattle.ground_model.specs.Packed.{State}
use Rattle.ground_model.specs.Ground.{Ground}
use Rattle.ground_model.specs.Steps.{ground_process}
use Rattle.applicable_actions.specs.distinct.Enough.{AreEnough}

abbrev pub LowerByEnough : Type 0
LowerByEnough = (g : Ground) (s : State) (codes : List ℕ) → AreEnough g s codes
    → (ground_process g).goal s ≡ false → (low : State → ℕ)
    → min_with g.penalty (λ k. lower_candidate (ground_process g) low k s) codes
    ≡ lower_backup (ground_process g) low s

abbrev pub UpperByEnough : Type 0
UpperByEnough = (g : Ground) (s : State) (codes : List ℕ) → AreEnough g s codes
    → (ground_process g).goal s ≡ false → (high : State → ℕ)
    → min_with g.penalty (λ k. upper_candidate (ground_process g) high k s) codes
    ≡ upper_backup (ground_process g) high s

abbrev pub SuccessorsByEnough : Type 0
SuccessorsByEnough = (g : Ground) (s : State) (codes : List ℕ) → AreEnough g s codes
    → (ground_process g).goal s ≡ false → (t : State)
    → Contains (flat_map (λ k. nexts (ground_process g) k s) codes) t
    ↔ Contains (successors (ground_process g) s) t
