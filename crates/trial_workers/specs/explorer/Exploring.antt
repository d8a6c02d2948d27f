-- States that are gone through, level by level.
--     Exploring p starts most next level depth l
--                                the distinct states of l, at most `most`, the starts first, are near the starts; the first `level` of
--                                them are those of near depth, and all that follow the first `next` are listed
--     IsUnderWay g most levels   so it is with the process of a ground problem
--     HasStopped g most levels   the levels before the front are all that fit, as `AreLevels` says
use Rattle.std.specs.Prelude.{◌≡◌, ◌≢◌, ℕ, suc, ◌+◌, ◌<◌, ◌≤◌, ◌↔◌, Some, List, ◌++◌, length, take, AllPairs, Contains}
use Rattle.decision_process.specs.Process.{Process, Start}
use Rattle.decision_process.specs.Levels.{near, successors}
use Rattle.decision_process.specs.sweeps.Laws.{states_of}
use Rattle.ground_model.specs.Ground.{Ground}
use Rattle.ground_model.specs.Invariant.{IsGroundProblem}
use Rattle.ground_model.specs.Steps.{ground_process, ground_starts}
use Rattle.trial_workers.specs.declared.explorer.levels.Levels.{Levels}
use Rattle.trial_workers.specs.explorer.Explored.{AreLevels}

module _ {S A : Type 0} (p : Process S A) (starts : List (Start S)) (most : ℕ) where
  pub record Exploring (next level depth : ℕ) (l : List S) : Type 0 where
    pub differ : AllPairs (λ (s t : S). s ≢ t) l
    pub first : (more : List S) × (l ≡ states_of starts ++ more)
    pub next_within : next ≤ level
    pub level_within : level ≤ length l
    pub few : length l ≤ most
    pub positive : 0 < depth
    pub done : (s : S) → Contains (take level l) s ↔ Contains (near p starts depth) s
    pub within : (s : S) → Contains l s → Contains (near p starts (suc depth)) s
    pub expanded : (s : S) → Contains (take next l) s → (t : S)
        → Contains (successors p s) t → Contains l t

module _ (g : Ground) (most : ℕ) (levels : Levels) where
  pub record IsUnderWay : Type 0 where
    pub valid : IsGroundProblem g
    pub explores : Exploring (ground_process g) (ground_starts g) most
        levels.next levels.front.level levels.front.depth levels.listing
    pub shallow : levels.front.depth ≤ levels.front.level + 1

  abbrev pub HasStopped : Type 0
  HasStopped =
      AreLevels (ground_process g) (ground_starts g) most
      levels.listing levels.front.level (Some levels.front.depth)
