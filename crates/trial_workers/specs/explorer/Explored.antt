-- What exploring finds.
--     AreLevels p starts most states swept depth
--                                distinct states that can be reached, at most one more than `most`, the starts first in their order;
--                                the first `swept` of them are the states of near d, where d is the greatest depth within
--                                which there are at most `most`; where as many as that can be reached, they are all states
--     IsExplored g most e        the same of the process of a ground problem
--     IsAnswer states swept depth e
--                                e has these parts
use Rattle.std.specs.Prelude.{◌≡◌, ◌≢◌, ℕ, ◌+◌, ◌≤◌, Option, List, ◌++◌, length, take, AllPairs, Contains}
use Rattle.decision_process.specs.Process.{Process, Start}
use Rattle.decision_process.specs.Levels.{IsReachable, IsDepthWithin}
use Rattle.decision_process.specs.sweeps.Sweeps.{IsWithin, AreSwept}
use Rattle.decision_process.specs.sweeps.Laws.{states_of}
use Rattle.ground_model.specs.Packed.{State}
use Rattle.ground_model.specs.Ground.{Ground}
use Rattle.ground_model.specs.Steps.{ground_process, ground_starts}
use Rattle.trial_workers.specs.declared.explorer.explored.Explored.{Explored}

module _ {S A : Type 0} (p : Process S A) (starts : List (Start S)) (most : ℕ) where
  pub record AreLevels (states : List S) (swept : ℕ) (depth : Option ℕ) : Type 0 where
    pub differ : AllPairs (λ (s t : S). s ≢ t) states
    pub reached : (s : S) → Contains states s → IsReachable p starts s
    pub first : (more : List S) × (states ≡ states_of starts ++ more)
    pub few : length states ≤ most + 1
    pub within : swept ≤ length states
    pub fits : IsDepthWithin p starts most depth
    pub deep : IsWithin depth 1
    pub are : AreSwept p starts depth (take swept states)

abbrev pub IsExplored : Ground → ℕ → Explored → Type 0
IsExplored g most e =
    AreLevels (ground_process g) (ground_starts g) most e.states e.swept e.depth

pub record IsAnswer (listed : List State) (count : ℕ) (level : Option ℕ) (e : Explored) : Type 0 where
  pub states : e.states ≡ listed
  pub swept : e.swept ≡ count
  pub depth : e.depth ≡ level
