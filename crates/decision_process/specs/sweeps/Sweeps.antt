-- What sweeps over the states near the starts leave in someone's sight: a lower and an upper bound for each state. Others may
-- narrow the same bounds at the same time, so sight only becomes narrower.
--     IsFirst p high             no upper bound is above that of a state of which nothing is known
--     IsBackedUp p low high low' high' s
--                                the bounds low' and high' of s are at least as narrow as its backup from low and high
--     IsWithin depth j           j is at most the depth; without a depth nothing is asked
--     rounds_at depth r j        how many of r rounds have reached the states of near j: a bound near the rim of the swept states
--                                rests on bounds beyond them, which no sweep narrows
--     HasRounds p starts depth r low high
--                                the bounds of each state near the starts are at least as narrow as those of so many rounds of
--                                plain rounded iteration
--     IsNear p starts depth s    s is in near depth; without a depth it is reachable
--     AreSwept p starts depth l  the list has these states, and no others
use Rattle.std.specs.Prelude.{◌↔◌, ℕ, ◌+◌, ◌-◌, ◌≤◌, min, ⊤, List, Contains, Option, Some, None}
use Rattle.decision_process.specs.Process.{Process, Start}
use Rattle.decision_process.specs.Backup.{lower_backup, upper_backup}
use Rattle.decision_process.specs.Rounded.{down, up}
use Rattle.decision_process.specs.Levels.{near, IsReachable}

abbrev pub IsWithin : Option ℕ → ℕ → Type 0
IsWithin None j = ⊤
IsWithin (Some d) j = j ≤ d

abbrev pub rounds_at : Option ℕ → ℕ → ℕ → ℕ
rounds_at None r j = r
rounds_at (Some d) r j = min r (d + 1 - j)

module _ {S A : Type 0} (p : Process S A) where
  abbrev pub IsFirst : (S → ℕ) → Type 0
  IsFirst high = (s : S) → high s ≤ up p 0 s

  pub record IsBackedUp (low high low' high' : S → ℕ) (s : S) : Type 0 where
    pub lower : lower_backup p low s ≤ low' s
    pub upper : high' s ≤ upper_backup p high s

  module _ (starts : List (Start S)) (depth : Option ℕ) where
    pub record HasRounds (r : ℕ) (low high : S → ℕ) : Type 0 where
      pub lower : (j : ℕ) → IsWithin depth j → (s : S) → Contains (near p starts j) s
          → down p (rounds_at depth r j) s ≤ low s
      pub upper : (j : ℕ) → IsWithin depth j → (s : S) → Contains (near p starts j) s
          → high s ≤ up p (rounds_at depth r j) s

  module _ (starts : List (Start S)) where
    abbrev pub IsNear : Option ℕ → S → Type 0
    IsNear None s = IsReachable p starts s
    IsNear (Some d) s = Contains (near p starts d) s

    abbrev pub AreSwept : Option ℕ → List S → Type 0
    AreSwept depth l = (s : S) → Contains l s ↔ IsNear depth s
