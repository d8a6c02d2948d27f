-- The laws of levels and of sweeps over them, as statements. Of levels:
--     StartIsNear              a start is in near 1
--     SuccessorIsNear          a successor of a state of near d is in near d + 1
--     NearIsStartOrSuccessor   a state of near d + 1 is a start, or a successor of a state of near d
--     OutcomeIsSuccessor       what an open action leads to, off goals, is a successor
--     NearGrows                near grows with the number of steps
-- Of sweeps:
--     WiderIsBackedUp          what is backed up from some bounds is so from wider ones, and stays so where it narrows
--     NarrowerHasRounds        bounds that narrow keep the rounds that they have
--     RoundsBegin              whoever has seen nothing has 0 rounds
--     RoundGoesOn              who has r rounds and then backs up each swept state, from what he had seen or narrower, has
--                              one round more
--     StartsHaveRounds         the starts have all rounds, as far as they fit the depth
--     MeansHaveRounds          and so has the interval of their means
use Rattle.std.specs.Prelude.{◌⊎◌, ℕ, suc, ◌<◌, ◌≤◌, Option, List, map, Contains}
use Rattle.decision_process.specs.Process.{Process, Start, at_starts, EachOutcome}
use Rattle.decision_process.specs.Backup.{floor, ceiling}
use Rattle.decision_process.specs.Rounded.{down, up, plain_low, plain_high}
use Rattle.decision_process.specs.Levels.{near, successors}
use Rattle.decision_process.specs.sweeps.Sweeps.{IsFirst, IsBackedUp, IsWithin, rounds_at, HasRounds, AreSwept}

abbrev pub states_of : {S : Type 0} → List (Start S) → List S
states_of {S} starts = map (λ (start : Start S). start.state) starts

module _ {S A : Type 0} (p : Process S A) where
  abbrev pub OutcomeIsSuccessor : Type 0
  OutcomeIsSuccessor = (s : S) → EachOutcome p s (λ o. Contains (successors p s) o.next)

  abbrev pub WiderIsBackedUp : Type 0
  WiderIsBackedUp = (low high low' high' wide_low wide_high narrow_low narrow_high : S → ℕ)
      → ((s : S) → wide_low s ≤ low s) → ((s : S) → high s ≤ wide_high s)
      → ((s : S) → low' s ≤ narrow_low s) → ((s : S) → narrow_high s ≤ high' s)
      → (s : S) → IsBackedUp p low high low' high' s
      → IsBackedUp p wide_low wide_high narrow_low narrow_high s

  module _ (starts : List (Start S)) where
    abbrev pub StartIsNear : Type 0
    StartIsNear = (s : S) → Contains (states_of starts) s → Contains (near p starts 1) s

    abbrev pub SuccessorIsNear : Type 0
    SuccessorIsNear = (d : ℕ) (s t : S) → Contains (near p starts d) s
        → Contains (successors p s) t → Contains (near p starts (suc d)) t

    abbrev pub NearIsStartOrSuccessor : Type 0
    NearIsStartOrSuccessor = (d : ℕ) (t : S) → Contains (near p starts (suc d)) t
        → Contains (states_of starts) t
        ⊎ ((s : S) × Contains (near p starts d) s × Contains (successors p s) t)

    abbrev pub NearGrows : Type 0
    NearGrows = (d e : ℕ) → d ≤ e → (s : S) → Contains (near p starts d) s
        → Contains (near p starts e) s

    abbrev pub NarrowerHasRounds : Type 0
    NarrowerHasRounds = (depth : Option ℕ) (r : ℕ) (low high low' high' : S → ℕ)
        → HasRounds p starts depth r low high
        → ((s : S) → low s ≤ low' s) → ((s : S) → high' s ≤ high s)
        → HasRounds p starts depth r low' high'

    abbrev pub RoundsBegin : Type 0
    RoundsBegin = (depth : Option ℕ) (low high : S → ℕ) → IsFirst p high
        → HasRounds p starts depth 0 low high

    abbrev pub RoundGoesOn : Type 0
    RoundGoesOn = (depth : Option ℕ) (swept : List S) → AreSwept p starts depth swept
        → (r : ℕ) (low high low' high' : S → ℕ) → IsFirst p high
        → HasRounds p starts depth r low high
        → ((s : S) → Contains swept s → IsBackedUp p low high low' high' s)
        → HasRounds p starts depth (suc r) low' high'

    abbrev pub StartsHaveRounds : Type 0
    StartsHaveRounds = (depth : Option ℕ) (r : ℕ) (low high : S → ℕ) → IsWithin depth 1
        → HasRounds p starts depth r low high
        → (s : S) → Contains (states_of starts) s
        → (down p (rounds_at depth r 1) s ≤ low s) × (high s ≤ up p (rounds_at depth r 1) s)

    abbrev pub MeansHaveRounds : Type 0
    MeansHaveRounds = (depth : Option ℕ) (r den : ℕ) (low high : S → ℕ) → IsWithin depth 1
        → 0 < den → HasRounds p starts depth r low high
        → (plain_low p starts den (rounds_at depth r 1) ≤ floor (at_starts low starts) den)
        × (ceiling (at_starts high starts) den ≤ plain_high p starts den (rounds_at depth r 1))
