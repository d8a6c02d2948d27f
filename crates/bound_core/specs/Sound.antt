-- What is true of every core that allowed events lead to, whatever their order.
--     spare_of g c k             the spare of worker k
--     IdsAreHeld g c             each id given out is either published and nobody's spare, or not published and the spare of
--                                exactly one worker; each spare is an id given out
--     StatesAreReached g c       published states are distinct and reachable, and known ids are published
--     LowerIsSound g c           each lower number follows from those of the next states, and is at most the least cost of some
--                                number of steps
--     UpperIsSound g c           each upper word is at most its first word, and follows from those of the next states
--     IsSeenBy c w, SightsAreSound g c
--                                no worker has seen a lower number above the present one, nor an upper word below it
--     Sound g c                  all of this
--     IsNarrower v w             w has seen no wider numbers than v
use Rattle.std.specs.Prelude.{◌≡◌, ◌⊎◌, ℕ, ◌<◌, ◌≤◌, true, Option, Some, None}
use Rattle.decision_process.specs.Following.{IsLowerFrom}
use Rattle.decision_process.specs.Least.{CoversFromBelow}
use Rattle.decision_process.specs.Levels.{IsReachable}
use Rattle.ground_model.specs.Packed.{State}
use Rattle.ground_model.specs.Ground.{Ground}
use Rattle.ground_model.specs.Steps.{ground_process, ground_starts}
use Rattle.bound_core.specs.Numbers.{first_word, IsSupported}
use Rattle.bound_core.specs.Core.{Sight, Core, sight_at, IsPublished}

abbrev pub spare_of : Ground → Core → ℕ → Option ℕ
spare_of g c k = (sight_at g c k).spare

pub record IdsAreHeld (g : Ground) (c : Core) : Type 0 where
  pub each : (id : ℕ) → id < c.given → IsPublished c id ⊎ ((k : ℕ) × (spare_of g c k ≡ Some id))
  pub published : (id : ℕ) → IsPublished c id → id < c.given
  pub spare_given : (k id : ℕ) → spare_of g c k ≡ Some id → id < c.given
  pub spare_unpublished : (k id : ℕ) → spare_of g c k ≡ Some id → c.state_of id ≡ None
  pub spares_differ : (k l id : ℕ) → spare_of g c k ≡ Some id → spare_of g c l ≡ Some id → k ≡ l

pub record StatesAreReached (g : Ground) (c : Core) : Type 0 where
  pub distinct : (i j : ℕ) (s : State) → c.state_of i ≡ Some s → c.state_of j ≡ Some s → i ≡ j
  pub reachable : (id : ℕ) (s : State) → c.state_of id ≡ Some s
      → IsReachable (ground_process g) (ground_starts g) s
  pub known : (k id : ℕ) → (sight_at g c k).knows id ≡ true → IsPublished c id

pub record LowerIsSound (g : Ground) (lower : State → ℕ) : Type 0 where
  pub follows : (s : State) → IsLowerFrom (ground_process g) lower s (lower s)
  pub covers : (s : State) → CoversFromBelow (ground_process g) (lower s) s

pub record UpperIsSound (g : Ground) (upper : State → ℕ) : Type 0 where
  pub within_first : (s : State) → upper s ≤ first_word g s
  pub follows : (s : State) → IsSupported g upper s (upper s)

pub record IsSeenBy (c : Core) (w : Sight) : Type 0 where
  pub lower : (s : State) → w.lower s ≤ c.lower s
  pub upper : (s : State) → c.upper s ≤ w.upper s

abbrev pub SightsAreSound : Ground → Core → Type 0
SightsAreSound g c = (k : ℕ) → IsSeenBy c (sight_at g c k)

pub record Sound (g : Ground) (c : Core) : Type 0 where
  pub ids : IdsAreHeld g c
  pub states : StatesAreReached g c
  pub lower : LowerIsSound g c.lower
  pub upper : UpperIsSound g c.upper
  pub seen : SightsAreSound g c

pub record IsNarrower (v w : Sight) : Type 0 where
  pub lower : (s : State) → v.lower s ≤ w.lower s
  pub upper : (s : State) → w.upper s ≤ v.upper s
