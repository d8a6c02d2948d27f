-- What a watcher is told of the rounds.
--     means_of s                 the means of an answer
--     IsEnd e s                  rounds end with this answer: its means are near, or all rounds are made
--     MayTell tells e r a b      the watcher a was told of this reading and is then b, or it was not told of it and no rounds end there
--     HasBeenTold tells rs a b   the watcher a was told of these readings, one after the other, and is then b
--     IsBefore r t               r is of an earlier round than t, and its interval encloses that of t
--     IsToldOf g ids depth s r   r is of one of the rounds of the answer s, its interval encloses that of s and is no wider than that of
--                                as many rounds of plain iteration, and no more ids were given out than there are
--     AreTold g ids depth s rs   so are all of these, each is before the next, and with rounds above 0 one is of the last round
--     WasToldOf tells b x s old new
--                                over these words, the watcher was told of such readings of the rounds that the answer s ended
use Rattle.std.specs.Prelude.{◌≡◌, ℕ, ◌⊎◌, ◌+◌, ◌<◌, ◌≤◌, Option, List, [], ◌∷◌, All, AllPairs, Contains}
use Rattle.ground_model.specs.Ground.{Ground}
use Rattle.word_table.specs.Seen.{Board}
use Rattle.bellman_backup.specs.declared.means.Means.{Means}
use Rattle.trial_workers.specs.declared.effort.Effort.{Effort}
use Rattle.trial_workers.specs.declared.effort.Solved.{Solved}
use Rattle.trial_workers.specs.declared.extent.Extent.{Extent}
use Rattle.trial_workers.specs.declared.reading.Reading.{Reading}
use Rattle.trial_workers.specs.Effort.{IsWithinPlain}

abbrev pub means_of : Solved → Means
means_of s = record { lower = s.lower; upper = s.upper }

abbrev pub IsEnd : Effort → Solved → Type 0
IsEnd e s = (e.rounds ≤ s.rounds) ⊎ (s.upper ≤ s.lower + e.gap)

abbrev pub MayTell : {W : Type 0} → (W → Reading → W → Type 0) → Effort → Reading → W → W → Type 0
MayTell tells e r a b = tells a r b ⊎ ((b ≡ a) × (IsEnd e r.solved → ⊥))

abbrev pub HasBeenTold : {W : Type 0} → (W → Reading → W → Type 0) → List Reading → W → W → Type 0
HasBeenTold tells [] a b = b ≡ a
HasBeenTold tells (r ∷ rs) a b = (mid : _) × tells a r mid × HasBeenTold tells rs mid b

-- the interval of s encloses that of t
pub record Encloses (s t : Solved) : Type 0 where
  pub lower : s.lower ≤ t.lower
  pub upper : t.upper ≤ s.upper

pub record IsBefore (r t : Reading) : Type 0 where
  pub rounds : r.solved.rounds < t.solved.rounds
  pub encloses : Encloses r.solved t.solved

pub record IsToldOf (g : Ground) (ids : ℕ) (depth : Option ℕ) (s : Solved) (r : Reading) : Type 0 where
  pub some : 0 < r.solved.rounds
  pub made : r.solved.rounds ≤ s.rounds
  pub encloses : Encloses r.solved s
  pub plain : IsWithinPlain g depth r.solved
  pub few : r.states ≤ ids

abbrev pub OneIsOf : ℕ → List Reading → Type 0
OneIsOf rounds rs = (r : Reading) × Contains rs r × (r.solved.rounds ≡ rounds)

pub record AreTold (g : Ground) (ids : ℕ) (depth : Option ℕ) (s : Solved) (rs : List Reading) : Type 0 where
  pub rising : AllPairs IsBefore rs
  pub each : All (IsToldOf g ids depth s) rs
  pub last : 0 < s.rounds → OneIsOf s.rounds rs

abbrev pub WasToldOf : {W : Type 0} → (W → Reading → W → Type 0) → Board → Extent → Solved → W → W → Type 0
WasToldOf tells b x s old new = (rs : List Reading) × HasBeenTold tells rs old new
    × AreTold b.problem b.layout.ids x.depth s rs
