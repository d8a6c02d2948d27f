-- Words as a table is made.
--     states_in l ws             the states of the ids that are given out
--     HasFree l ws hash          not each bucket of the run is taken
--     IsFree l ws hash bucket    the bucket is the first empty one of the run
--     HasWritten s first n ws ws'
--                                the first n words of s stand from a place on, all others are as they were
--     AreFirst g ids states      states that a table of so many ids may be made with: distinct and reachable
--     IsMade g ids rights states b k
--                                words of the problem with so many ids, and a pass that has the states, each with its place as its id,
--                                and all the rights
use Rattle.std.specs.Prelude.{◌≡◌, ◌≢◌, ℕ, ◌+◌, ◌<◌, ◌≤◌, ◌⊎◌, List, length, map, get_or, AllPairs, Contains}
use Rattle.std.specs.List.{range_with_len}
use Rattle.decision_process.specs.Levels.{IsReachable}
use Rattle.ground_model.specs.Packed.{State}
use Rattle.ground_model.specs.Ground.{Ground}
use Rattle.ground_model.specs.Steps.{ground_process, ground_starts}
use Rattle.word_table.specs.declared.layout.Layout.{Layout}
use Rattle.word_table.specs.layout.Places.{turn}
use Rattle.word_table.specs.view.Steps.{first_view}
use Rattle.word_table.specs.rule.Words.{word, given_in, held_in, state_in}
use Rattle.word_table.specs.rule.Rule.{IsTable}
use Rattle.word_table.specs.Seen.{Board, Knowledge, knowledge}

abbrev pub states_in : Layout → List ℕ → List State
states_in l ws = map (state_in l ws) (range_with_len 0 (given_in ws))

abbrev pub AllTaken : Layout → List ℕ → ℕ → ℕ → Type 0
AllTaken l ws hash turns = (m : ℕ) → m < turns → held_in ws (turn l hash m) ≢ 0

abbrev pub HasFree : Layout → List ℕ → ℕ → Type 0
HasFree l ws hash = AllTaken l ws hash l.buckets → ⊥

pub record IsFree (l : Layout) (ws : List ℕ) (hash place : ℕ) : Type 0 where
  pub bucket : place < l.buckets
  pub empty : held_in ws place ≡ 0
  pub turns : ℕ
  pub here : turn l hash turns ≡ place
  pub taken : AllTaken l ws hash turns

pub record HasWritten (s : State) (first n : ℕ) (ws ws' : List ℕ) : Type 0 where
  pub long : length ws' ≡ length ws
  pub here : (k : ℕ) → k < n → word ws' (first + k) ≡ get_or s k 0
  pub others : (i : ℕ) → (i < first) ⊎ (first + n ≤ i) → word ws' i ≡ word ws i

pub record AreFirst (g : Ground) (ids : ℕ) (states : List State) : Type 0 where
  pub few : length states ≤ ids
  pub differ : AllPairs (λ (s t : State). s ≢ t) states
  pub reached : (s : State) → Contains states s
      → IsReachable (ground_process g) (ground_starts g) s

pub record IsMade (g : Ground) (ids rights : ℕ) (states : List State) (b : Board) (k : Knowledge) :
    Type 0 where
  pub problem : b.problem ≡ g
  pub layout : IsTable g b.layout
  pub count : (b.layout.ids ≡ ids) × (b.most ≡ rights)
  pub pass : k ≡ knowledge b.table (first_view g b.layout rights states)
