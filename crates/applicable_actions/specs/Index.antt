-- The index of open actions.
--     opens cs e s               in s the test of the entry e is passed, and where it is not the whole precondition,
--                                that one of the preconditions cs holds which stands at the entry's place
--     HasPlace cs e              there is one at its place
--     codes_of, open_codes       the codes of entries, and of those of them which open their actions in a state
--     IsEntry index cs e         e opens its action wherever it is open, and nowhere where it is left out
--     Leads g a k                the atom a is true wherever action k is open
--     IsFound g runs k           action k stands among those that no atom leads to, or in the run of an
--                                atom that leads to it
--     AreRuns index cs runs count
--                                the runs have entries alone, and each of so many actions is found that is not left out
--     IsIndex index cs runs      so it is of all actions
use Rattle.std.specs.Prelude.{◌≡◌, ◌⊎◌, ℕ, ◌<◌, Bool, ◌&&◌, ◌||◌, List, map, filter, length, slice_index_or, IsTrue}
use Rattle.std.specs.List.{All}
use Rattle.ground_model.specs.declared.condition.GroundCondition.{GroundCondition}
use Rattle.ground_model.specs.declared.condition.GroundCondition.TheVariants as condition
use Rattle.ground_model.specs.Packed.{State, has_bit}
use Rattle.ground_model.specs.Truth.{truth}
use Rattle.ground_model.specs.Choices.{is_member}
use Rattle.ground_model.specs.Ground.{Ground}
use Rattle.ground_model.specs.Steps.{is_open}
use Rattle.applicable_actions.specs.declared.entry.Entry.{Entry}
use Rattle.applicable_actions.specs.LeftOut.{Indexed, is_kept, is_kept_open}
use Rattle.applicable_actions.specs.Masks.{passes}
use Rattle.applicable_actions.specs.Runs.{Runs, run_at}

abbrev pub condition_at : List GroundCondition → ℕ → GroundCondition
condition_at conditions place = slice_index_or conditions place condition.True

abbrev pub opens : List GroundCondition → Entry → State → Bool
opens conditions e s = passes e.test s && (e.is_whole || truth (has_bit s) (condition_at conditions e.place))

abbrev pub HasPlace : List GroundCondition → Entry → Type 0
HasPlace conditions e = e.place < length conditions

abbrev pub codes_of : List Entry → List ℕ
codes_of = map (λ (e : Entry). e.code)

abbrev pub open_codes : List GroundCondition → State → List Entry → List ℕ
open_codes conditions s run = codes_of (filter (λ e. opens conditions e s) run)

abbrev pub Leads : Ground → ℕ → ℕ → Type 0
Leads g a k = (s : State) → IsTrue (is_open g k s) → IsTrue (has_bit s a)

abbrev pub IsFound : Ground → Runs → ℕ → Type 0
IsFound g runs k =
    IsTrue (is_member (codes_of runs.always) k)
    ⊎ ((a : ℕ) × IsTrue (is_member (codes_of (run_at runs a)) k) × Leads g a k)

pub record IsEntry (index : Indexed) (conditions : List GroundCondition) (e : Entry) : Type 0 where
  pub has_place : HasPlace conditions e
  pub says : (s : State) → opens conditions e s ≡ is_kept_open index e.code s

pub record AreRuns (index : Indexed) (conditions : List GroundCondition) (runs : Runs) (count : ℕ) : Type 0 where
  pub always_are : All (IsEntry index conditions) runs.always
  pub runs_are : (a : ℕ) → All (IsEntry index conditions) (run_at runs a)
  pub found : (k : ℕ) → k < count → IsTrue (is_kept index.left_out k) → IsFound index.problem runs k

abbrev pub IsIndex : Indexed → List GroundCondition → Runs → Type 0
IsIndex index conditions runs = AreRuns index conditions runs (length index.problem.actions)
