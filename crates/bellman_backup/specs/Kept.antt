-- What is kept of states, by the ids that a view knows: the meaning of kept transitions where IsIdOf v says which id each state has.
--     LeadsTo v s own ids place c
--                                the id that is kept of c is that of the state to which c leads from s, the state of the own id
--     IsKeptAction v s own ids a k
--                                k has the cost of a in s, and so the ids of the states to which the choices of a lead
--     IsKeptAt v s own g ids code k
--                                k is so the action of this code
--     AreKept v s own g t row    the row has open actions of s that are enough, in the order of their codes
--     IsKeptState g v id t row   so it has those of the state of the id, which is no goal
--     KeepsStates g v t          so it is with each id of which actions are kept
--     IsKeeping g witness t      so it is by what the witness has noted, and without a witness nothing is kept
use Rattle.std.specs.Prelude.{◌≡◌, ℕ, Option, Some, List}
use Rattle.ground_model.specs.declared.action.Choice.{Choice}
use Rattle.ground_model.specs.declared.action.GroundAction.{GroundAction}
use Rattle.ground_model.specs.Packed.{State}
use Rattle.ground_model.specs.Ground.{Ground}
use Rattle.word_table.specs.declared.view.View.{View}
use Rattle.word_table.specs.Seen.{Knowledge}
use Rattle.state_interner.specs.Interned.{IsIdOf}
use Rattle.kept_transitions.specs.declared.kept_action.KeptAction.{KeptAction}
use Rattle.kept_transitions.specs.declared.kept_row.KeptRow.{KeptRow}
use Rattle.kept_transitions.specs.Rows.{Transitions, IsKept, row_of}
use Rattle.kept_transitions.specs.Meaning as meaning

abbrev pub LeadsTo : View → State → ℕ → List ℕ → ℕ → Choice → Type 0
LeadsTo v = meaning.LeadsTo (IsIdOf v)

abbrev pub IsKeptAction : View → State → ℕ → List ℕ → GroundAction → KeptAction → Type 0
IsKeptAction v = meaning.IsKeptAction (IsIdOf v)

abbrev pub IsKeptAt : View → State → ℕ → Ground → List ℕ → ℕ → KeptAction → Type 0
IsKeptAt v = meaning.IsKeptAt (IsIdOf v)

abbrev pub AreKept : View → State → ℕ → Ground → Transitions → KeptRow → Type 0
AreKept v = meaning.AreKept (IsIdOf v)

abbrev pub IsKeptState : Ground → View → ℕ → Transitions → KeptRow → Type 0
IsKeptState g v = meaning.IsKeptState (IsIdOf v) g

abbrev pub KeepsStates : Ground → View → Transitions → Type 0
KeepsStates g v = meaning.AreKeptStates (IsIdOf v) g

abbrev pub IsKeeping : Ground → Option Knowledge → Transitions → Type 0
IsKeeping g witness t = (id : ℕ) → IsKept (row_of t id) → (k : Knowledge) × (witness ≡ Some k)
    × IsKeptState g k.view id t (row_of t id)
