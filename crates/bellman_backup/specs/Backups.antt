-- What the backup of an id leaves.
--     Keeps b old new            the same pass later: it has noted all that it had noted, and has the same rights
--     IsStateOf v w id s         s is the state of id: w has it, and where v had one, it was s
--     IsFound g v w s f          what was read of an open action of s, between v and w
--     AreFound g v w s found     what was read of all open actions of s, in the order of their codes. The loads that w has made since
--                                v are those of some of them, in the same order, which stand for all
--     IsBackup g v w id s last found
--                                off goals: the answer is that of the readings, and w has noted their backup for id
--     HasBackedUp g v w id last  at a goal nothing is read; elsewhere so it is for what was read of all open actions
--     IsBackedUp g v w s         w has seen of s at least the rounded backup of what v had seen of the next states
--     Narrows g v w id           so it is with each state that v has id with
--     IsPlacedOrFull v w t       w has the state t with an id that it knows, or a look for t has found the table full since v
--     PlacesNext g v w id        so it is with each state that follows one that v has id with
use Rattle.std.specs.Prelude.{◌≡◌, ◌⊎◌, ℕ, ◌<◌, ◌≤◌, true, false, IsTrue, Some, List, ◌++◌, All, AllPairs, Contains}
use Rattle.std.specs.List.{slice_get, AllZip}
use Rattle.fixed_round.specs.Words.{value_of}
use Rattle.decision_process.specs.Backup.{lower_backup, upper_backup}
use Rattle.decision_process.specs.Levels.{successors}
use Rattle.ground_model.specs.Packed.{State}
use Rattle.ground_model.specs.Choices.{next_state}
use Rattle.ground_model.specs.Ground.{Ground}
use Rattle.ground_model.specs.Steps.{ground_process}
use Rattle.word_table.specs.declared.view.View.{View}
use Rattle.word_table.specs.view.Views.{has_state, noted_lower, noted_upper, seen_lower, seen_upper}
use Rattle.word_table.specs.view.Laws.{HasMore}
use Rattle.word_table.specs.Seen.{Board, Knowledge, IsOf}
use Rattle.state_interner.specs.Interned.{AddsLooks, HasOwn}
use Rattle.brtdp_trial.specs.declared.step.TheConstants.{AT_GOAL}
use Rattle.brtdp_trial.specs.Meaning.{Last}
use Rattle.brtdp_trial.specs.Listed.{no_action}
use Rattle.bellman_backup.specs.Readings.{WasFull, IsReading, loads_in}
use Rattle.bellman_backup.specs.Candidates.{Found, HasOneFor, codes_of, readings_of, IsAnswer, least_low, least_word}

pub record Keeps (b : Board) (old new : Knowledge) : Type 0 where
  pub here : IsOf b new
  pub noted : HasMore old.view new.view
  pub rights : new.view.rights ≡ old.view.rights
  pub looks : AddsLooks old.view new.view

pub record IsStateOf (v w : View) (id : ℕ) (s : State) : Type 0 where
  pub has : IsTrue (has_state w id s)
  pub one : (t : State) → IsTrue (has_state v id t) → t ≡ s

abbrev pub IsPlacedOrFull : View → View → State → Type 0
IsPlacedOrFull v w t = ((id : ℕ) × HasOwn w t id) ⊎ WasFull v t w

module _ (g : Ground) (v w : View) where
  pub record IsFound (s : State) (f : Found) : Type 0 where
    pub here : slice_get g.actions f.code ≡ Some f.action
    pub readings : AllZip (λ c r. IsReading g v w (next_state s c) r) f.action.choices f.readings

  pub record AreFound (s : State) (found : List Found) : Type 0 where
    pub codes : codes_of found ≡ (ground_process g).choices s
    pub each : All (IsFound s) found
    pub loaded : List Found
    pub part : All (Contains found) loaded
    pub rising : AllPairs (λ (j k : ℕ). j < k) (codes_of loaded)
    pub all : All (HasOneFor loaded) found
    pub loads : w.loads ≡ loads_in (readings_of loaded) ++ v.loads

  pub record IsBackup (id : ℕ) (s : State) (last : Last) (found : List Found) : Type 0 where
    pub readings : AreFound s found
    pub answer : IsAnswer g.penalty s found last
    pub raised : least_low g.penalty s found ≤ noted_lower w id
    pub sunk : noted_upper w id ≤ least_word g.penalty s found

  abbrev pub RestsAtGoal : Last → Type 0
  RestsAtGoal last = (w.loads ≡ v.loads) × (last ≡ no_action AT_GOAL)

  abbrev pub HasBackedUp : ℕ → Last → Type 0
  HasBackedUp id last = (s : State) × IsStateOf v w id s
      × (((ground_process g).goal s ≡ true → RestsAtGoal last)
      × ((ground_process g).goal s ≡ false → (found : List Found) × IsBackup id s last found))

  pub record IsBackedUp (s : State) : Type 0 where
    pub lower : lower_backup (ground_process g) (seen_lower v) s ≤ seen_lower w s
    pub upper : value_of (seen_upper w s)
        ≤ upper_backup (ground_process g) (λ t. value_of (seen_upper v t)) s

  abbrev pub Narrows : ℕ → Type 0
  Narrows id = (s : State) → IsTrue (has_state v id s) → IsBackedUp s

  abbrev pub PlacesNext : ℕ → Type 0
  PlacesNext id = (s : State) → IsTrue (has_state v id s)
      → (t : State) → Contains (successors (ground_process g) s) t → IsPlacedOrFull v w t
