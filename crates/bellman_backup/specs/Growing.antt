-- What is put behind the kept transitions, whichever id of the state s itself the view u had before.
--     HasKeptId v t old new      the id of the state t
--     HasKeptChoice u v s c old new
--                                nothing of a choice that is idle, and else the id of the state to which it leads from s
--     HasKeptAction u v s g code old new
--                                the open action of this code in s
--     HaveKeptActions u v s g codes old new
--                                the open actions of these codes, in their order
use Rattle.std.specs.Prelude.{◌≡◌, ℕ, ◌+◌, ◌<◌, Some, List, [], ◌∷◌, ◌++◌, length, get_or}
use Rattle.std.specs.List.{slice_get}
use Rattle.ground_model.specs.declared.action.Choice.{Choice}
use Rattle.ground_model.specs.Packed.{State}
use Rattle.ground_model.specs.Ground.{Ground}
use Rattle.word_table.specs.declared.view.View.{View}
use Rattle.state_interner.specs.Interned.{IsIdOf}
use Rattle.kept_transitions.specs.declared.kept_action.KeptAction.{KeptAction}
use Rattle.kept_transitions.specs.Idle.{moving}
use Rattle.kept_transitions.specs.Rows.{Transitions}
use Rattle.bellman_backup.specs.Kept.{LeadsTo, IsKeptAt}

pub record HasKeptId (v : View) (t : State) (old new : Transitions) : Type 0 where
  pub id : ℕ
  pub ids : new.ids ≡ old.ids ++ id ∷ []
  pub actions : new.actions ≡ old.actions
  pub is : IsIdOf v t id

module _ (u v : View) (s : State) where
  pub record HasKeptChoice (c : Choice) (old new : Transitions) : Type 0 where
    pub count : length new.ids ≡ length old.ids + moving (c ∷ [])
    pub actions : new.actions ≡ old.actions
    pub leads : (own : ℕ) → IsIdOf u s own → LeadsTo v s own new.ids (length old.ids) c

  module _ (g : Ground) where
    pub record HasKeptAction (code : ℕ) (old new : Transitions) : Type 0 where
      pub action : KeptAction
      pub actions : new.actions ≡ old.actions ++ action ∷ []
      pub is : (own : ℕ) → IsIdOf u s own → IsKeptAt v s own g new.ids code action

    pub record HaveKeptActions (codes : List ℕ) (old new : Transitions) : Type 0 where
      pub count : length new.actions ≡ length old.actions + length codes
      pub each : (own : ℕ) → IsIdOf u s own → (i : ℕ) → i < length codes → (k : KeptAction)
          × (slice_get new.actions (length old.actions + i) ≡ Some k)
          × IsKeptAt v s own g new.ids (get_or codes i 0) k
