-- What is chosen among the open actions of a state.
--     IsOpenState g v s          s is no goal, and the state of an id that v knows
--     IsReadAction g v w s f     what was read of an open action
--     HasChosen g v w s codes chosen b
--                                the actions of these codes were read, and b is their best: its numbers are the least, and it
--                                names the first of the least lower mean, whose choices as they were read are the chosen ones
use Rattle.std.specs.Prelude.{◌≡◌, ℕ, false, IsTrue, Some, List, ◌++◌, All}
use Rattle.std.specs.List.{slice_get, AllZip}
use Rattle.ground_model.specs.Packed.{State}
use Rattle.ground_model.specs.Choices.{next_state}
use Rattle.ground_model.specs.Ground.{Ground}
use Rattle.ground_model.specs.Steps.{ground_process}
use Rattle.word_table.specs.declared.view.View.{View}
use Rattle.word_table.specs.view.Views.{knows, has_state}
use Rattle.brtdp_trial.specs.declared.step.Step.{Step}
use Rattle.brtdp_trial.specs.Listed.{last_in}
use Rattle.bellman_backup.specs.declared.best.Best.{Best}
use Rattle.bellman_backup.specs.Readings.{IsRead, loads_in}
use Rattle.bellman_backup.specs.Candidates.{Found, codes_of, readings_of, IsAnswer, least_low, least_word}

pub record IsOpenState (g : Ground) (v : View) (s : State) : Type 0 where
  pub id : ℕ
  pub known : knows v id
  pub has : IsTrue (has_state v id s)
  pub off_goal : (ground_process g).goal s ≡ false

pub record IsReadAction (g : Ground) (v w : View) (s : State) (f : Found) : Type 0 where
  pub here : slice_get g.actions f.code ≡ Some f.action
  pub readings : AllZip (λ c r. IsRead g v w (next_state s c) r) f.action.choices f.readings

pub record HasChosen (g : Ground) (v w : View) (s : State) (codes : List ℕ) (chosen : List Step) (b : Best) :
    Type 0 where
  pub found : List Found
  pub codes_are : codes_of found ≡ codes
  pub each : All (IsReadAction g v w s) found
  pub loads : w.loads ≡ loads_in (readings_of found) ++ v.loads
  pub lower : b.lower ≡ least_low g.penalty s found
  pub word : b.word ≡ least_word g.penalty s found
  pub answer : IsAnswer g.penalty s found (last_in b.code b.den chosen)
