-- The least over the open actions of a state, where no choice is written down.
--     HasSummed g v w own ids a k sums
--                                the choices of an action were read by what is kept of it, those that are idle by the own id, and these
--                                are the sums over them
--     HasLeast g v w own t row first l
--                                the open actions were read so: l has the least lower mean over them and giving up, and the least word
--                                over them, giving up and the first one
--     CanNarrow b l id lower upper least
--                                so it is of the id's state since some earlier time of the pass, and the id's numbers were noted: the
--                                upper word is the first one
use Rattle.std.specs.Prelude.{◌≡◌, ℕ, ◌<◌, ◌≤◌, ◌/◌, min, List}
use Rattle.ground_model.specs.declared.action.GroundAction.{GroundAction}
use Rattle.ground_model.specs.Packed.{State}
use Rattle.ground_model.specs.Ground.{Ground}
use Rattle.word_table.specs.declared.view.View.{View}
use Rattle.word_table.specs.view.Views.{noted_lower, noted_upper}
use Rattle.word_table.specs.Seen.{Board, Knowledge}
use Rattle.brtdp_trial.specs.declared.step.Step.{Step}
use Rattle.kept_transitions.specs.declared.kept_action.KeptAction.{KeptAction}
use Rattle.kept_transitions.specs.declared.kept_row.KeptRow.{KeptRow}
use Rattle.kept_transitions.specs.Rows.{Transitions}
use Rattle.bellman_backup.specs.declared.sums.Sums.{Sums}
use Rattle.bellman_backup.specs.declared.best.Best.{Best}
use Rattle.bellman_backup.specs.declared.least.Least.{Least}
use Rattle.bellman_backup.specs.Kept.{IsKeptAction, AreKept}
use Rattle.bellman_backup.specs.Totals.{HasReadAction}
use Rattle.bellman_backup.specs.Choosing.{HasChosen}
use Rattle.bellman_backup.specs.Weighing.{CanSettle}

module _ (g : Ground) (v w : View) (own : ℕ) where
  -- the choices as they were read are those of some list
  pub record HasSummed (ids : List ℕ) (a : GroundAction) (kept : KeptAction) (sums : Sums) : Type 0 where
    pub steps : List Step
    pub is : (s : State) → IsKeptAction v s own ids a kept → HasReadAction g v w s a steps sums

  -- the best is that of a choice among the same readings
  pub record HasLeast (t : Transitions) (row : KeptRow) (first : ℕ) (l : Least) : Type 0 where
    pub den : 0 < l.mean.den
    pub chosen : List Step
    pub best : Best
    pub is : (s : State) (are : AreKept v s own g t row) → HasChosen g v w s are.codes chosen best
    pub lower : l.mean.sum / l.mean.den ≡ best.lower
    pub word : l.word ≡ min first best.word

pub record CanNarrow (b : Board) (l : Knowledge) (id lower upper : ℕ) (least : Least) : Type 0 where
  pub den : 0 < least.mean.den
  pub word : ℕ
  pub settle : CanSettle b l id (least.mean.sum / least.mean.den) word
  pub word_is : least.word ≡ min upper word
  pub lower_noted : lower ≤ noted_lower l.view id
  pub upper_noted : noted_upper l.view id ≤ upper
