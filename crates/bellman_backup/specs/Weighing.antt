-- What is known of an id once its state's open actions were read, and its own numbers are not yet narrowed.
--     HasWeighed b k l id last lower word
--                                off goals: open actions of the id's state that are enough were read between k and l; lower and word
--                                are the least over them and giving up, and last is the answer
--     RestsAt b k l id last      at a goal nothing was read
--     WeighTells b k l id last best
--                                the one or the other
--     CanSettle b l id lower word
--                                so it is since some earlier time of the pass, at which it knew the id
--     IsNarrowed l id lower word m
--                                m has looked at the count since l, and noted these numbers of the id
use Rattle.std.specs.Prelude.{◌≡◌, ℕ, true, false, Option, Some, None, List, ◌++◌, All}
use Rattle.ground_model.specs.Packed.{State}
use Rattle.ground_model.specs.Invariant.{IsGroundProblem}
use Rattle.ground_model.specs.Steps.{ground_process}
use Rattle.applicable_actions.specs.distinct.Enough.{AreEnough}
use Rattle.word_table.specs.view.Steps.{with_count, with_lower, with_upper}
use Rattle.word_table.specs.view.Views.{knows}
use Rattle.word_table.specs.Seen.{Board, Knowledge, knowledge, IsOf}
use Rattle.brtdp_trial.specs.declared.step.TheConstants.{AT_GOAL}
use Rattle.brtdp_trial.specs.Meaning.{Last}
use Rattle.brtdp_trial.specs.Listed.{no_action}
use Rattle.bellman_backup.specs.declared.best.Best.{Best}
use Rattle.bellman_backup.specs.Readings.{loads_in}
use Rattle.bellman_backup.specs.Candidates.{Found, codes_of, readings_of, IsAnswer, least_low, least_word}
use Rattle.bellman_backup.specs.Backups.{Keeps, IsStateOf}
use Rattle.bellman_backup.specs.Choosing.{IsReadAction}

module _ (b : Board) (k l : Knowledge) (id : ℕ) where
  pub record HasWeighed (last : Last) (lower word : ℕ) : Type 0 where
    pub problem : IsGroundProblem b.problem
    pub state : State
    pub is : IsStateOf k.view l.view id state
    pub off_goal : (ground_process b.problem).goal state ≡ false
    pub found : List Found
    pub codes : AreEnough b.problem state (codes_of found)
    pub each : All (IsReadAction b.problem k.view l.view state) found
    pub loads : l.view.loads ≡ loads_in (readings_of found) ++ k.view.loads
    pub lower_is : lower ≡ least_low b.problem.penalty state found
    pub word_is : word ≡ least_word b.problem.penalty state found
    pub answer : IsAnswer b.problem.penalty state found last

  pub record RestsAt (last : Last) : Type 0 where
    pub state : State
    pub is : IsStateOf k.view l.view id state
    pub on_goal : (ground_process b.problem).goal state ≡ true
    pub loads : l.view.loads ≡ k.view.loads
    pub last_is : last ≡ no_action AT_GOAL

  abbrev pub WeighTells : Last → Option Best → Type 0
  WeighTells last None = RestsAt last
  WeighTells last (Some best) = HasWeighed last best.lower best.word

pub record CanSettle (b : Board) (l : Knowledge) (id lower word : ℕ) : Type 0 where
  pub before : Knowledge
  pub here : IsOf b before
  pub known : knows before.view id
  pub keeps : Keeps b before l
  pub last : Last
  pub weighed : HasWeighed b before l id last lower word

abbrev pub IsNarrowed : Knowledge → ℕ → ℕ → ℕ → Knowledge → Type 0
IsNarrowed l id lower word m = (n : ℕ)
    × (m ≡ knowledge l.table (with_upper (with_lower (with_count l.view n) id lower) id word))
