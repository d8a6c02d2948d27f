-- What the readings of the open actions of a state come to, by the Bellman equation with giving up.
--     Found                      what was read of the outcomes of one open action: a reading for each of its choices
--     StandsFor e f              what was read of f is what was read of e: the actions differ at most in their names, and e has no
--                                greater code
--     HasOneFor loaded f         one of these stands for f
--     codes_of, readings_of      the codes of several, and all their readings
--     sum_of s number f          the sum over the choices of weight times cost and number read
--     low s f, high s f          the mean cost, with lower numbers, rounded down; with upper ones, rounded up
--     act_word s f               the upper word that the action supports
--     least_low, least_word      the least over all, with giving up: the backed up lower number and upper word
--     step_with, steps_of        the choices of an action with what was read
--     answer_of f                the answer that names the action
--     IsFirstBest p s found last the answer names the first action of the least lower mean, which is below the penalty
--     IsAnswer p s found last    so it does where there is one, and else it gives up
use Rattle.std.specs.Prelude.{◌≡◌, ◌⊎◌, ℕ, ◌<◌, ◌≤◌, List, [], ◌∷◌, ◌++◌, map, flat_map, All, Contains}
use Rattle.fixed_round.specs.Means.{weighted}
use Rattle.fixed_round.specs.Words.{word_of, value_of}
use Rattle.decision_process.specs.Process.{min_with}
use Rattle.decision_process.specs.Backup.{floor, ceiling}
use Rattle.ground_model.specs.declared.action.Choice.{Choice}
use Rattle.ground_model.specs.declared.action.GroundAction.{GroundAction}
use Rattle.ground_model.specs.Packed.{State, has_bit}
use Rattle.ground_model.specs.Choices.{cost_of}
use Rattle.applicable_actions.specs.distinct.Enough.{DoTheSame}
use Rattle.bound_core.specs.Numbers.{quit_word}
use Rattle.brtdp_trial.specs.declared.step.Step.{Step}
use Rattle.brtdp_trial.specs.declared.step.TheConstants.{GIVE_UP}
use Rattle.brtdp_trial.specs.Meaning.{Last}
use Rattle.brtdp_trial.specs.Listed.{no_action}
use Rattle.bellman_backup.specs.Readings.{Reading}

pub record Found : Type 0 where
  pub code : ℕ
  pub action : GroundAction
  pub readings : List Reading

pub record StandsFor (e f : Found) : Type 0 where
  pub action : DoTheSame e.action f.action
  pub readings : e.readings ≡ f.readings
  pub not_above : e.code ≤ f.code

abbrev pub HasOneFor : List Found → Found → Type 0
HasOneFor loaded f = (e : Found) × Contains loaded e × StandsFor e f

abbrev pub codes_of : List Found → List ℕ
codes_of = map (λ (f : Found). f.code)

abbrev pub readings_of : List Found → List Reading
readings_of = flat_map (λ (f : Found). f.readings)

-- ---- one action

abbrev pub choice_weights : List Choice → List ℕ
choice_weights = map (λ (c : Choice). c.weight)

abbrev pub costs_in : State → List Choice → List ℕ
costs_in s = map (cost_of (has_bit s))

abbrev pub sum_of : State → (Reading → ℕ) → Found → ℕ
sum_of s number f =
    weighted (choice_weights f.action.choices) (costs_in s f.action.choices) (map number f.readings)

abbrev pub low : State → Found → ℕ
low s f = floor (sum_of s (λ r. r.lower) f) f.action.den

abbrev pub high : State → Found → ℕ
high s f = ceiling (sum_of s (λ r. value_of r.word) f) f.action.den

abbrev pub act_word : State → Found → ℕ
act_word s f = word_of (high s f) f.code

abbrev pub step_with : ℕ → Reading → Step
step_with weight r =
    record { weight = weight; id = r.id; lower = r.lower; upper = value_of r.word }

abbrev pub steps_of : List Choice → List Reading → List Step
steps_of (c ∷ cs) (r ∷ rs) = step_with c.weight r ∷ steps_of cs rs
steps_of _ _ = []

abbrev pub answer_of : Found → Last
answer_of f = record {
  code = f.code;
  den = f.action.den;
  steps = steps_of f.action.choices f.readings;
}

-- ---- all actions

module _ (penalty : ℕ) (s : State) where
  abbrev pub least_low : List Found → ℕ
  least_low = min_with penalty (low s)

  abbrev pub least_word : List Found → ℕ
  least_word = min_with (quit_word penalty) (act_word s)

  pub record IsFirstBest (found : List Found) (last : Last) : Type 0 where
    pub before : List Found
    pub best : Found
    pub behind : List Found
    pub split : found ≡ before ++ best ∷ behind
    pub least : low s best ≡ least_low found
    pub below : low s best < penalty
    pub first : All (λ f. low s best < low s f) before
    pub answer : last ≡ answer_of best

  abbrev pub IsAnswer : List Found → Last → Type 0
  IsAnswer found last =
      ((least_low found ≡ penalty) × (last ≡ no_action GIVE_UP)) ⊎ IsFirstBest found last
