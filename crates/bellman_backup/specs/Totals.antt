-- What is read of the outcomes of one action.
--     IsUsable g v s a           an action of the problem, of which each choice leads to a state that v may intern
--     IsUsableAt g v s code cs   these are the choices of such an action, which has this code
--     IsSmallStep cost x         the numbers of a choice are within their limits
--     HasReadNext g v w t weight x
--                                x is a choice of this weight with what was read of the state t, by the loads made since
--     HasRead g v w s price cs rs steps sums
--                                the choices cs were read so, one after another, and the sums over them with these costs are these
--     HasReadAction g v w s a steps sums
--                                so were those of an action
use Rattle.std.specs.Prelude.{◌≡◌, ℕ, ◌≤◌, ◌^◌, Some, List, ◌++◌, length, map, Contains}
use Rattle.std.specs.List.{AllZip, slice_get}
use Rattle.fixed_round.specs.Means.{weighted}
use Rattle.fixed_round.specs.Words.{value_of}
use Rattle.ground_model.specs.declared.action.Choice.{Choice}
use Rattle.ground_model.specs.declared.action.GroundAction.{GroundAction}
use Rattle.ground_model.specs.declared.limits.TheConstants.{MOST_PENALTY}
use Rattle.ground_model.specs.Packed.{State, has_bit}
use Rattle.ground_model.specs.Choices.{cost_of, next_state}
use Rattle.ground_model.specs.Ground.{Ground}
use Rattle.ground_model.specs.Invariant.{IsAction}
use Rattle.word_table.specs.declared.view.View.{View}
use Rattle.word_table.specs.view.Views.{IsReached}
use Rattle.brtdp_trial.specs.declared.step.Step.{Step}
use Rattle.bellman_backup.specs.declared.sums.Sums.{Sums}
use Rattle.bellman_backup.specs.Readings.{Reading, IsRead, loads_of, loads_in}
use Rattle.bellman_backup.specs.Candidates.{choice_weights, step_with, steps_of}

pub record IsUsable (g : Ground) (v : View) (s : State) (a : GroundAction) : Type 0 where
  pub action : IsAction (length g.atoms) a
  pub penalty : g.penalty ≤ MOST_PENALTY
  pub reached : (c : Choice) → Contains a.choices c → IsReached v (next_state s c)

pub record IsUsableAt (g : Ground) (v : View) (s : State) (code : ℕ) (cs : List Choice) : Type 0 where
  pub action : GroundAction
  pub here : slice_get g.actions code ≡ Some action
  pub choices : cs ≡ action.choices
  pub usable : IsUsable g v s action

pub record IsSmallStep (cost : ℕ) (x : Step) : Type 0 where
  pub cost_within : cost ≤ 10 ^ 13
  pub weight_within : x.weight ≤ 10 ^ 18
  pub lower_within : x.lower ≤ 10 ^ 14
  pub upper_within : x.upper ≤ 10 ^ 14

module _ (g : Ground) (v w : View) where
  pub record HasReadNext (t : State) (weight : ℕ) (x : Step) : Type 0 where
    pub reading : Reading
    pub is : IsRead g v w t reading
    pub loads : w.loads ≡ loads_of reading ++ v.loads
    pub step : x ≡ step_with weight reading

  pub record HasRead (s : State) (price : Choice → ℕ) (cs : List Choice) (rs : List Reading) (steps : List Step)
      (sums : Sums) : Type 0 where
    pub readings : AllZip (λ c r. IsRead g v w (next_state s c) r) cs rs
    pub loads : w.loads ≡ loads_in rs ++ v.loads
    pub steps_are : steps ≡ steps_of cs rs
    pub lower : sums.lower ≡ weighted (choice_weights cs) (map price cs) (map (λ (r : Reading). r.lower) rs)
    pub upper : sums.upper
        ≡ weighted (choice_weights cs) (map price cs) (map (λ (r : Reading). value_of r.word) rs)

  abbrev pub HasReadAction : State → GroundAction → List Step → Sums → Type 0
  HasReadAction s a steps sums =
      (rs : List Reading) × HasRead s (cost_of (has_bit s)) a.choices rs steps sums
