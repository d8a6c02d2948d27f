-- Marks of actions that do the same as the one before.
--     AreRepeats actions marks   each marked action does the same as the one before
--     IsIndexOf i prepared       of a ground problem; so it is with those that the index leaves out, and these are the choices of its
--                                actions
use Rattle.std.specs.Prelude.{◌≡◌, ℕ, Bool, List, map, IsTrue}
use Rattle.ground_model.specs.declared.action.Choice.{Choice}
use Rattle.ground_model.specs.declared.action.GroundAction.{GroundAction}
use Rattle.ground_model.specs.Invariant.{IsGroundProblem}
use Rattle.applicable_actions.specs.LeftOut.{Indexed, is_left_out}
use Rattle.applicable_actions.specs.distinct.Enough.{RepeatsLast}
use Rattle.applicable_actions.specs.distinct.Placed.{choices_of_action}

abbrev pub AreRepeats : List GroundAction → List Bool → Type 0
AreRepeats actions marks = (k : ℕ) → IsTrue (is_left_out marks k) → RepeatsLast actions k

pub record IsIndexOf (i : Indexed) (prepared : List (List Choice)) : Type 0 where
  pub valid : IsGroundProblem i.problem
  pub repeats : AreRepeats i.problem.actions i.left_out
  pub prepared_are : prepared ≡ map choices_of_action i.problem.actions
