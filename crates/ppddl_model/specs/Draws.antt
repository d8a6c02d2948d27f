-- The chances by which effects and `:init` draw.
--     branch_chances           the chances of the branches of a `probabilistic`
--     chance_lists e           the chances of each `probabilistic` in an effect
--     item_chance_lists i      the chances of an item of `:init`, where it is a `probabilistic`
--     EachDraw P e             P holds of the chances of each `probabilistic` in an effect
--     EachItemDraw P i         P holds of the chances of an item of `:init`, where it is a `probabilistic`
--     EachTaskDraw P task      P holds of the chances of each `probabilistic` in a task
use Rattle.std.specs.Prelude.{All, List, [], ◌∷◌, ◌++◌, map}
use Rattle.exact_fraction.specs.declared.fraction.Fraction.{Fraction}
use Rattle.ppddl_model.specs.declared.tree.Action.{Action}
use Rattle.ppddl_model.specs.declared.tree.Effect.{Effect, Row_of-Effect, end_of-Effect, more_of-Effect, Row_of-Branch, end_of-Branch, more_of-Branch}
use Rattle.ppddl_model.specs.declared.tree.Effect.TheVariants.{Both', Forall', When', Chance'}
use Rattle.ppddl_model.specs.declared.tree.InitBranch.{InitBranch}
use Rattle.ppddl_model.specs.declared.tree.InitItem.{InitItem}
use Rattle.ppddl_model.specs.declared.tree.InitItem.TheVariants as item
use Rattle.ppddl_model.specs.declared.tree.Task.{Task}

abbrev pub branch_chances : {n : _} → Row_of-Branch n → List Fraction
branch_chances end_of-Branch = []
branch_chances (more_of-Branch chance e branches) = chance ∷ branch_chances branches

abbrev mutual
  pub chance_lists : Effect → List (List Fraction)
  chance_lists (Both' shape es) = lists_each es
  chance_lists (Forall' params u (more_of-Effect e end_of-Effect)) = chance_lists e
  chance_lists (When' c u (more_of-Effect e end_of-Effect)) = chance_lists e
  chance_lists (Chance' shape branches) = branch_chances branches ∷ lists_branches branches
  chance_lists _ = []

  pub lists_each : {n : _} → Row_of-Effect n → List (List Fraction)
  lists_each end_of-Effect = []
  lists_each (more_of-Effect e es) = chance_lists e ++ lists_each es

  -- within the effects of the branches
  pub lists_branches : {n : _} → Row_of-Branch n → List (List Fraction)
  lists_branches end_of-Branch = []
  lists_branches (more_of-Branch chance e branches) = chance_lists e ++ lists_branches branches

abbrev pub item_chance_lists : InitItem → List (List Fraction)
item_chance_lists (item.Chance branches) = map (λ (branch : InitBranch). branch.chance) branches ∷ []
item_chance_lists _ = []

abbrev pub EachDraw : (List Fraction → Type 0) → Effect → Type 0
EachDraw P e = All P (chance_lists e)

abbrev pub EachItemDraw : (List Fraction → Type 0) → InitItem → Type 0
EachItemDraw P i = All P (item_chance_lists i)

pub record EachTaskDraw (P : List Fraction → Type 0) (task : Task) : Type 0 where
  pub actions : All (λ (a : Action). EachDraw P a.effect) task.domain.actions
  pub init : All (EachItemDraw P) task.problem.init
