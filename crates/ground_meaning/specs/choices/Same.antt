-- When ground conditions, guarded parts and choices are equal item by item.
--     words_of c              a condition as a list of numbers, form by form in its order
--     same_condition c d      the conditions are written as the same numbers
--     same_part, same_choice  all items are equal; of a choice all but the weight
use Rattle.std.specs.Prelude.{ℕ, Bool, ◌&&◌, nat_eq, List, [], ◌∷◌, ◌++◌}
use Rattle.std.specs.Cmp.Lexicographic.{pointwise}
use Rattle.ground_model.specs.declared.action.Choice.{Choice}
use Rattle.ground_model.specs.declared.action.Guarded.{Guarded}
use Rattle.ground_model.specs.declared.condition.GroundCondition.{GroundCondition}
use Rattle.ground_model.specs.declared.condition.GroundCondition.{Row_of-GroundCondition}
use Rattle.ground_model.specs.declared.condition.GroundCondition.{end_of-GroundCondition}
use Rattle.ground_model.specs.declared.condition.GroundCondition.{more_of-GroundCondition}
use Rattle.ground_model.specs.declared.condition.GroundCondition.TheVariants.{True, False, Atom}
use Rattle.ground_model.specs.declared.condition.GroundCondition.TheVariants.{Not', All', Any'}

abbrev mutual
  pub words_of : GroundCondition → List ℕ
  words_of True = 1 ∷ []
  words_of False = 2 ∷ []
  words_of (Atom q) = 3 ∷ q ∷ []
  words_of (Not' u (more_of-GroundCondition c end_of-GroundCondition)) = 4 ∷ words_of c
  words_of (All' shape cs) = 5 ∷ words_of_each cs
  words_of (Any' shape cs) = 6 ∷ words_of_each cs

  -- 0 stands behind the last
  pub words_of_each : {n : _} → Row_of-GroundCondition n → List ℕ
  words_of_each end_of-GroundCondition = 0 ∷ []
  words_of_each (more_of-GroundCondition c cs) = words_of c ++ words_of_each cs

abbrev pub same_numbers : List ℕ → List ℕ → Bool
same_numbers = pointwise nat_eq

abbrev pub same_condition : GroundCondition → GroundCondition → Bool
same_condition c d = same_numbers (words_of c) (words_of d)

abbrev pub same_part : Guarded → Guarded → Bool
same_part x y =
    same_condition x.condition y.condition && same_numbers x.adds y.adds
    && same_numbers x.deletes y.deletes && nat_eq x.cost y.cost

abbrev pub same_choice : Choice → Choice → Bool
same_choice x y =
    nat_eq x.cost y.cost && same_numbers x.adds y.adds && same_numbers x.deletes y.deletes
    && pointwise same_part x.guarded y.guarded
