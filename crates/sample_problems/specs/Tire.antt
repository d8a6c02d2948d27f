-- The triangle tire world (Little and Thiebaux 2007) with three places as a ground problem, for tests: a road leads from
-- the first place to the second and one from there to the third, where the car is to be, and a spare tire lies at the
-- second. A move costs one unit and makes the tire flat with chance 1/2. Giving up costs a hundred units. Atom 0 says that the
-- tire is not flat, atoms 1 to 3 where a spare is, and atoms 4 to 6 where the car is.
use Rattle.std.specs.Prelude.{◌≡◌, ℕ, List, codes, [], ◌∷◌, refl}
use Rattle.ground_model.specs.declared.action.Choice.{Choice}
use Rattle.ground_model.specs.declared.action.GroundAction.{GroundAction}
use Rattle.ground_model.specs.declared.condition.GroundCondition.{GroundCondition}
use Rattle.ground_model.specs.declared.condition.GroundCondition.TheVariants.{Atom, All}
use Rattle.ground_model.specs.declared.start.Start.{Start}
use Rattle.ground_model.specs.Packed.{State}
use Rattle.ground_model.specs.Choices.{next_state}
use Rattle.ground_model.specs.Ground.{Ground}

-- at the first place; and at the second, with a good tire and with a flat one
abbrev pub begins : State
begins = 21 ∷ []

abbrev pub moved : State
moved = 37 ∷ []

abbrev pub moved_flat : State
moved_flat = 36 ∷ []

abbrev pub outcome : List ℕ → List ℕ → Choice
outcome adds deletes =
    record { weight = 1; cost = 1000000; adds = adds; deletes = deletes; guarded = [] }

abbrev pub both : ℕ → ℕ → GroundCondition
both p q = All (Atom p ∷ Atom q ∷ [])

abbrev pub move : List ℕ → ℕ → ℕ → GroundAction
move name from to = record {
  name = name;
  condition = both from 0;
  choices = outcome (to ∷ []) (from ∷ []) ∷ outcome (to ∷ []) (0 ∷ from ∷ []) ∷ [];
  den = 2;
}

abbrev pub change : List ℕ → ℕ → ℕ → GroundAction
change name spare car = record {
  name = name;
  condition = both spare car;
  choices = outcome (0 ∷ []) (spare ∷ []) ∷ [];
  den = 1;
}

unfoldable pub atoms : List (List ℕ)
atoms =
    codes "(not-flattire)" ∷ codes "(spare-in l1)" ∷ codes "(spare-in l2)"
    ∷ codes "(spare-in l3)" ∷ codes "(vehicle-at l1)" ∷ codes "(vehicle-at l2)"
    ∷ codes "(vehicle-at l3)" ∷ []

abbrev pub to_second : GroundAction
to_second = move (codes "(move-car l1 l2)") 4 5

abbrev pub to_third : GroundAction
to_third = move (codes "(move-car l2 l3)") 5 6

abbrev pub change_first : GroundAction
change_first = change (codes "(changetire l1)") 1 4

abbrev pub change_second : GroundAction
change_second = change (codes "(changetire l2)") 2 5

abbrev pub change_third : GroundAction
change_third = change (codes "(changetire l3)") 3 6

unfoldable pub actions : List GroundAction
actions = to_second ∷ to_third ∷ change_first ∷ change_second ∷ change_third ∷ []

abbrev pub starts : List Start
starts = record { weight = 1; state = begins } ∷ []

abbrev pub tire : Ground
tire = record {
  atoms = atoms;
  penalty = 100000000;
  starts = starts;
  start_den = 1;
  goal = Atom 6;
  actions = actions;
}

moves : next_state begins (outcome (5 ∷ []) (4 ∷ [])) ≡ moved
moves = refl

moves_and_is_flat : next_state begins (outcome (5 ∷ []) (0 ∷ 4 ∷ [])) ≡ moved_flat
moves_and_is_flat = refl
