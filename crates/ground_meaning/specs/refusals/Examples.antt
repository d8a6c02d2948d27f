-- The coin and the tire world, grounded.
use Rattle.std.specs.Prelude.{◌≡◌, [], ◌∷◌, map, codes, Ok, Err, None, refl}
use Rattle.ppddl_model.specs.declared.tree.Effect.TheBlock.{shape-the_row-Effect-0, hidden-the_row-Effect-0, hidden-the_row-Effect-1, shape-the_row-Branch-2, hidden-the_row-Branch-2}
use Rattle.ppddl_model.specs.declared.tree.Condition.TheBlock.{shape-the_row-Condition-0, hidden-the_row-Condition-0, hidden-the_row-Condition-1}
use denote.Hole.Carrier.{hidden}
use Rattle.ppddl_model.specs.Steps.{Charges, Terms}
use Rattle.ppddl_model.specs.examples.Coin.{coin}
use Rattle.ppddl_model.specs.examples.Tire.{tire}
use Rattle.ground_model.specs.declared.action.GroundAction.{GroundAction}
use Rattle.ground_meaning.specs.declared.refusals.refusal.GroundRefusal.TheVariants.{NoPenalty}
use Rattle.ground_meaning.specs.refusals.Atoms.{numbering_of}
use Rattle.ground_meaning.specs.refusals.Problem.{ground_problem}
use Rattle.ground_meaning.specs.refusals.Limits.{grounded}

tire_has_seven_atoms : (numbering_of tire).atoms
    ≡ codes "(not-flattire)" ∷ codes "(spare-in l1)" ∷ codes "(spare-in l2)" ∷ codes "(spare-in l3)"
    ∷ codes "(vehicle-at l1)" ∷ codes "(vehicle-at l2)" ∷ codes "(vehicle-at l3)" ∷ []
unfolding shape-the_row-Effect-0 hidden-the_row-Effect-0 hidden-the_row-Effect-1 shape-the_row-Branch-2 hidden-the_row-Branch-2 shape-the_row-Condition-0 hidden-the_row-Condition-0 hidden-the_row-Condition-1 hidden
tire_has_seven_atoms = refl

abbrev free : Terms
free = record { penalty = None; step_cost = 0 }

abbrev charges : Charges
charges = record { penalty = 100000000; step_cost = 0 }

tire_has_five_actions : map (λ (a : GroundAction). a.name) (ground_problem tire charges).actions
    ≡ codes "(move-car l1 l2)" ∷ codes "(move-car l2 l3)" ∷ codes "(changetire l1)" ∷ codes "(changetire l2)" ∷ codes "(changetire l3)" ∷ []
unfolding shape-the_row-Effect-0 hidden-the_row-Effect-0 hidden-the_row-Effect-1 shape-the_row-Branch-2 hidden-the_row-Branch-2 shape-the_row-Condition-0 hidden-the_row-Condition-0 hidden-the_row-Condition-1 hidden
tire_has_five_actions = refl

-- no flat tire, a spare at the second place, the car at the first
tire_starts_once : (ground_problem tire charges).starts ≡ record { weight = 1; state = 21 ∷ [] } ∷ []
unfolding shape-the_row-Effect-0 hidden-the_row-Effect-0 hidden-the_row-Effect-1 shape-the_row-Branch-2 hidden-the_row-Branch-2 shape-the_row-Condition-0 hidden-the_row-Condition-0 hidden-the_row-Condition-1 hidden
tire_starts_once = refl

-- without `:goal-reward` and without a penalty that is asked for
tire_has_no_penalty : grounded tire free ≡ Err (NoPenalty 15)
unfolding shape-the_row-Effect-0 hidden-the_row-Effect-0 hidden-the_row-Effect-1 shape-the_row-Branch-2 hidden-the_row-Branch-2 shape-the_row-Condition-0 hidden-the_row-Condition-0 hidden-the_row-Condition-1 hidden
tire_has_no_penalty = refl

coin_is_grounded : grounded coin free ≡ Ok (ground_problem coin (record { penalty = 10000000; step_cost = 0 }))
unfolding shape-the_row-Effect-0 hidden-the_row-Effect-0 hidden-the_row-Effect-1 shape-the_row-Branch-2 hidden-the_row-Branch-2 shape-the_row-Condition-0 hidden-the_row-Condition-0 hidden-the_row-Condition-1 hidden
coin_is_grounded = refl
