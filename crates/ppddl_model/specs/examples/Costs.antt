-- Costs, computed: what an effect costs in any case, and what each step costs besides.
use Rattle.std.specs.Prelude.{◌≡◌, [], ◌∷◌, codes}
use Rattle.std.proofs.Common.{refl}
use Rattle.ppddl_model.specs.declared.tree.Effect.TheVariants as effect
use Rattle.ppddl_model.specs.declared.tree.Effect.TheBlock.{shape-the_row-Effect-0, hidden-the_row-Effect-0, hidden-the_row-Effect-1, shape-the_row-Branch-2, hidden-the_row-Branch-2}
use Rattle.ppddl_model.specs.declared.tree.Condition.TheVariants as condition
use denote.Hole.Carrier.{hidden}
use Rattle.ppddl_model.specs.Costs.{unconditional_cost}
use Rattle.ppddl_model.specs.Steps.{Charges, base_cost, least_step_cost}
use Rattle.ppddl_model.specs.examples.Conditions.{garage, each}
use Rattle.ppddl_model.specs.examples.Coin.{done, coin}
use Rattle.ppddl_model.specs.examples.Tire.{tire}

-- `(and (decrease (reward) 5) (when (done) (decrease (reward) 7)) (forall (?x - (either bus cat)) (decrease (reward) 1)))`
five_and_two : unconditional_cost garage (effect.Both (effect.Cost 5 ∷ effect.When (condition.Atom done) (effect.Cost 7)
    ∷ effect.Forall (each (codes "?x") (codes "bus" ∷ codes "cat" ∷ []) ∷ []) (effect.Cost 1) ∷ [])) ≡ 7
unfolding shape-the_row-Effect-0 hidden-the_row-Effect-0 hidden-the_row-Effect-1 shape-the_row-Branch-2 hidden-the_row-Branch-2 hidden
five_and_two = refl

-- a step costs one micro-unit besides
abbrev one_more : Charges
one_more = record { penalty = 10000000; step_cost = 1 }

-- tire has no `decrease`, so each step costs a unit too
a_unit_more : base_cost tire one_more ≡ 1000001
unfolding shape-the_row-Effect-0 hidden-the_row-Effect-0 hidden-the_row-Effect-1 shape-the_row-Branch-2 hidden-the_row-Branch-2 hidden
a_unit_more = refl

no_unit_more : base_cost coin one_more ≡ 1
unfolding shape-the_row-Effect-0 hidden-the_row-Effect-0 hidden-the_row-Effect-1 shape-the_row-Branch-2 hidden-the_row-Branch-2 hidden
no_unit_more = refl

least_of_coin : least_step_cost coin one_more ≡ 1000001
unfolding shape-the_row-Effect-0 hidden-the_row-Effect-0 hidden-the_row-Effect-1 shape-the_row-Branch-2 hidden-the_row-Branch-2 hidden
least_of_coin = refl
