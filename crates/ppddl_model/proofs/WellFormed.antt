-- The chances of a well-formed task sum to at most 1; the coin, the tire world and the haul are well-formed, so the premises of the laws
-- can be met.
use Rattle.std.proofs.Common.{◌≡◌, List, [], ◌∷◌, map, refl, sym, subst, arith}
use Rattle.std.specs.Prelude.{All}
use Rattle.std.specs.Int.{◌∣◌}
use Rattle.std.proofs.lemmas.List.Elements.{All-nil, All-cons, All-map, All-weaker}
use Rattle.std.proofs.Math.Nat.{one-dvd}
use Rattle.std.proofs.lemmas.Nat.Gcd.{dvd_refl}
use Rattle.exact_fraction.specs.declared.fraction.Fraction.{Fraction}
use Rattle.exact_fraction.specs.Numbers.{IsProbability}
use Rattle.ppddl_model.specs.declared.tree.Action.{Action}
use Rattle.ppddl_model.specs.declared.tree.Atom.{Atom}
use Rattle.ppddl_model.specs.declared.tree.Effect.{Effect}
use Rattle.ppddl_model.specs.declared.tree.InitItem.TheVariants.{Fact}
use Rattle.ppddl_model.specs.declared.tree.Task.{Task}
use Rattle.ppddl_model.specs.declared.tree.Effect.TheBlock.{shape-the_row-Effect-0, hidden-the_row-Effect-0, hidden-the_row-Effect-1, shape-the_row-Branch-2, hidden-the_row-Branch-2}
use Rattle.ppddl_model.specs.declared.tree.Condition.TheBlock.{shape-the_row-Condition-0, hidden-the_row-Condition-0, hidden-the_row-Condition-1}
use denote.Hole.Carrier.{hidden}
use Rattle.ppddl_model.specs.Draws.{chance_lists, EachDraw, EachItemDraw}
use Rattle.ppddl_model.specs.Chances.{SumWithinOne, AllSumWithinOne}
use Rattle.ppddl_model.specs.WellFormed.{AreProbabilities, IsWellFormed}
use Rattle.ppddl_model.specs.examples.Coin.{flip, coin}
use Rattle.ppddl_model.specs.examples.Haul.{go, at_first, whole_haul}
use Rattle.ppddl_model.specs.examples.Tire.{move_car, changetire, at_first as tire_at_first, tire}

pub well_formed_sums : (task : Task) → IsWellFormed task → AllSumWithinOne task
well_formed_sums task well = record {
  actions = All-weaker (λ (a : Action). EachDraw AreProbabilities a.effect) (λ (a : Action). EachDraw SumWithinOne a.effect)
      (λ a. All-weaker AreProbabilities SumWithinOne (λ chances are. are.within) _) task.domain.actions well.chances.actions;
  init = All-weaker (EachItemDraw AreProbabilities) (EachItemDraw SumWithinOne)
      (λ i. All-weaker AreProbabilities SumWithinOne (λ chances are. are.within) _) task.problem.init well.chances.init;
}

-- ---- examples

abbrev one_half : Fraction
one_half = record { num = 1; den = 2 }

half_is_probability : IsProbability one_half
half_is_probability = record { reduced = (dvd_refl 1, one-dvd 2, λ d of_num of_den. of_num); at_most_one = omega arith; den_positive = omega arith; den_bounded = omega arith }

half_within_one : SumWithinOne (one_half ∷ [])
half_within_one = record {
  parts = 2;
  positive = omega arith;
  common = All-cons (λ (chance : Fraction). chance.den ∣ 2) one_half [] (dvd_refl 2) (All-nil (λ (chance : Fraction). chance.den ∣ 2));
  within = omega arith;
}

half_alone : AreProbabilities (one_half ∷ [])
half_alone = record {
  each = All-cons IsProbability one_half [] half_is_probability (All-nil IsProbability);
  within = half_within_one;
  common = omega arith;
}

no_chance : (e : Effect) → chance_lists e ≡ [] → EachDraw AreProbabilities e
no_chance e none = subst (All AreProbabilities) (sym none) (All-nil AreProbabilities)

one_half_chance : (e : Effect) → chance_lists e ≡ (one_half ∷ []) ∷ [] → EachDraw AreProbabilities e
one_half_chance e one =
    subst (All AreProbabilities) (sym one) (All-cons AreProbabilities (one_half ∷ []) [] half_alone (All-nil AreProbabilities))

-- facts draw nothing
facts_draw_nothing : (atoms : List Atom) → All (EachItemDraw AreProbabilities) (map Fact atoms)
facts_draw_nothing atoms = All-map (EachItemDraw AreProbabilities) Fact atoms (λ _ _ _. All-nil AreProbabilities)

abbrev Draws : Action → Type 0
Draws a = EachDraw AreProbabilities a.effect

coin_is_well_formed : IsWellFormed coin
unfolding shape-the_row-Effect-0 hidden-the_row-Effect-0 hidden-the_row-Effect-1 shape-the_row-Branch-2 hidden-the_row-Branch-2 shape-the_row-Condition-0 hidden-the_row-Condition-0 hidden-the_row-Condition-1 hidden
coin_is_well_formed = record {
  types = refl;
  objects = refl;
  predicates = refl;
  functions = refl;
  action_names = refl;
  actions = refl;
  init = refl;
  values = refl;
  goal = refl;
  reward = refl;
  chances = record {
    actions = All-cons Draws flip [] (one_half_chance flip.effect refl) (All-nil Draws);
    init = All-nil (EachItemDraw AreProbabilities);
  };
}

tire_is_well_formed : IsWellFormed tire
unfolding shape-the_row-Effect-0 hidden-the_row-Effect-0 hidden-the_row-Effect-1 shape-the_row-Branch-2 hidden-the_row-Branch-2 shape-the_row-Condition-0 hidden-the_row-Condition-0 hidden-the_row-Condition-1 hidden
tire_is_well_formed = record {
  types = refl;
  objects = refl;
  predicates = refl;
  functions = refl;
  action_names = refl;
  actions = refl;
  init = refl;
  values = refl;
  goal = refl;
  reward = refl;
  chances = record {
    actions = All-cons Draws move_car (changetire ∷ []) (one_half_chance move_car.effect refl)
        (All-cons Draws changetire [] (no_chance changetire.effect refl) (All-nil Draws));
    init = facts_draw_nothing tire_at_first;
  };
}

haul_is_well_formed : IsWellFormed whole_haul
unfolding shape-the_row-Effect-0 hidden-the_row-Effect-0 hidden-the_row-Effect-1 shape-the_row-Branch-2 hidden-the_row-Branch-2 shape-the_row-Condition-0 hidden-the_row-Condition-0 hidden-the_row-Condition-1 hidden
haul_is_well_formed = record {
  types = refl;
  objects = refl;
  predicates = refl;
  functions = refl;
  action_names = refl;
  actions = refl;
  init = refl;
  values = refl;
  goal = refl;
  reward = refl;
  chances = record {
    actions = All-cons Draws go [] (no_chance go.effect refl) (All-nil Draws);
    init = facts_draw_nothing at_first;
  };
}
