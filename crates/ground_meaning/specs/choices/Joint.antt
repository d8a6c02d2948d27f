-- The joint choices of an effect: all ways in which its draws may go, with their weights over a
-- denominator of its own. They are the same in every state, since each `when` stands in them as a
-- guarded part. Source: PPDDL 1.0 (Younes and Littman 2004), semantics of probabilistic effects;
-- conditional effects are not compiled away (Nebel 2000).
--     idle weight            a choice that does nothing
--     literal, charge        a choice that adds or deletes one atom, or costs something
--     joined x y             both choices: weights multiply, costs add, and what is added is not deleted
--     guard t c              the choice where t holds: what it does without a condition becomes a part of
--                            its own, and its parts stand under t as well
--     merged cs              the choices with a weight, equal ones as one at the place of the first
--     product_of css         one choice of each list at once, merged after each list, the first list outer
--     with_rest den cs       the choices, and nothing with the weight that is left of den
--     own_den, inner_den     of a `probabilistic`: the least common multiple of its chances' denominators,
--                            and of its branches' denominators
--     den_of w e             the denominator of an effect
--     choices w n e b        the merged choices of an effect under a binding, over that denominator
--     common_divisor d cs    the greatest common divisor of d and all weights
--     charged, reduced       with a cost added, with the weight divided
--     Joint, joint w n e b base
--                            the choices with the base cost in them and their denominator, in lowest terms
use Rattle.std.specs.Prelude.{ℕ, ◌+◌, ◌-◌, ◌*◌, ◌/◌, ◌^◌, Bool, cond, ◌&&◌, nat_eq}
use Rattle.std.specs.Prelude.{List, [], ◌∷◌, ◌++◌, map, length, Option, Some, None}
use Rattle.exact_fraction.specs.Divisors.{gcd_of, common_multiple}
use Rattle.plain_list.specs.weighted.Mean.{total, products, positive}
use Rattle.plain_list.specs.weighted.Merged as weighted
use Rattle.ppddl_model.specs.declared.tree.Effect.{Effect, Row_of-Effect, end_of-Effect}
use Rattle.ppddl_model.specs.declared.tree.Effect.{more_of-Effect, Row_of-Branch, end_of-Branch}
use Rattle.ppddl_model.specs.declared.tree.Effect.{more_of-Branch}
use Rattle.ppddl_model.specs.declared.tree.Effect.TheVariants.{Add, Delete, Both', Forall', When'}
use Rattle.ppddl_model.specs.declared.tree.Effect.TheVariants.{Chance', Cost, CostOf}
use Rattle.ppddl_model.specs.Objects.{World, Binding, ground_atom, bindings}
use Rattle.ppddl_model.specs.Functions.{cost_of}
use Rattle.ppddl_model.specs.Draws.{branch_chances}
use Rattle.ppddl_model.specs.Denominator.{denominators_of, share}
use Rattle.ground_model.specs.declared.action.Choice.{Choice}
use Rattle.ground_model.specs.declared.action.Guarded.{Guarded}
use Rattle.ground_model.specs.declared.condition.GroundCondition.{GroundCondition}
use Rattle.ground_model.specs.declared.condition.GroundCondition.TheVariants.{All}
use Rattle.ground_meaning.specs.choices.Rising.{rising, less}
use Rattle.ground_meaning.specs.choices.Numbering.{Numbering, number_of, ground_condition}
use Rattle.ground_meaning.specs.choices.Same.{same_choice}

-- ---- single choices

abbrev pub weight_of : Choice → ℕ
weight_of c = c.weight

abbrev pub literal : List ℕ → List ℕ → Choice
literal adds deletes =
    record { weight = 1; cost = 0; adds = adds; deletes = deletes; guarded = [] }

abbrev pub charge : ℕ → Choice
charge cost = record { weight = 1; cost = cost; adds = []; deletes = []; guarded = [] }

abbrev pub idle : ℕ → Choice
idle weight = record { weight = weight; cost = 0; adds = []; deletes = []; guarded = [] }

abbrev pub joined : Choice → Choice → Choice
joined x y = record {
  weight = x.weight * y.weight;
  cost = x.cost + y.cost;
  adds = rising (x.adds ++ y.adds);
  deletes = less (rising (x.deletes ++ y.deletes)) (rising (x.adds ++ y.adds));
  guarded = x.guarded ++ y.guarded;
}

abbrev pub is_empty : List ℕ → Bool
is_empty xs = nat_eq (length xs) 0

abbrev pub own_part : GroundCondition → Choice → List Guarded
own_part t c =
    cond (is_empty c.adds && is_empty c.deletes && nat_eq c.cost 0) []
    (record { condition = t; adds = c.adds; deletes = c.deletes; cost = c.cost } ∷ [])

abbrev pub under : GroundCondition → Guarded → Guarded
under t x = record {
  condition = All (t ∷ x.condition ∷ []);
  adds = x.adds;
  deletes = x.deletes;
  cost = x.cost;
}

abbrev pub guard : GroundCondition → Choice → Choice
guard t c = record {
  weight = c.weight;
  cost = 0;
  adds = [];
  deletes = [];
  guarded = own_part t c ++ map (under t) c.guarded;
}

abbrev pub with_weight : ℕ → Choice → Choice
with_weight weight c = record {
  weight = weight;
  cost = c.cost;
  adds = c.adds;
  deletes = c.deletes;
  guarded = c.guarded;
}

abbrev pub scaled : ℕ → Choice → Choice
scaled k c = with_weight (k * c.weight) c

abbrev pub added : Choice → Choice → Choice
added x y = with_weight (x.weight + y.weight) x

-- ---- lists of choices

abbrev pub merged : List Choice → List Choice
merged cs = weighted.merged same_choice added (positive weight_of cs)

abbrev pub with_factor : List Choice → List Choice → List Choice
with_factor done cs = merged (products joined done cs)

abbrev pub product_with : List Choice → List (List Choice) → List Choice
product_with done [] = done
product_with done (cs ∷ more) = product_with (with_factor done cs) more

abbrev pub product_of : List (List Choice) → List Choice
product_of = product_with (idle 1 ∷ [])

abbrev pub with_rest : ℕ → List Choice → List Choice
with_rest den cs = cs ++ idle (den - total weight_of cs) ∷ []

-- ---- effects

abbrev pub own_den : {m : _} → Row_of-Branch m → ℕ
own_den branches = common_multiple (denominators_of (branch_chances branches))

module _ (w : World) where
  abbrev mutual
    pub den_of : Effect → ℕ
    den_of (Both' shape es) = den_of_each es
    den_of (Forall' params u (more_of-Effect e end_of-Effect)) =
        den_of e ^ length (bindings w params [])
    den_of (When' c u (more_of-Effect e end_of-Effect)) = den_of e
    den_of (Chance' shape branches) = own_den branches * common_multiple (dens_of branches)
    den_of _ = 1

    pub den_of_each : {m : _} → Row_of-Effect m → ℕ
    den_of_each end_of-Effect = 1
    den_of_each (more_of-Effect e es) = den_of e * den_of_each es

    pub dens_of : {m : _} → Row_of-Branch m → List ℕ
    dens_of end_of-Branch = []
    dens_of (more_of-Branch chance e branches) = den_of e ∷ dens_of branches

  abbrev pub inner_den : {m : _} → Row_of-Branch m → ℕ
  inner_den branches = common_multiple (dens_of branches)

abbrev pub numbers : Option ℕ → List ℕ
numbers None = []
numbers (Some k) = k ∷ []

module _ (w : World) (n : Numbering) where
  abbrev mutual
    pub choices : Effect → Binding → List Choice
    choices (Add a) b = literal (numbers (number_of n (ground_atom b a))) [] ∷ []
    choices (Delete a) b = literal [] (numbers (number_of n (ground_atom b a))) ∷ []
    choices (Both' shape es) b = product_of (choices_each es b)
    choices (Forall' params u (more_of-Effect e end_of-Effect)) b =
        product_of (map (λ b'. choices e b') (bindings w params b))
    choices (When' c u (more_of-Effect e end_of-Effect)) b =
        map (guard (ground_condition w n c b)) (choices e b)
    choices (Chance' shape branches) b =
        merged (with_rest (own_den branches * inner_den w branches)
        (branch_choices (own_den branches) (inner_den w branches) branches b))
    choices (Cost v) b = charge v ∷ []
    choices (CostOf a) b = charge (cost_of w (ground_atom b a)) ∷ []

    pub choices_each : {m : _} → Row_of-Effect m → Binding → List (List Choice)
    choices_each end_of-Effect b = []
    choices_each (more_of-Effect e es) b = choices e b ∷ choices_each es b

    -- each branch with its share of own, brought to the denominator inner
    pub branch_choices : {m : _} → ℕ → ℕ → Row_of-Branch m → Binding → List Choice
    branch_choices own inner end_of-Branch b = []
    branch_choices own inner (more_of-Branch chance e branches) b =
        map (scaled (share own chance * (inner / den_of w e))) (choices e b)
        ++ branch_choices own inner branches b

-- ---- in lowest terms

abbrev pub common_divisor : ℕ → List Choice → ℕ
common_divisor d [] = d
common_divisor d (c ∷ cs) = common_divisor (gcd_of d c.weight) cs

abbrev pub charged : ℕ → Choice → Choice
charged base c = record {
  weight = c.weight;
  cost = c.cost + base;
  adds = c.adds;
  deletes = c.deletes;
  guarded = c.guarded;
}

abbrev pub reduced : ℕ → Choice → Choice
reduced divisor c = with_weight (c.weight / divisor) c

pub record Joint : Type 0 where
  pub list : List Choice
  pub den : ℕ

module _ (w : World) (n : Numbering) where
  abbrev pub charged_choices : Effect → Binding → ℕ → List Choice
  charged_choices e b base = map (charged base) (choices w n e b)

  abbrev pub divisor : Effect → Binding → ℕ
  divisor e b = common_divisor (den_of w e) (choices w n e b)

  abbrev pub joint : Effect → Binding → ℕ → Joint
  joint e b base = record {
    list = map (reduced (divisor e b)) (charged_choices e b base);
    den = den_of w e / divisor e b;
  }
