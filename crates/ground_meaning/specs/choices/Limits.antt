-- What is counted and limited on the way to joint choices.
--     widest w n e b       the length of the longest merged list on the way to the choices of an effect
--     whole_cost c         the cost of a choice with all its guarded parts
--     is_dear c            it is above the limit
--     IsWithinLimits w n e b base
--                          no limit on joint choices is exceeded
--     condition_size, effect_size
--                          1 for an atom, an equality, a cost and the empty form; a quantifier or `forall`
--                          counts its body once for each binding, and 1; any other form counts its parts, and 1
use Rattle.std.specs.Prelude.{◌≡◌, ◌≤◌, ℕ, ◌+◌, ◌*◌, max, Bool, false, nat_lt, List, [], ◌∷◌, map, length}
use Rattle.std.specs.List.{list_any}
use Rattle.plain_list.specs.weighted.Mean.{total}
use Rattle.ppddl_model.specs.declared.tree.Condition.{Condition, Row_of-Condition}
use Rattle.ppddl_model.specs.declared.tree.Condition.{end_of-Condition, more_of-Condition}
use Rattle.ppddl_model.specs.declared.tree.Condition.TheVariants as condition
use Rattle.ppddl_model.specs.declared.tree.Effect.{Effect, Row_of-Effect, end_of-Effect}
use Rattle.ppddl_model.specs.declared.tree.Effect.{more_of-Effect, Row_of-Branch, end_of-Branch}
use Rattle.ppddl_model.specs.declared.tree.Effect.{more_of-Branch}
use Rattle.ppddl_model.specs.declared.tree.Effect.TheVariants.{Delete, Both', Forall', When'}
use Rattle.ppddl_model.specs.declared.tree.Effect.TheVariants.{Chance'}
use Rattle.ppddl_model.specs.Objects.{World, Binding, bindings}
use Rattle.ground_model.specs.declared.action.Choice.{Choice}
use Rattle.ground_model.specs.declared.action.Guarded.{Guarded}
use Rattle.ground_model.specs.declared.limits.TheConstants.{MOST_CHOICES, MOST_CHOICE_COST}
use Rattle.ground_model.specs.declared.limits.TheConstants.{MOST_DENOMINATOR}
use Rattle.ground_meaning.specs.choices.Numbering.{Numbering}
use Rattle.ground_meaning.specs.choices.Joint.{idle, with_factor, den_of, choices, choices_each}
use Rattle.ground_meaning.specs.choices.Joint.{charged_choices}

-- ---- choices on the way

abbrev pub widest_with : List Choice → List (List Choice) → ℕ
widest_with done [] = 0
widest_with done (cs ∷ more) =
    max (length (with_factor done cs)) (widest_with (with_factor done cs) more)

abbrev pub widest_product : List (List Choice) → ℕ
widest_product = widest_with (idle 1 ∷ [])

abbrev pub greatest : List ℕ → ℕ
greatest [] = 0
greatest (x ∷ xs) = max x (greatest xs)

module _ (w : World) (n : Numbering) where
  abbrev mutual
    pub widest : Effect → Binding → ℕ
    widest (Both' shape es) b = max (widest_each es b) (widest_product (choices_each w n es b))
    widest (Forall' params u (more_of-Effect e end_of-Effect)) b =
        max (greatest (map (λ b'. widest e b') (bindings w params b)))
        (widest_product (map (λ b'. choices w n e b') (bindings w params b)))
    widest (When' c u (more_of-Effect e end_of-Effect)) b = widest e b
    widest (Chance' shape branches) b =
        max (widest_branches branches b) (length (choices w n (Chance' shape branches) b))
    widest _ b = 0

    pub widest_each : {m : _} → Row_of-Effect m → Binding → ℕ
    widest_each end_of-Effect b = 0
    widest_each (more_of-Effect e es) b = max (widest e b) (widest_each es b)

    pub widest_branches : {m : _} → Row_of-Branch m → Binding → ℕ
    widest_branches end_of-Branch b = 0
    widest_branches (more_of-Branch chance e branches) b =
        max (widest e b) (widest_branches branches b)

-- ---- costs

abbrev pub whole_cost : Choice → ℕ
whole_cost c = c.cost + total (λ (x : Guarded). x.cost) c.guarded

abbrev pub is_dear : Choice → Bool
is_dear c = nat_lt MOST_CHOICE_COST (whole_cost c)

pub record IsWithinLimits (w : World) (n : Numbering) (e : Effect) (b : Binding) (base : ℕ) : Type 0 where
  pub denominator : den_of w e ≤ MOST_DENOMINATOR
  pub choices : widest w n e b ≤ MOST_CHOICES
  pub costs : list_any is_dear (charged_choices w n e b base) ≡ false

-- ---- sizes

module _ (w : World) where
  abbrev mutual
    pub condition_size : Condition → ℕ
    condition_size (condition.Not' u cs) = 1 + conditions_size cs
    condition_size (condition.All' shape cs) = 1 + conditions_size cs
    condition_size (condition.Any' shape cs) = 1 + conditions_size cs
    condition_size (condition.Imply' u cs v ds) = 1 + conditions_size cs + conditions_size ds
    condition_size (condition.Exists' params u cs) =
        1 + length (bindings w params []) * conditions_size cs
    condition_size (condition.Forall' params u cs) =
        1 + length (bindings w params []) * conditions_size cs
    condition_size _ = 1

    pub conditions_size : {m : _} → Row_of-Condition m → ℕ
    conditions_size end_of-Condition = 0
    conditions_size (more_of-Condition c cs) = condition_size c + conditions_size cs

  -- the atom in `(not ..)` stands in a form of its own
  abbrev mutual
    pub effect_size : Effect → ℕ
    effect_size (Delete a) = 2
    effect_size (Both' shape es) = 1 + effects_size es
    effect_size (Forall' params u es) = 1 + length (bindings w params []) * effects_size es
    effect_size (When' c u es) = 1 + condition_size c + effects_size es
    effect_size (Chance' shape branches) = 1 + branches_size branches
    effect_size _ = 1

    pub effects_size : {m : _} → Row_of-Effect m → ℕ
    effects_size end_of-Effect = 0
    effects_size (more_of-Effect e es) = effect_size e + effects_size es

    pub branches_size : {m : _} → Row_of-Branch m → ℕ
    branches_size end_of-Branch = 0
    branches_size (more_of-Branch chance e branches) = effect_size e + branches_size branches
