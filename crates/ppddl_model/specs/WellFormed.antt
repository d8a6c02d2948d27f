-- What a task that is read meets: names are declared, arguments fit, and numbers are in range.
-- Sources: PDDL 1.2 (McDermott et al. 1998) for declarations, PDDL 2.1 (Fox and Long 2003) for types and functions, PPDDL 1.0 for chances.
--     is_plain name                a name is not empty, and has no blank and no parenthesis
--     are_distinct names           no name stands twice
--     is_type types kind           `object`, a declared type, or the parent of one
--     types_fit types              no type is declared twice or is its own ancestor, and `object` is under nothing
--     objects_fit types objects    each has a type, and one that is declared twice has one type
--     params_fit types params      no variable stands twice, and each has types
--     kinds_of w scope t           the types of a term, None where it is not in sight
--     fits w scope t p             a term fits a parameter where each of its types is, or is under, one of the parameter's
--     atom_fits w scope ds a       the atom is of a declared predicate or function, with one argument for each parameter, which fits it
--     condition_fits w d c scope   all atoms and terms of a condition fit
--     effect_fits w d e scope      all atoms and function terms of an effect fit, and its costs are in range
--     item_fits, values_fit        so do items of `:init` and values of functions, and no term has two values
--     AreProbabilities chances     fractions in lowest terms that sum to at most 1, with a common denominator in range
--     IsWellFormed task            all of this, of the whole task
use Rattle.std.specs.Prelude.{ℕ, ◌≤◌, ◌==◌, nat_le, Bool, true, false, not, ◌&&◌, ◌||◌, All, IsTrue, List, [], ◌∷◌, ◌++◌, map, length, Option, Some, None, is_some, codes}
use Rattle.std.specs.List.{find, list_any, list_all}
use Rattle.std.specs.Option.{option_map}
use Rattle.exact_fraction.specs.declared.fraction.Fraction.{Fraction}
use Rattle.exact_fraction.specs.Divisors.{common_multiple}
use Rattle.exact_fraction.specs.Numbers.{IsProbability}
use Rattle.ppddl_model.specs.declared.limits.TheConstants.{MOST_COST, MOST_PENALTY, MOST_DENOMINATOR}
use Rattle.ppddl_model.specs.declared.tree.Action.{Action}
use Rattle.ppddl_model.specs.declared.tree.Atom.{Atom}
use Rattle.ppddl_model.specs.declared.tree.Condition.{Condition, Row_of-Condition, end_of-Condition, more_of-Condition}
use Rattle.ppddl_model.specs.declared.tree.Condition.TheVariants as condition
use Rattle.ppddl_model.specs.declared.tree.Domain.{Domain}
use Rattle.ppddl_model.specs.declared.tree.Effect.{Effect, Row_of-Effect, end_of-Effect, more_of-Effect, Row_of-Branch, end_of-Branch, more_of-Branch}
use Rattle.ppddl_model.specs.declared.tree.Effect.TheVariants as effect
use Rattle.ppddl_model.specs.declared.tree.InitBranch.{InitBranch}
use Rattle.ppddl_model.specs.declared.tree.InitItem.{InitItem}
use Rattle.ppddl_model.specs.declared.tree.InitItem.TheVariants as item
use Rattle.ppddl_model.specs.declared.tree.ObjectDecl.{ObjectDecl}
use Rattle.ppddl_model.specs.declared.tree.Param.{Param}
use Rattle.ppddl_model.specs.declared.tree.PredicateDecl.{PredicateDecl}
use Rattle.ppddl_model.specs.declared.tree.Task.{Task}
use Rattle.ppddl_model.specs.declared.tree.Term.{Term}
use Rattle.ppddl_model.specs.declared.tree.Term.TheVariants.{Variable, Object}
use Rattle.ppddl_model.specs.declared.tree.TypeDecl.{TypeDecl}
use Rattle.ppddl_model.specs.declared.tree.ValueItem.{ValueItem}
use Rattle.ppddl_model.specs.State.{Name, same_name, same_atom}
use Rattle.ppddl_model.specs.Objects.{World, once, ground_atom, upward, is_under}
use Rattle.ppddl_model.specs.Draws.{EachTaskDraw}
use Rattle.ppddl_model.specs.Denominator.{denominators_of}
use Rattle.ppddl_model.specs.Chances.{SumWithinOne}
use Rattle.ppddl_model.specs.Steps.{world}

-- ---- names and declarations

abbrev pub is_plain : Name → Bool
is_plain [] = false
is_plain name = list_all (λ b. nat_le 33 b && not (b == 40) && not (b == 41)) name

abbrev pub are_distinct : List Name → Bool
are_distinct [] = true
are_distinct (name ∷ names) = not (list_any (same_name name) names) && are_distinct names

abbrev pub is_type : List TypeDecl → Name → Bool
is_type types kind =
    same_name kind (codes "object") || list_any (λ (t : TypeDecl). same_name kind t.name || same_name kind t.parent) types

abbrev pub is_ordered : List TypeDecl → TypeDecl → Bool
is_ordered types t =
    not (same_name t.name (codes "object")) && not (list_any (same_name t.name) (upward (length types) types t.parent))

abbrev pub types_fit : List TypeDecl → Bool
types_fit types = are_distinct (map (λ (t : TypeDecl). t.name) types) && list_all (is_ordered types) types

abbrev pub has_one_type : List ObjectDecl → ObjectDecl → Bool
has_one_type objects o = list_all (λ (x : ObjectDecl). not (same_name x.name o.name) || same_name x.kind o.kind) objects

abbrev pub objects_fit : List TypeDecl → List ObjectDecl → Bool
objects_fit types objects =
    list_all (λ (o : ObjectDecl). is_plain o.name && is_type types o.kind && has_one_type objects o) objects

abbrev pub has_types : List TypeDecl → Param → Bool
has_types types p = not (length p.kinds == 0) && list_all (is_type types) p.kinds

abbrev pub params_fit : List TypeDecl → List Param → Bool
params_fit types params = are_distinct (map (λ (p : Param). p.name) params) && list_all (has_types types) params

abbrev pub declarations_fit : List TypeDecl → List PredicateDecl → Bool
declarations_fit types ds =
    are_distinct (map (λ (d : PredicateDecl). d.name) ds) && list_all (λ (d : PredicateDecl). is_plain d.name && params_fit types d.params) ds

-- ---- terms and atoms

module _ (w : World) (scope : List Param) where
  abbrev pub kinds_of : Term → Option (List Name)
  kinds_of (Variable v) = option_map (λ (p : Param). p.kinds) (find (λ (p : Param). same_name p.name v) scope)
  kinds_of (Object o) = option_map (λ (x : ObjectDecl). x.kind ∷ []) (find (λ (x : ObjectDecl). same_name x.name o) w.objects)

  abbrev pub fits : Term → Param → Bool
  fits t p = elim (kinds_of t) [ None ↦ false | Some kinds ↦ list_all (λ kind. list_any (is_under w kind) p.kinds) kinds ]

  abbrev pub args_fit : List Term → List Param → Bool
  args_fit [] [] = true
  args_fit (t ∷ ts) (p ∷ ps) = fits t p && args_fit ts ps
  args_fit _ _ = false

  abbrev pub atom_fits : List PredicateDecl → Atom → Bool
  atom_fits ds a =
      elim (find (λ (d : PredicateDecl). same_name d.name a.predicate) ds) [ None ↦ false | Some d ↦ args_fit a.args d.params ]

-- ---- conditions and effects

module _ (w : World) (d : Domain) where
  abbrev mutual
    pub condition_fits : Condition → List Param → Bool
    condition_fits (condition.Atom a) scope = atom_fits w scope d.predicates a
    condition_fits (condition.Equal x y) scope = is_some (kinds_of w scope x) && is_some (kinds_of w scope y)
    condition_fits (condition.Not' u (more_of-Condition c end_of-Condition)) scope = condition_fits c scope
    condition_fits (condition.All' shape cs) scope = each_condition_fits cs scope
    condition_fits (condition.Any' shape cs) scope = each_condition_fits cs scope
    condition_fits (condition.Imply' u (more_of-Condition a end_of-Condition) v (more_of-Condition c end_of-Condition)) scope =
        condition_fits a scope && condition_fits c scope
    condition_fits (condition.Exists' params u (more_of-Condition c end_of-Condition)) scope =
        params_fit w.types params && condition_fits c (params ++ scope)
    condition_fits (condition.Forall' params u (more_of-Condition c end_of-Condition)) scope =
        params_fit w.types params && condition_fits c (params ++ scope)

    pub each_condition_fits : {n : _} → Row_of-Condition n → List Param → Bool
    each_condition_fits end_of-Condition scope = true
    each_condition_fits (more_of-Condition c cs) scope = condition_fits c scope && each_condition_fits cs scope

  abbrev mutual
    pub effect_fits : Effect → List Param → Bool
    effect_fits (effect.Add a) scope = atom_fits w scope d.predicates a
    effect_fits (effect.Delete a) scope = atom_fits w scope d.predicates a
    effect_fits (effect.Both' shape es) scope = each_effect_fits es scope
    effect_fits (effect.Forall' params u (more_of-Effect e end_of-Effect)) scope =
        params_fit w.types params && effect_fits e (params ++ scope)
    effect_fits (effect.When' c u (more_of-Effect e end_of-Effect)) scope = condition_fits c scope && effect_fits e scope
    effect_fits (effect.Chance' shape branches) scope = each_branch_fits branches scope
    effect_fits (effect.Cost v) scope = nat_le v MOST_COST
    effect_fits (effect.CostOf a) scope = atom_fits w scope d.functions a

    pub each_effect_fits : {n : _} → Row_of-Effect n → List Param → Bool
    each_effect_fits end_of-Effect scope = true
    each_effect_fits (more_of-Effect e es) scope = effect_fits e scope && each_effect_fits es scope

    pub each_branch_fits : {n : _} → Row_of-Branch n → List Param → Bool
    each_branch_fits end_of-Branch scope = true
    each_branch_fits (more_of-Branch chance e branches) scope = effect_fits e scope && each_branch_fits branches scope

  abbrev pub action_fits : Action → Bool
  action_fits a = is_plain a.name && params_fit w.types a.params && condition_fits a.condition a.params && effect_fits a.effect a.params

  -- ---- the problem

  abbrev pub item_fits : InitItem → Bool
  item_fits (item.Fact a) = atom_fits w [] d.predicates a
  item_fits (item.Chance branches) = list_all (λ (branch : InitBranch). list_all (atom_fits w [] d.predicates) branch.atoms) branches
  item_fits (item.Value v) = false

  abbrev pub has_one_value : List ValueItem → ValueItem → Bool
  has_one_value values v =
      list_all (λ (x : ValueItem). not (same_atom (ground_atom [] x.function) (ground_atom [] v.function)) || x.value == v.value) values

  abbrev pub values_fit : List ValueItem → Bool
  values_fit values =
      list_all (λ (v : ValueItem). atom_fits w [] d.functions v.function && nat_le v.value MOST_COST && has_one_value values v) values

abbrev pub reward_fits : Option ℕ → Bool
reward_fits None = true
reward_fits (Some reward) = nat_le 1 reward && nat_le reward MOST_PENALTY

-- ---- the task

-- what the domain has in sight
abbrev pub domain_world : Domain → World
domain_world d = record { types = d.types; objects = once d.constants; values = [] }

pub record AreProbabilities (chances : List Fraction) : Type 0 where
  pub each : All IsProbability chances
  pub within : SumWithinOne chances
  pub common : common_multiple (denominators_of chances) ≤ MOST_DENOMINATOR

pub record IsWellFormed (task : Task) : Type 0 where
  pub types : IsTrue (types_fit task.domain.types)
  pub objects : IsTrue (objects_fit task.domain.types (task.domain.constants ++ task.problem.objects))
  pub predicates : IsTrue (declarations_fit task.domain.types task.domain.predicates)
  pub functions : IsTrue (declarations_fit task.domain.types task.domain.functions)
  pub action_names : IsTrue (are_distinct (map (λ (a : Action). a.name) task.domain.actions))
  pub actions : IsTrue (list_all (action_fits (domain_world task.domain) task.domain) task.domain.actions)
  pub init : IsTrue (list_all (item_fits (world task) task.domain) task.problem.init)
  pub values : IsTrue (values_fit (world task) task.domain task.problem.values)
  pub goal : IsTrue (condition_fits (world task) task.domain task.problem.goal [])
  pub reward : IsTrue (reward_fits task.problem.goal_reward)
  pub chances : EachTaskDraw AreProbabilities task
