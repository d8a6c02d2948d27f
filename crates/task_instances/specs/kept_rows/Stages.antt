-- The parameters of an action, which are bound one after another, and the parts of its precondition, each of which is tested as soon as what it names is bound.
--     is_variable v t              whether a term is the variable
--     names_variable v c           whether the variable stands in a condition, whatever binds it there
--     names_none ps c              whether none of the parameters stands in it
--     conjuncts_of c               the parts of a conjunction, and their parts where they are conjunctions; any other condition itself
--     conditions_of references     the conditions to which these lead
--     may_hold task b c            whether a condition is not known to be false
--     may_all_hold task b cs       whether this is so of each of these conditions
--     tests_of stage               the conditions of its tests
--     params_of stages             the parameters
--     may_pass task stages b       whether no test of the stages is known to be false
--     are_settled stages           whether no test of a stage names the parameter of a later one
--     IsRange w objects p          these are the objects over which a parameter ranges
--     AreStages w ps cs first stages   the parameters in order; each of the conditions cs stands once, among the tests of the stages or, where it names no parameter, in `first`
--     IsLeft task c stages b       however the parameters are bound on top of b, c is not known to be false exactly where the stages pass
use Rattle.std.specs.Prelude.{◌≡◌, ◌<◌, ℕ, Bool, true, false, not, ◌&&◌, ◌||◌, All, Contains, List, [], ◌∷◌, ◌++◌, map, length}
use Rattle.std.specs.Borrow.{Bor}
use Rattle.std.specs.List.{list_all, list_any}
use Rattle.ppddl_model.specs.declared.tree.Condition.{Condition, Row_of-Condition, end_of-Condition, more_of-Condition}
use Rattle.ppddl_model.specs.declared.tree.Condition.TheVariants as condition
use Rattle.ppddl_model.specs.declared.tree.Param.{Param}
use Rattle.ppddl_model.specs.declared.tree.Task.{Task}
use Rattle.ppddl_model.specs.declared.tree.Term.{Term}
use Rattle.ppddl_model.specs.declared.tree.Term.TheVariants.{Variable, Object}
use Rattle.ppddl_model.specs.State.{Name, same_name}
use Rattle.ppddl_model.specs.Objects.{World, Binding, objects_of, bindings}
use Rattle.ppddl_model.specs.Known.{is_not_false}
use Rattle.ppddl_model.specs.Steps.{world}
use Rattle.ppddl_model.specs.Changing.{known_of}
use Rattle.type_table.specs.Types.{object_at}
use Rattle.task_instances.specs.facts.Facts.{table_of}
use Rattle.task_instances.specs.declared.kept_rows.stages.Stage.{Stage}
use Rattle.task_instances.specs.declared.kept_rows.test.Test.{Test}

abbrev pub is_variable : Name → Term → Bool
is_variable v (Variable u) = same_name v u
is_variable v (Object o) = false

abbrev mutual
  pub names_variable : Name → Condition → Bool
  names_variable v (condition.Atom a) = list_any (is_variable v) a.args
  names_variable v (condition.Equal x y) = is_variable v x || is_variable v y
  names_variable v (condition.Not' u (more_of-Condition c end_of-Condition)) = names_variable v c
  names_variable v (condition.All' shape cs) = each_names_variable v cs
  names_variable v (condition.Any' shape cs) = each_names_variable v cs
  names_variable v (condition.Imply' u (more_of-Condition c end_of-Condition) w (more_of-Condition d end_of-Condition)) =
      names_variable v c || names_variable v d
  names_variable v (condition.Exists' params u (more_of-Condition c end_of-Condition)) = names_variable v c
  names_variable v (condition.Forall' params u (more_of-Condition c end_of-Condition)) = names_variable v c

  pub each_names_variable : {n : _} → Name → Row_of-Condition n → Bool
  each_names_variable v end_of-Condition = false
  each_names_variable v (more_of-Condition c cs) = names_variable v c || each_names_variable v cs

abbrev pub names_none : List Param → Condition → Bool
names_none ps c = list_all (λ (p : Param). not (names_variable p.name c)) ps

abbrev mutual
  pub conjuncts_of : Condition → List Condition
  conjuncts_of (condition.All' shape cs) = conjuncts_of_each cs
  conjuncts_of c = c ∷ []

  pub conjuncts_of_each : {n : _} → Row_of-Condition n → List Condition
  conjuncts_of_each end_of-Condition = []
  conjuncts_of_each (more_of-Condition c cs) = conjuncts_of c ++ conjuncts_of_each cs

abbrev pub conditions_of : List (Bor Condition) → List Condition
conditions_of = map (λ r. r.now)

abbrev pub may_hold : Task → Binding → Condition → Bool
may_hold task b c = is_not_false (known_of task c b)

abbrev pub may_all_hold : Task → Binding → List Condition → Bool
may_all_hold task b cs = list_all (may_hold task b) cs

abbrev pub tests_of : Stage → List Condition
tests_of s = map (λ (t : Test). t.condition.now) s.tests.items

abbrev pub params_of : List Stage → List Param
params_of = map (λ (s : Stage). s.param.now)

abbrev pub may_pass : Task → List Stage → Binding → Bool
may_pass task stages b = list_all (λ (s : Stage). may_all_hold task b (tests_of s)) stages

abbrev pub are_settled : List Stage → Bool
are_settled [] = true
are_settled (s ∷ later) = list_all (names_none (params_of later)) (tests_of s) && are_settled later

pub record IsRange (w : World) (objects : List ℕ) (p : Param) : Type 0 where
  pub are : map (object_at w) objects ≡ objects_of w p
  pub within : All (λ o. o < length w.objects) objects

abbrev pub HasRange : World → Stage → Type 0
HasRange w s = IsRange w s.objects s.param.now

pub record AreStages (w : World) (ps : List Param) (cs first : List Condition) (stages : List Stage) : Type 0 where
  pub params : params_of stages ≡ ps
  pub ranges : All (HasRange w) stages
  pub settled : are_settled stages ≡ true
  pub free : list_all (names_none ps) first ≡ true
  pub parts : (f : Condition → Bool) → list_all f cs ≡ (list_all f first && list_all (λ (s : Stage). list_all f (tests_of s)) stages)

pub record IsLeft (task : Task) (c : Condition) (stages : List Stage) (b : Binding) : Type 0 where
  pub ranges : All (HasRange (table_of task)) stages
  pub settled : are_settled stages ≡ true
  pub left : (b' : Binding) → Contains (bindings (world task) (params_of stages) b) b' → may_hold task b' c ≡ may_pass task stages b'
