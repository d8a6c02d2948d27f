-- What is found of a task before it is grounded.
--     table_of task            what the table of its types and objects says
--     AreChanging names task   the names are those of the predicates that may change, in any order
--     AreValued keys task      the keys tell of each function term whether it has a value
--     predicate_names task     the names of the declared predicates, each once; the number of one is its place
--     function_names task      those of the functions
--     IsFactRow task row       a row of the numbers of a predicate and of objects
--     fact_at task row         the ground atom of such a row
--     IsTermRow, term_at       the same of ground function terms
--     is_fact task q           whether `:init` names a ground atom as a fact
--     AreFactRows, AreTermRows the rows tell of each ground atom that has one whether it is a fact, or has a value
--     AreFactsOf ..            all of this
use Rattle.std.specs.Prelude.{◌≡◌, ℕ, Bool, List, ◌++◌, map}
use Rattle.std.specs.List.{list_any}
use Rattle.ppddl_model.specs.declared.tree.InitItem.{InitItem}
use Rattle.ppddl_model.specs.declared.tree.Task.{Task}
use Rattle.ppddl_model.specs.State.{Name, same_name, GroundAtom, no_atoms, has, with_atoms}
use Rattle.ppddl_model.specs.Objects.{World}
use Rattle.ppddl_model.specs.Functions.{has_value}
use Rattle.ppddl_model.specs.Steps.{world}
use Rattle.ppddl_model.specs.Changing.{changing_predicates, facts}
use Rattle.type_table.specs.Numbered.{each_once}
use Rattle.type_table.specs.Types.{table_world}
use Rattle.ground_terms.specs.terms.Keys.{key_of}
use Rattle.ground_terms.specs.sizes.Typed.{IsTyped}
use Rattle.task_instances.specs.fact_rows.Rows.{NumberedAtoms, declared_name, atom_at, IsAtomRow}
use Rattle.task_instances.specs.known_conditions.Known.{AreKeys}

abbrev pub table_of : Task → World
table_of task = table_world task.domain.types (task.domain.constants ++ task.problem.objects)

abbrev pub AreChanging : List Name → Task → Type 0
AreChanging names task = (q : Name) → list_any (same_name q) names ≡ list_any (same_name q) (changing_predicates task)

abbrev pub AreValued : List Name → Task → Type 0
AreValued keys task = (t : GroundAtom) → list_any (same_name (key_of t)) keys ≡ has_value (world task) t

abbrev pub predicate_names : Task → List Name
predicate_names task = each_once (map declared_name task.domain.predicates)

abbrev pub function_names : Task → List Name
function_names task = each_once (map declared_name task.domain.functions)

module _ (task : Task) where
  abbrev pub IsFactRow : List ℕ → Type 0
  IsFactRow = IsAtomRow (predicate_names task) (table_of task)

  abbrev pub fact_at : List ℕ → GroundAtom
  fact_at = atom_at (predicate_names task) (table_of task)

  abbrev pub IsTermRow : List ℕ → Type 0
  IsTermRow = IsAtomRow (function_names task) (table_of task)

  abbrev pub term_at : List ℕ → GroundAtom
  term_at = atom_at (function_names task) (table_of task)

  abbrev pub is_fact : GroundAtom → Bool
  is_fact q = has (with_atoms no_atoms (facts task)) q

  pub record AreFactRows (a : NumberedAtoms) : Type 0 where
    pub names : a.names ≡ predicate_names task
    pub tell : (row : List ℕ) → IsFactRow row → list_any (same_name row) a.rows ≡ is_fact (fact_at row)

  pub record AreTermRows (a : NumberedAtoms) : Type 0 where
    pub names : a.names ≡ function_names task
    pub tell : (row : List ℕ) → IsTermRow row → list_any (same_name row) a.rows ≡ has_value (world task) (term_at row)

pub record AreFactsOf (task : Task) (w : World) (names keys : List Name) (items : List InitItem) (terms : List Name) (fact_rows term_rows : NumberedAtoms) : Type 0 where
  pub table : w ≡ table_of task
  pub typed : IsTyped w
  pub changing : AreChanging names task
  pub init : items ≡ task.problem.init
  pub facts : AreKeys keys items
  pub valued : AreValued terms task
  pub facts_by_row : AreFactRows task fact_rows
  pub terms_by_row : AreTermRows task term_rows
