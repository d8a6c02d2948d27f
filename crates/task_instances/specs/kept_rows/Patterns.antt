-- Atoms by number, whose arguments are objects or stand in the row of a binding.
--     number_in s row           the number of an object that an argument names in a row
--     numbers_in slots row      so of each argument
--     fits_in n s               whether a row of n numbers has the place of an argument
--     row_under p row           the row of the atom: its predicate, and the objects that the arguments name
--     IsLastPlace ps v i        the last parameter of this name stands at this place
--     IsSlot w ps t s           in each row of objects of the parameters an argument stands for what the term names
--     HasSlots w ps ts slots    so for terms in order
--     IsRowFor names w row p q  in the row, the atom by number is this ground atom
--     IsPattern names w ps a p  so in each row of objects of the parameters
--     IsFactPattern task ps a p an atom of a predicate that no step changes, by number
--     IsTermPattern task ps q p a function term without quantified variables that names a parameter, by number
--     TestStands task row b t   in the row, which binds b, a test by number decides its condition
--     IsTest task ps t          so in each row of objects of the parameters
--     TermStands, IsTermTest    the same of function terms
--     conditions_in tests       the conditions that they decide
--     terms_in tests            the function terms that they decide
--     DecidesTest, DecidesTerm  in the row, an atom by number decides a test, or whether a term has values
--     decides_by                so where there is one
--     ArePrepared task ps n stages   each test of the stages is one for the parameters up to its own, of which n stand before the first
use Rattle.std.specs.Prelude.{◌≡◌, ◌<◌, ℕ, suc, Bool, true, false, All, List, [], ◌∷◌, map, length, take, drop, slice_index_or, Option, Some, None}
use Rattle.std.specs.List.{list_any}
use Rattle.ppddl_model.specs.declared.tree.Atom.{Atom}
use Rattle.ppddl_model.specs.declared.tree.Condition.{Condition}
use Rattle.ppddl_model.specs.declared.tree.Param.{Param}
use Rattle.ppddl_model.specs.declared.tree.Task.{Task}
use Rattle.ppddl_model.specs.declared.tree.Term.{Term}
use Rattle.ppddl_model.specs.State.{Name, same_name, GroundAtom}
use Rattle.ppddl_model.specs.Objects.{World, Binding, named, ground_atom}
use Rattle.ppddl_model.specs.Functions.{has_value}
use Rattle.ppddl_model.specs.Steps.{world}
use Rattle.ppddl_model.specs.Changing.{changing_predicates}
use Rattle.type_table.specs.Types.{object_at}
use Rattle.task_instances.specs.fact_rows.Rows.{atom_at, IsAtomRow}
use Rattle.task_instances.specs.declared.quantified_atoms.quantified_atom.QuantifiedAtom.{QuantifiedAtom}
use Rattle.task_instances.specs.quantified_atoms.Needed.{hides}
use Rattle.task_instances.specs.quantified_atoms.Quantified.{is_settled}
use Rattle.task_instances.specs.facts.Facts.{table_of, predicate_names, function_names, is_fact}
use Rattle.task_instances.specs.declared.kept_rows.pattern.Pattern.{Pattern}
use Rattle.task_instances.specs.declared.kept_rows.pattern.Slot.{Slot}
use Rattle.task_instances.specs.declared.kept_rows.pattern.Slot.TheVariants.{Number, Place}
use Rattle.task_instances.specs.declared.kept_rows.test.Test.{Test}
use Rattle.task_instances.specs.declared.kept_rows.term_test.TermTest.{TermTest}
use Rattle.task_instances.specs.declared.kept_rows.stages.Stage.{Stage}
use Rattle.task_instances.specs.kept_rows.Kept.{bound_to, IsRow}
use Rattle.task_instances.specs.kept_rows.Stages.{may_hold}
use Rattle.task_instances.specs.kept_rows.Terms.{is_valued_under}

abbrev pub number_in : List ℕ → Slot → ℕ
number_in row (Number n) = n
number_in row (Place i) = slice_index_or row i 0

abbrev pub numbers_in : List ℕ → List Slot → List ℕ
numbers_in row = map (number_in row)

abbrev pub fits_in : ℕ → Slot → Type 0
fits_in n (Number k) = Unit {0}
fits_in n (Place i) = i < n

abbrev pub row_under : Pattern → List ℕ → List ℕ
row_under p row = p.predicate ∷ numbers_in row p.slots.items

pub record IsLastPlace (ps : List Param) (v : Name) (i : ℕ) : Type 0 where
  pub within : i < length ps
  pub is : list_any (hides v) (take 1 (drop i ps)) ≡ true
  pub later : list_any (hides v) (drop (suc i) ps) ≡ false

pub record IsSlot (w : World) (ps : List Param) (t : Term) (s : Slot) : Type 0 where
  pub fits : fits_in (length ps) s
  pub within : (row : List ℕ) → IsRow w (length ps) row → number_in row s < length w.objects
  pub is : (row : List ℕ) → IsRow w (length ps) row → object_at w (number_in row s) ≡ named (bound_to w ps row []) t

pub record HasSlots (w : World) (ps : List Param) (ts : List Term) (slots : List Slot) : Type 0 where
  pub fit : All (fits_in (length ps)) slots
  pub within : (row : List ℕ) → IsRow w (length ps) row → All (λ o. o < length w.objects) (numbers_in row slots)
  pub are : (row : List ℕ) → IsRow w (length ps) row → map (object_at w) (numbers_in row slots) ≡ map (named (bound_to w ps row [])) ts

pub record IsRowFor (names : List Name) (w : World) (row : List ℕ) (p : Pattern) (q : GroundAtom) : Type 0 where
  pub fit : All (fits_in (length row)) p.slots.items
  pub is_row : IsAtomRow names w (row_under p row)
  pub is : atom_at names w (row_under p row) ≡ q

abbrev pub IsPattern : List Name → World → List Param → Atom → Pattern → Type 0
IsPattern names w ps a p = (row : List ℕ) → IsRow w (length ps) row → IsRowFor names w row p (ground_atom (bound_to w ps row []) a)

pub record IsFactPattern (task : Task) (ps : List Param) (a : Atom) (p : Pattern) : Type 0 where
  pub fixed : list_any (same_name a.predicate) (changing_predicates task) ≡ false
  pub is : IsPattern (predicate_names task) (table_of task) ps a p

pub record IsTermPattern (task : Task) (ps : List Param) (q : QuantifiedAtom) (p : Pattern) : Type 0 where
  pub plain : length q.variables.items ≡ 0
  pub free : is_settled q ≡ false
  pub is : IsPattern (function_names task) (table_of task) ps q.atom.now p

pub record DecidesTest (task : Task) (row : List ℕ) (p : Pattern) (may : Bool) : Type 0 where
  pub atom : GroundAtom
  pub is : IsRowFor (predicate_names task) (table_of task) row p atom
  pub decides : is_fact task atom ≡ may

pub record DecidesTerm (task : Task) (row : List ℕ) (p : Pattern) (valued : Bool) : Type 0 where
  pub term : GroundAtom
  pub is : IsRowFor (function_names task) (table_of task) row p term
  pub decides : has_value (world task) term ≡ valued

abbrev pub decides_by : (Pattern → Bool → Type 0) → Option Pattern → Bool → Type 0
decides_by decides (Some p) answer = decides p answer
decides_by decides None answer = Unit {0}

module _ (task : Task) where
  abbrev pub TestStands : List ℕ → Binding → Test → Type 0
  TestStands row b t = decides_by (DecidesTest task row) t.pattern (may_hold task b t.condition.now)

  abbrev pub TermStands : List ℕ → Binding → TermTest → Type 0
  TermStands row b t = decides_by (DecidesTerm task row) t.pattern (is_valued_under (world task) b t.term.now)

  module _ (ps : List Param) where
    abbrev pub IsTest : Test → Type 0
    IsTest t = (row : List ℕ) → IsRow (table_of task) (length ps) row → TestStands row (bound_to (table_of task) ps row []) t

    abbrev pub IsTermTest : TermTest → Type 0
    IsTermTest t = (row : List ℕ) → IsRow (table_of task) (length ps) row → TermStands row (bound_to (table_of task) ps row []) t

  abbrev pub ArePrepared : List Param → ℕ → List Stage → Type 0
  ArePrepared ps n [] = Unit {0}
  ArePrepared ps n (s ∷ later) = All (IsTest (take (suc n) ps)) s.tests.items × ArePrepared ps (suc n) later

abbrev pub conditions_in : List Test → List Condition
conditions_in = map (λ (t : Test). t.condition.now)

abbrev pub terms_in : List TermTest → List QuantifiedAtom
terms_in = map (λ (t : TermTest). t.term.now)
