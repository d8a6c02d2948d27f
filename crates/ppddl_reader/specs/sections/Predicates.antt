-- `:predicates` and `:functions`.
-- Source: PDDL 2.1 (Fox and Long 2003); all functions are numbers, which may stand behind a `-` or not.
--     new_predicate d       a name that no predicate has, `new_function d` one that no function has
--     predicate d           `( NAME VARIABLES )`, which is declared behind the others; `function d` the same of a function
--     predicates d          each of them
--     ListedFunctions       what is declared so far, and whether functions wait for their type
--     functions d           groups `FUNCTION+ - number`, and then FUNCTION*
use Rattle.std.specs.Prelude.{ℕ, List, Bool, true, false, is_some, if◌then◌else◌, Result, Ok}
use Rattle.plain_list.specs.Results.{◌>>=◌}
use Rattle.ppddl_model.specs.declared.refusal.TextCode.TheVariants.{Expected, Twice}
use Rattle.ppddl_model.specs.declared.tree.Param.{Param}
use Rattle.ppddl_model.specs.declared.tree.PredicateDecl.{PredicateDecl}
use Rattle.ppddl_forms.specs.names.Declarations.{Declared, predicate_named, with_predicate, with_function}
use Rattle.ppddl_cursor.specs.declared.place.Place.{Place}
use Rattle.ppddl_cursor.specs.Ahead.{Ahead, after, place_of}
use Rattle.ppddl_cursor.specs.Forms.{Form, Forms}
use Rattle.ppddl_cursor.specs.Reading.{Fault, fails, one_at}
use Rattle.ppddl_cursor.specs.Sequences.{checking, in_group, one_then, giving, each, keyword}
use Rattle.ppddl_forms.specs.declared.name.Name.{Name}
use Rattle.ppddl_forms.specs.Variables.{variables}
use Rattle.ppddl_forms.specs.Words.{name}
use Rattle.ppddl_reader.specs.declared.sections.symbols.TheConstants.{NUMBER}
use Rattle.ppddl_reader.specs.sections.Sequences.{typed_list}

abbrev pub not_taken : Bool → Name → Result (List ℕ) Fault
not_taken taken n = if taken then fails Twice n.place else Ok n.text

abbrev pub declaration : List ℕ → List Param → PredicateDecl
declaration w params = record { name = w; params = params }

module _ (d : Declared) where
  unfoldable pub new_predicate : Form → Result (List ℕ) Fault
  new_predicate = checking (λ n. not_taken (is_some (predicate_named d.predicates n.text)) n) name

  unfoldable pub predicate : Form → Result Declared Fault
  predicate = in_group (one_then new_predicate (λ w. giving (λ params. with_predicate d (declaration w params)) (variables d)))

  unfoldable pub new_function : Form → Result (List ℕ) Fault
  new_function = checking (λ n. not_taken (is_some (predicate_named d.functions n.text)) n) name

  unfoldable pub function : Form → Result Declared Fault
  function = in_group (one_then new_function (λ w. giving (λ params. with_function d (declaration w params)) (variables d)))

unfoldable pub predicates : Declared → Forms → Place → Result Declared Fault
predicates = each predicate

pub record ListedFunctions : Type 0 where
  pub declared : Declared
  pub wait : Bool

abbrev pub listed_so : Declared → Bool → ListedFunctions
listed_so d wait = record { declared = d; wait = wait }

unfoldable pub another_function : ListedFunctions → Form → Result ListedFunctions Fault
another_function s = checking (λ d. Ok (listed_so d true)) (function s.declared)

abbrev pub functions_wait : ListedFunctions → Place → Result (Unit {0}) Fault
functions_wait s a = if s.wait then Ok tt else fails Expected a

unfoldable pub numbers : ListedFunctions → Form → Result ListedFunctions Fault
numbers s = checking (λ u. Ok (listed_so s.declared false)) (keyword NUMBER.now)

-- a `-` that is next, and the type behind it
abbrev pub numbers_at : ListedFunctions → Ahead → Result (ListedFunctions × Ahead) Fault
numbers_at s h = functions_wait s (place_of h) >>= λ u. one_at (numbers s) (after h)

abbrev pub all_functions : ListedFunctions → Place → Result Declared Fault
all_functions s b = Ok s.declared

abbrev pub functions_behind : ListedFunctions → Forms → Place → Result Declared Fault
functions_behind = typed_list another_function functions_wait numbers all_functions

abbrev pub functions : Declared → Forms → Place → Result Declared Fault
functions d = functions_behind (listed_so d false)
