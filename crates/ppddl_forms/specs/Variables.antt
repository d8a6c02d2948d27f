-- Typed lists of variables.
-- Source: PDDL 1.2 (McDermott et al. 1998) for typed lists and `either`; variables behind the last type are of type `object`.
--     type_name d         the name of a type: `object`, a declared one, or the parent of one
--     types_of d          `NAME` or `( either NAME+ )`
--     Listed              variables as they are read, and the types of the first of them
--     variables d         groups `VARIABLE+ - TYPES`, and then VARIABLE*
--     variables_behind d names kinds
--                         the same behind variables that were read, and the types of the first of them
--     variable_list d     `( VARIABLES )`
use Rattle.std.specs.Prelude.{ℕ, ◌-◌, List, [], ◌∷◌, ◌++◌, map, length, replicate, Bool, true, false, ◌==◌, if◌then◌else◌, Result, Ok}
use Rattle.std.specs.List.{list_any, zip}
use Rattle.plain_list.specs.Results.{◌>>=◌}
use Rattle.ppddl_lex.specs.declared.keywords.TheConstants.{EITHER}
use Rattle.ppddl_model.specs.declared.refusal.TextCode.TheVariants.{Expected, UnknownName, Twice}
use Rattle.ppddl_model.specs.declared.tree.Param.{Param}
use Rattle.ppddl_model.specs.WellFormed.{is_type}
use Rattle.ppddl_forms.specs.names.Declarations.{Declared}
use Rattle.ppddl_cursor.specs.declared.place.Place.{Place}
use Rattle.ppddl_cursor.specs.Ahead.{Ahead, same, after, place_of}
use Rattle.ppddl_cursor.specs.Forms.{Form, Forms}
use Rattle.ppddl_cursor.specs.Reading.{Fault, fails, one_at, read_to}
use Rattle.ppddl_cursor.specs.Sequences.{in_group, group_with, one_then, adding, checking, word_or_group}
use Rattle.ppddl_forms.specs.declared.name.Name.{Name}
use Rattle.ppddl_forms.specs.declared.symbols.TheConstants.{DASH, OBJECT}
use Rattle.ppddl_forms.specs.Sequences.{or_word, many_behind, each_to}
use Rattle.ppddl_forms.specs.Words.{name, variable}

abbrev pub seen_type : Declared → Name → Result (List ℕ) Fault
seen_type d n = if is_type d.types n.text then Ok n.text else fails UnknownName n.place

unfoldable pub type_name : Declared → Form → Result (List ℕ) Fault
type_name d = checking (seen_type d) name

unfoldable pub one_type : Declared → Form → Result (List (List ℕ)) Fault
one_type d = checking (λ kind. Ok (kind ∷ [])) (type_name d)

-- behind those that were read before
unfoldable pub type_names : Declared → List (List ℕ) → Forms → Place → Result (List (List ℕ)) Fault
type_names d = many_behind (type_name d)

unfoldable pub either_type : Declared → Form → Result (List (List ℕ)) Fault
either_type d = group_with EITHER.now (one_then (type_name d) (λ kind. type_names d (kind ∷ [])))

unfoldable pub types_of : Declared → Form → Result (List (List ℕ)) Fault
types_of d = word_or_group (one_type d) (either_type d)

-- the names so far, the types of the first of them, and whether the types of the others are next
pub record Listed : Type 0 where
  pub names : List (List ℕ)
  pub kinds : List (List (List ℕ))
  pub is_typing : Bool

abbrev pub none_listed : Listed
none_listed = record { names = []; kinds = []; is_typing = false }

-- those that have no types get these
abbrev pub all_typed : Listed → List (List ℕ) → List (List (List ℕ))
all_typed s kinds = s.kinds ++ replicate (length s.names - length s.kinds) kinds

abbrev pub with_types : Listed → List (List ℕ) → Listed
with_types s kinds = record { names = s.names; kinds = all_typed s kinds; is_typing = false }

-- behind at least one variable that has no types
abbrev pub at_dash : Listed → Place → Result Listed Fault
at_dash s a = if length s.kinds == length s.names then fails Expected a else Ok (record { names = s.names; kinds = s.kinds; is_typing = true })

abbrev pub new_variable : List (List ℕ) → Name → Result (List ℕ) Fault
new_variable seen v = if list_any (same v.text) seen then fails Twice v.place else Ok v.text

-- another variable than those seen
unfoldable pub other_variable : List (List ℕ) → Form → Result (List ℕ) Fault
other_variable seen = checking (new_variable seen) variable

abbrev pub with_names : Listed → List (List ℕ) → Listed
with_names s names = record { names = names; kinds = s.kinds; is_typing = false }

unfoldable pub listed_by : Bool → Declared → Listed → Form → Result Listed Fault
listed_by true d s = checking (λ kinds. Ok (with_types s kinds)) (types_of d)
listed_by false d s = or_word DASH.now (at_dash s) (checking (λ names. Ok (with_names s names)) (adding other_variable s.names))

unfoldable pub listed : Declared → Listed → Form → Result Listed Fault
listed d s = listed_by s.is_typing d s

-- the types behind a `-` that is next, for those of `count` variables that have none
abbrev pub types_at : Declared → ℕ → List (List (List ℕ)) → Ahead → Result (List (List (List ℕ)) × Ahead) Fault
types_at d count kinds h =
    if length kinds == count then fails Expected (place_of h)
    else (one_at (types_of d) (after h) >>= λ y. read_to (kinds ++ replicate (count - length kinds) y.0) y.1)

abbrev pub params_of : List (List ℕ) → List (List (List ℕ)) → List Param
params_of names kinds = map (λ p. record { name = p.0; kinds = p.1 }) (zip names kinds)

-- variables without types are objects
abbrev pub all_listed : Listed → Place → Result (List Param) Fault
all_listed s b = if s.is_typing then fails Expected b else Ok (params_of s.names (all_typed s (OBJECT.now ∷ [])))

-- behind these names, the first of which have these types
abbrev pub variables_behind : Declared → List (List ℕ) → List (List (List ℕ)) → Forms → Place → Result (List Param) Fault
variables_behind d names kinds = each_to (listed d) all_listed (record { names = names; kinds = kinds; is_typing = false })

unfoldable pub variables : Declared → Forms → Place → Result (List Param) Fault
variables d = each_to (listed d) all_listed none_listed

unfoldable pub variable_list : Declared → Form → Result (List Param) Fault
variable_list d = in_group (variables d)
