-- Typed lists of objects and constants.
-- Source: PDDL 1.2 (McDermott et al. 1998) for typed lists; objects behind the last type are of type `object`. An object may be declared
-- again with the same type.
--     object_type            the name of a type; `( either .. )` is not accepted as the type of an object
--     has_other known kind   an object is known under another type
--     all_typed d kind ..    objects of one type behind those of the list; one that was declared with another type is refused
--     typed d done ns kind   objects behind those of the list, by their type: first each of them is judged, and then the type
--     Listed                 the objects that have their types, and the names that wait for theirs
--     objects_behind d ..    what is read behind some objects and the names that wait
--     objects d              groups `NAME+ - NAME`, and then NAME*
use Rattle.std.specs.Prelude.{ℕ, List, [], ◌∷◌, ◌++◌, length, Bool, true, false, not, ◌==◌, if◌then◌else◌, Option, Some, None, Result, Ok}
use Rattle.plain_list.specs.Results.{◌>>=◌}
use Rattle.ppddl_model.specs.declared.refusal.TextCode.TheVariants.{Expected, UnknownName, Twice}
use Rattle.ppddl_model.specs.declared.tree.ObjectDecl.{ObjectDecl}
use Rattle.ppddl_model.specs.WellFormed.{is_type}
use Rattle.ppddl_forms.specs.names.Declarations.{Declared, kind_named}
use Rattle.ppddl_cursor.specs.declared.place.Place.{Place}
use Rattle.ppddl_cursor.specs.Ahead.{Ahead, same, after, is_word, place_of}
use Rattle.ppddl_cursor.specs.Forms.{Form, Forms}
use Rattle.ppddl_cursor.specs.Reading.{Fault, fails, one_at, read_to}
use Rattle.ppddl_cursor.specs.Sequences.{adding, checking, word_or_group}
use Rattle.ppddl_forms.specs.declared.name.Name.{Name}
use Rattle.ppddl_forms.specs.declared.symbols.TheConstants.{DASH, OBJECT}
use Rattle.ppddl_forms.specs.Sequences.{or_word, each_to}
use Rattle.ppddl_forms.specs.Words.{name}
use Rattle.ppddl_forms.specs.items.Sequences.{unsupported}

unfoldable pub object_type : Form → Result Name Fault
object_type = word_or_group name unsupported

abbrev pub has_other : Option (List ℕ) → List ℕ → Bool
has_other None kind = false
has_other (Some known) kind = not (same known kind)

abbrev pub typed_as : List ℕ → Name → ObjectDecl
typed_as kind n = record { name = n.text; kind = kind }

module _ (d : Declared) where
  abbrev pub one_typed : List ℕ → List ObjectDecl → Name → Result (List ObjectDecl) Fault
  one_typed kind done n =
      if has_other (kind_named (d.objects ++ done) n.text) kind then fails Twice n.place else Ok (done ++ typed_as kind n ∷ [])

  abbrev pub all_typed : List ℕ → List ObjectDecl → List Name → Result (List ObjectDecl) Fault
  all_typed kind done [] = Ok done
  all_typed kind done (n ∷ ns) = one_typed kind done n >>= λ more. all_typed kind more ns

  abbrev pub known_type : Name → List ObjectDecl → Result (List ObjectDecl) Fault
  known_type kind done = if is_type d.types kind.text then Ok done else fails UnknownName kind.place

  unfoldable pub typed : List ObjectDecl → List Name → Name → Result (List ObjectDecl) Fault
  typed done waiting kind = all_typed kind.text done waiting >>= known_type kind

-- whether the type of those that wait is next
pub record Listed : Type 0 where
  pub done : List ObjectDecl
  pub waiting : List Name
  pub is_typing : Bool

abbrev pub listed_so : List ObjectDecl → List Name → Bool → Listed
listed_so done waiting is_typing = record { done = done; waiting = waiting; is_typing = is_typing }

-- behind at least one name that waits
abbrev pub at_dash : Listed → Place → Result Listed Fault
at_dash s a = if length s.waiting == 0 then fails Expected a else Ok (listed_so s.done s.waiting true)

unfoldable pub listed_by : Bool → Declared → Listed → Form → Result Listed Fault
listed_by true d s = checking (λ kind. typed d s.done s.waiting kind >>= λ done. Ok (listed_so done [] false)) object_type
listed_by false d s =
    or_word DASH.now (at_dash s) (checking (λ waiting. Ok (listed_so s.done waiting false)) (adding (λ seen. name) s.waiting))

unfoldable pub listed : Declared → Listed → Form → Result Listed Fault
listed d s = listed_by s.is_typing d s

abbrev pub all_listed : Declared → Listed → Place → Result (List ObjectDecl) Fault
all_listed d s b = if s.is_typing then fails Expected b else all_typed d OBJECT.now s.done s.waiting

unfoldable pub objects_behind : Declared → List ObjectDecl → List Name → Forms → Place → Result (List ObjectDecl) Fault
objects_behind d done waiting = each_to (listed d) (all_listed d) (listed_so done waiting false)

abbrev pub objects : Declared → Forms → Place → Result (List ObjectDecl) Fault
objects d = objects_behind d [] []

-- the type behind a `-` that is next, for the names that wait
abbrev pub typing_at : Declared → List ObjectDecl → List Name → Ahead → Result (List ObjectDecl × Ahead) Fault
typing_at d done waiting h =
    if length waiting == 0 then fails Expected (place_of h)
    else (one_at object_type (after h) >>= λ y. typed d done waiting y.0 >>= λ more. read_to more y.1)

-- a name, or a `-` and a type: the objects of the list, and the names that wait
abbrev pub listed_at : Declared → List ObjectDecl → List Name → Ahead → Result ((List ObjectDecl × List Name) × Ahead) Fault
listed_at d done waiting h =
    if is_word DASH.now h then (typing_at d done waiting h >>= λ y. read_to (y.0, []) y.1)
    else (one_at (adding (λ seen. name) waiting) h >>= λ y. read_to (done, y.0) y.1)
