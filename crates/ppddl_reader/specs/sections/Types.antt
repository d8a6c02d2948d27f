-- `:types`.
-- Source: PDDL 1.2 (McDermott et al. 1998): the parent of a type stands behind it; where none does, it is `object`. A parent need not be
-- declared.
--     ListedTypes            the names so far but `object`, the types that have their parents, and the names that wait for theirs
--     another_type s         one name more; a type is declared once
--     all_under kind ts ws   types under one parent, behind others; `object` under itself adds nothing
--     types_under s          the parent of those that wait
--     types d                groups `NAME+ - NAME`, and then NAME*; no type is its own ancestor, which is judged at the end
use Rattle.std.specs.Prelude.{ℕ, List, [], ◌∷◌, ◌++◌, length, Bool, ◌&&◌, ◌==◌, if◌then◌else◌, Result, Ok}
use Rattle.std.specs.List.{list_any}
use Rattle.plain_list.specs.Results.{◌>>=◌}
use Rattle.ppddl_model.specs.declared.refusal.TextCode.TheVariants.{Expected, Twice, TypeCycle}
use Rattle.ppddl_model.specs.declared.tree.TypeDecl.{TypeDecl}
use Rattle.ppddl_forms.specs.names.Declarations.{Declared, with_types}
use Rattle.ppddl_cursor.specs.declared.place.Place.{Place}
use Rattle.ppddl_cursor.specs.Ahead.{Ahead, same, after, place_of}
use Rattle.ppddl_cursor.specs.Forms.{Form, Forms}
use Rattle.ppddl_cursor.specs.Reading.{Fault, fails, one_at}
use Rattle.ppddl_cursor.specs.Sequences.{checking, word_or_group}
use Rattle.type_table.specs.Types.{has_cycle}
use Rattle.ppddl_forms.specs.declared.name.Name.{Name}
use Rattle.ppddl_forms.specs.declared.symbols.TheConstants.{OBJECT}
use Rattle.ppddl_forms.specs.Words.{name}
use Rattle.ppddl_forms.specs.items.Sequences.{unsupported}
use Rattle.ppddl_reader.specs.sections.Sequences.{typed_list}

pub record ListedTypes : Type 0 where
  pub seen : List (List ℕ)
  pub done : List TypeDecl
  pub waiting : List (List ℕ)

abbrev pub no_types : ListedTypes
no_types = record { seen = []; done = []; waiting = [] }

abbrev pub is_object : List ℕ → Bool
is_object w = same w OBJECT.now

abbrev pub with_waiting : ListedTypes → List ℕ → ListedTypes
with_waiting s w = record { seen = s.seen; done = s.done; waiting = s.waiting ++ w ∷ [] }

abbrev pub with_seen : ListedTypes → List ℕ → ListedTypes
with_seen s w = record { seen = s.seen ++ w ∷ []; done = s.done; waiting = s.waiting }

-- `object` may be named again
abbrev pub seen_type : ListedTypes → Name → Result ListedTypes Fault
seen_type s n =
    if is_object n.text then Ok s
    else if list_any (same n.text) s.seen then fails Twice n.place
    else Ok (with_seen s n.text)

abbrev pub new_type : ListedTypes → Name → Result ListedTypes Fault
new_type s n = seen_type s n >>= λ t. Ok (with_waiting t n.text)

unfoldable pub another_type : ListedTypes → Form → Result ListedTypes Fault
another_type s = checking (new_type s) name

-- behind at least one name that waits
abbrev pub types_wait : ListedTypes → Place → Result (Unit {0}) Fault
types_wait s a = if length s.waiting == 0 then fails Expected a else Ok tt

abbrev pub under : List ℕ → List ℕ → List TypeDecl
under kind w = if is_object w && is_object kind then [] else record { name = w; parent = kind } ∷ []

abbrev pub all_under : List ℕ → List TypeDecl → List (List ℕ) → List TypeDecl
all_under kind done [] = done
all_under kind done (w ∷ ws) = all_under kind (done ++ under kind w) ws

abbrev pub with_parent : List ℕ → ListedTypes → ListedTypes
with_parent kind s = record { seen = s.seen; done = all_under kind s.done s.waiting; waiting = [] }

-- a choice of parents is not accepted
unfoldable pub parent_type : Form → Result Name Fault
parent_type = word_or_group name unsupported

unfoldable pub types_under : ListedTypes → Form → Result ListedTypes Fault
types_under s = checking (λ n. Ok (with_parent n.text s)) parent_type

-- types behind those declared before, of which none is its own ancestor
abbrev pub acyclic : Declared → List TypeDecl → Place → Result Declared Fault
acyclic d types b = if has_cycle (d.types ++ types) then fails TypeCycle b else Ok (with_types d types)

-- a `-` that is next, and the parent behind it
abbrev pub typing_at : ListedTypes → Ahead → Result (ListedTypes × Ahead) Fault
typing_at s h = types_wait s (place_of h) >>= λ u. one_at (types_under s) (after h)

abbrev pub all_types : Declared → ListedTypes → Place → Result Declared Fault
all_types d s b = acyclic d (all_under OBJECT.now s.done s.waiting) b

abbrev pub types_behind : Declared → ListedTypes → Forms → Place → Result Declared Fault
types_behind d = typed_list another_type types_wait types_under (all_types d)

abbrev pub types : Declared → Forms → Place → Result Declared Fault
types d = types_behind d no_types
