-- Which forms spell which declarations of types.
-- Source: PDDL 1.2 (McDermott et al. 1998): the parent of a type stands behind it; where none does, it is `object`.
--     Typed fs ts            types, each with its parent
--     Behind kind fs ts      what stands behind a type of this parent, up to which it goes: more types
--     other_names ts         the names of types but `object`, in order
--     IsTypes d fs ts        types that are new and not their own ancestors; `object` under itself adds nothing
use Rattle.std.specs.Prelude.{◌≡◌, ℕ, Bool, true, false, not, ◌&&◌, List, [], ◌∷◌, ◌++◌, map}
use Rattle.std.specs.List.{filter}
use Rattle.ppddl_model.specs.declared.tree.TypeDecl.{TypeDecl}
use Rattle.ppddl_model.specs.WellFormed.{are_distinct}
use Rattle.ppddl_forms.specs.names.Declarations.{Declared}
use Rattle.ppddl_cursor.specs.declared.place.Place.{Place}
use Rattle.ppddl_cursor.specs.Forms.{Form, Forms, lone, none, more}
use Rattle.type_table.specs.Types.{has_cycle}
use Rattle.ppddl_forms.specs.declared.symbols.TheConstants.{DASH, OBJECT}
use Rattle.ppddl_reader.specs.sections.Types.{is_object}
use Rattle.ppddl_form_grammar.specs.forms.Words.{IsName}

abbrev pub type_of : List ℕ → List ℕ → TypeDecl
type_of kind w = record { name = w; parent = kind }

mutual
  pub data Typed : Forms → List TypeDecl → Type 0 where
    no_type : Typed none []
    first : {f : Form} {fs : Forms} {w kind : List ℕ} {ts : List TypeDecl} → IsName f w → Behind kind fs ts → Typed (more f fs) (type_of kind w ∷ ts)

  pub data Behind : List ℕ → Forms → List TypeDecl → Type 0 where
    untyped : Behind OBJECT.now none []
    another : {f : Form} {fs : Forms} {w kind : List ℕ} {ts : List TypeDecl} → IsName f w → Behind kind fs ts → Behind kind (more f fs) (type_of kind w ∷ ts)
    typed : {a : Place} {f : Form} {fs : Forms} {kind : List ℕ} {ts : List TypeDecl} → IsName f kind → Typed fs ts → Behind kind (more (lone DASH.now a) (more f fs)) ts

abbrev pub is_other : List ℕ → Bool
is_other w = not (is_object w)

abbrev pub other_names : List TypeDecl → List (List ℕ)
other_names ts = filter is_other (map (λ (t : TypeDecl). t.name) ts)

-- not `object` under itself
abbrev pub is_kept : TypeDecl → Bool
is_kept t = not (is_object t.name && is_object t.parent)

pub record IsTypes (d : Declared) (fs : Forms) (ts : List TypeDecl) : Type 0 where
  pub listed : List TypeDecl
  pub typed : Typed fs listed
  pub distinct : are_distinct (other_names listed) ≡ true
  pub kept : ts ≡ filter is_kept listed
  pub acyclic : has_cycle (d.types ++ ts) ≡ false
