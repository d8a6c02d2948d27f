-- Names in lower case.
--     is_lower_name w       a name that has no letter in upper case, as certificates spell names
--     IsLower f             each word of the form is in lower case, `AreLower fs` of each form
--     HaveLowerNames d      types, objects, predicates and functions that were declared have such names
use Rattle.std.specs.Prelude.{◌≡◌, ℕ, Bool, ◌&&◌, IsTrue, List}
use Rattle.std.specs.List.{list_all}
use Rattle.ppddl_lex.specs.Words.{lowered, is_name, is_same_word}
use Rattle.ppddl_model.specs.declared.tree.ObjectDecl.{ObjectDecl}
use Rattle.ppddl_model.specs.declared.tree.PredicateDecl.{PredicateDecl}
use Rattle.ppddl_model.specs.declared.tree.TypeDecl.{TypeDecl}
use Rattle.ppddl_forms.specs.names.Declarations.{Declared}
use Rattle.ppddl_cursor.specs.Forms.{Form, Forms, lone, group, none, more}

-- a name that is the same word once its letters are lowered
abbrev pub is_lower_name : List ℕ → Bool
is_lower_name w = is_name w && is_same_word w w

abbrev mutual
  pub IsLower : Form → Type 0
  IsLower (lone w a) = lowered w ≡ w
  IsLower (group a fs b) = AreLower fs

  pub AreLower : Forms → Type 0
  AreLower none = Unit {0}
  AreLower (more f fs) = IsLower f × AreLower fs

abbrev pub is_named_type : TypeDecl → Bool
is_named_type t = is_lower_name t.name && is_lower_name t.parent

abbrev pub is_named_object : ObjectDecl → Bool
is_named_object o = is_lower_name o.name

-- of a predicate or a function
abbrev pub is_named : PredicateDecl → Bool
is_named p = is_lower_name p.name

pub record HaveLowerNames (d : Declared) : Type 0 where
  pub types : IsTrue (list_all is_named_type d.types)
  pub objects : IsTrue (list_all is_named_object d.objects)
  pub predicates : IsTrue (list_all is_named d.predicates)
  pub functions : IsTrue (list_all is_named d.functions)
