-- What was declared so far fits, and what a section adds to it.
--     IsFit d                 types, objects, predicates and functions that were declared meet what a well-formed task asks of them
--     with_predicates d ps    predicates behind those that were declared, `with_functions` the same of functions
--     DeclaresTypes d e       e is d with more types, and nothing else
--     DeclaresPredicates d e  the same with more predicates, `DeclaresFunctions` with more functions
use Rattle.std.specs.Prelude.{◌≡◌, IsTrue, List, ◌++◌}
use Rattle.ppddl_model.specs.declared.tree.PredicateDecl.{PredicateDecl}
use Rattle.ppddl_model.specs.declared.tree.TypeDecl.{TypeDecl}
use Rattle.ppddl_model.specs.WellFormed.{types_fit, objects_fit, declarations_fit}
use Rattle.ppddl_forms.specs.names.Declarations.{Declared, with_types}

pub record IsFit (d : Declared) : Type 0 where
  pub types : IsTrue (types_fit d.types)
  pub objects : IsTrue (objects_fit d.types d.objects)
  pub predicates : IsTrue (declarations_fit d.types d.predicates)
  pub functions : IsTrue (declarations_fit d.types d.functions)

abbrev pub with_predicates : Declared → List PredicateDecl → Declared
with_predicates d predicates = record d { predicates = d.predicates ++ predicates }

abbrev pub with_functions : Declared → List PredicateDecl → Declared
with_functions d functions = record d { functions = d.functions ++ functions }

abbrev pub DeclaresTypes : Declared → Declared → Type 0
DeclaresTypes d e = (more : List TypeDecl) × (e ≡ with_types d more)

abbrev pub DeclaresPredicates : Declared → Declared → Type 0
DeclaresPredicates d e = (more : List PredicateDecl) × (e ≡ with_predicates d more)

abbrev pub DeclaresFunctions : Declared → Declared → Type 0
DeclaresFunctions d e = (more : List PredicateDecl) × (e ≡ with_functions d more)
