-- What texts have declared so far, and what a name stands for.
-- Sources: PDDL 1.2 (McDermott et al. 1998) for declarations, PDDL 2.1 (Fox and Long 2003) for types and functions.
--     Declared                   types, objects, predicates and functions, each in the order of the text, repeats kept
--     nothing                    nothing declared
--     with_types d types         behind what was declared: types; the same for objects, a predicate and a function
--     world_of d                 its types and objects, each object once
--     kind_named objects o       the type of the first object of a name
--     predicate_named ds name    the first predicate, or function, of a name
--     kinds_fit w kinds p        each of an argument's types is, or is under, one of the parameter's
use Rattle.std.specs.Prelude.{Bool, List, [], ◌∷◌, ◌++◌, Option}
use Rattle.std.specs.List.{find, list_any, list_all}
use Rattle.std.specs.Option.{option_map}
use Rattle.ppddl_model.specs.declared.tree.ObjectDecl.{ObjectDecl}
use Rattle.ppddl_model.specs.declared.tree.Param.{Param}
use Rattle.ppddl_model.specs.declared.tree.PredicateDecl.{PredicateDecl}
use Rattle.ppddl_model.specs.declared.tree.TypeDecl.{TypeDecl}
use Rattle.ppddl_model.specs.State.{Name, same_name}
use Rattle.ppddl_model.specs.Objects.{World, once, is_under}

pub record Declared : Type 0 where
  pub types : List TypeDecl
  pub objects : List ObjectDecl
  pub predicates : List PredicateDecl
  pub functions : List PredicateDecl

abbrev pub nothing : Declared
nothing = record { types = []; objects = []; predicates = []; functions = [] }

-- ---- one section more

abbrev pub with_types : Declared → List TypeDecl → Declared
with_types d types = record d { types = d.types ++ types }

abbrev pub with_objects : Declared → List ObjectDecl → Declared
with_objects d objects = record d { objects = d.objects ++ objects }

abbrev pub with_predicate : Declared → PredicateDecl → Declared
with_predicate d predicate = record d { predicates = d.predicates ++ predicate ∷ [] }

abbrev pub with_function : Declared → PredicateDecl → Declared
with_function d function = record d { functions = d.functions ++ function ∷ [] }

-- ---- what a name stands for

abbrev pub world_of : Declared → World
world_of d = record { types = d.types; objects = once d.objects; values = [] }

abbrev pub kind_named : List ObjectDecl → Name → Option Name
kind_named objects o = option_map (λ (x : ObjectDecl). x.kind) (find (λ (x : ObjectDecl). same_name x.name o) objects)

abbrev pub predicate_named : List PredicateDecl → Name → Option PredicateDecl
predicate_named ds name = find (λ (d : PredicateDecl). same_name d.name name) ds

-- ---- types that fit

abbrev pub kinds_fit : World → List Name → Param → Bool
kinds_fit w kinds p = list_all (λ kind. list_any (is_under w kind) p.kinds) kinds
