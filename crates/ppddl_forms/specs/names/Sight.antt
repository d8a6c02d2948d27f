-- Variables in sight.
-- Source: PDDL 2.1 (Fox and Long 2003): a quantified variable hides one of its name further out.
--     in_sight scope             the variables of lists of which the innermost comes first
--     kinds_in scope v           the types of a variable, by the first of its name in sight
use Rattle.std.specs.Prelude.{List, [], ◌∷◌, ◌++◌, Option}
use Rattle.std.specs.List.{find}
use Rattle.std.specs.Option.{option_map}
use Rattle.ppddl_model.specs.declared.tree.Param.{Param}
use Rattle.ppddl_model.specs.State.{Name, same_name}

abbrev pub in_sight : List (List Param) → List Param
in_sight [] = []
in_sight (params ∷ scope) = params ++ in_sight scope

abbrev pub kinds_in : List (List Param) → Name → Option (List Name)
kinds_in scope v = option_map (λ (p : Param). p.kinds) (find (λ (p : Param). same_name p.name v) (in_sight scope))
