-- What names and scopes say in the words of well-formed tasks, as statements.
--     VariablesAreInSight      the types of a variable are those of the first of its name in sight
--     ObjectsAreDeclared       an object has one type, that of its first declaration
--     ArgumentsFit             a term fits a parameter where it has types that fit it
use Rattle.std.specs.Prelude.{◌≡◌, false, List, [], ◌∷◌, None, Some}
use Rattle.std.specs.Option.{option_map}
use Rattle.ppddl_model.specs.declared.tree.Param.{Param}
use Rattle.ppddl_model.specs.declared.tree.Term.{Term}
use Rattle.ppddl_model.specs.declared.tree.Term.TheVariants.{Variable, Object}
use Rattle.ppddl_model.specs.Objects.{World}
use Rattle.ppddl_model.specs.State.{Name}
use Rattle.ppddl_model.specs.WellFormed.{kinds_of, fits}
use Rattle.ppddl_forms.specs.names.Declarations.{Declared, world_of, kind_named, kinds_fit}
use Rattle.ppddl_forms.specs.names.Sight.{in_sight, kinds_in}

abbrev pub VariablesAreInSight : Type 0
VariablesAreInSight = (w : World) (scope : List (List Param)) (v : Name)
    → kinds_of w (in_sight scope) (Variable v) ≡ kinds_in scope v

abbrev pub ObjectsAreDeclared : Type 0
ObjectsAreDeclared = (d : Declared) (scope : List Param) (o : Name)
    → kinds_of (world_of d) scope (Object o) ≡ option_map (λ kind. kind ∷ []) (kind_named d.objects o)

abbrev pub ArgumentsFit : Type 0
ArgumentsFit = (w : World) (scope : List Param) (t : Term) (p : Param)
    → fits w scope t p ≡ elim (kinds_of w scope t) [ None ↦ false | Some kinds ↦ kinds_fit w kinds p ]
