-- Names and variables, computed.
use Rattle.std.specs.Prelude.{◌≡◌, List, [], ◌∷◌, true, false, None, Some, codes}
use Rattle.std.proofs.Common.{refl}
use Rattle.ppddl_model.specs.declared.tree.ObjectDecl.{ObjectDecl}
use Rattle.ppddl_model.specs.declared.tree.Param.{Param}
use Rattle.ppddl_model.specs.State.{Name}
use Rattle.ppddl_forms.specs.names.Declarations.{Declared, nothing, with_types, with_objects, world_of, kind_named, kinds_fit}
use Rattle.ppddl_forms.specs.names.Sight.{kinds_in}

abbrev object : Name → Name → ObjectDecl
object name kind = record { name = name; kind = kind }

abbrev variable : Name → List Name → Param
variable name kinds = record { name = name; kinds = kinds }

-- `:types bus - car ship`, and `:objects c1 - car b1 - bus c1 - ship`
abbrev garage : Declared
garage = with_objects (with_types nothing (record { name = codes "bus"; parent = codes "car" } ∷ record { name = codes "ship"; parent = codes "object" } ∷ []))
    (object (codes "c1") (codes "car") ∷ object (codes "b1") (codes "bus") ∷ object (codes "c1") (codes "ship") ∷ [])

first_declaration : kind_named garage.objects (codes "c1") ≡ Some (codes "car")
first_declaration = refl

not_declared : kind_named garage.objects (codes "d1") ≡ None
not_declared = refl

-- an argument of type `(either bus ship)` fits where each of both does
either_fits : kinds_fit (world_of garage) (codes "bus" ∷ codes "ship" ∷ []) (variable (codes "?x") (codes "ship" ∷ codes "car" ∷ [])) ≡ true
either_fits = refl

either_does_not_fit : kinds_fit (world_of garage) (codes "bus" ∷ codes "ship" ∷ []) (variable (codes "?x") (codes "car" ∷ [])) ≡ false
either_does_not_fit = refl

-- `?x - ship` within `?x - car ?y - bus`
inner_hides_outer : kinds_in ((variable (codes "?x") (codes "ship" ∷ []) ∷ []) ∷ (variable (codes "?x") (codes "car" ∷ []) ∷ variable (codes "?y") (codes "bus" ∷ []) ∷ []) ∷ []) (codes "?x")
    ≡ Some (codes "ship" ∷ [])
inner_hides_outer = refl
