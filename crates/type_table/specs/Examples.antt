-- Numbers and cycles, computed.
use Rattle.std.specs.Prelude.{◌≡◌, List, [], ◌∷◌, true, false, None, Some, codes}
use Rattle.std.proofs.Common.{refl}
use Rattle.ppddl_model.specs.declared.tree.TypeDecl.{TypeDecl}
use Rattle.ppddl_model.specs.State.{Name}
use Rattle.type_table.specs.Numbered.{number_of}
use Rattle.type_table.specs.Types.{type_names, has_cycle}

abbrev under_it : Name → Name → TypeDecl
under_it name parent = record { name = name; parent = parent }

-- `car bus - vehicle ship`: the parent is not declared
abbrev garage : List TypeDecl
garage =
    under_it (codes "car") (codes "vehicle") ∷ under_it (codes "bus") (codes "vehicle") ∷ under_it (codes "ship") (codes "object") ∷ []

names_of_the_garage : type_names garage ≡ codes "object" ∷ codes "car" ∷ codes "vehicle" ∷ codes "bus" ∷ codes "ship" ∷ []
names_of_the_garage = refl

a_parent_is_known : number_of (type_names garage) (codes "vehicle") ≡ Some 2
a_parent_is_known = refl

a_plane_is_not : number_of (type_names garage) (codes "plane") ≡ None
a_plane_is_not = refl

no_cycle : has_cycle garage ≡ false
no_cycle = refl

-- `a - b b - c c - a`
three_in_a_cycle : has_cycle (under_it (codes "a") (codes "b") ∷ under_it (codes "b") (codes "c") ∷ under_it (codes "c") (codes "a") ∷ []) ≡ true
three_in_a_cycle = refl

-- `a - a`
its_own_parent : has_cycle (under_it (codes "a") (codes "a") ∷ []) ≡ true
its_own_parent = refl

-- `object - car`: a car is under `object`
object_under_a_car : has_cycle (under_it (codes "object") (codes "car") ∷ []) ≡ true
object_under_a_car = refl

object_alone : has_cycle (under_it (codes "object") (codes "object") ∷ under_it (codes "car") (codes "object") ∷ []) ≡ false
object_alone = refl

-- two parents of one type are no cycle
two_parents : has_cycle (under_it (codes "a") (codes "b") ∷ under_it (codes "a") (codes "c") ∷ under_it (codes "b") (codes "c") ∷ []) ≡ false
two_parents = refl
