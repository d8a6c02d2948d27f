-- Names of actions.
--     names_of actions    their names, in order
use Rattle.std.specs.Prelude.{ℕ, List, map}
use Rattle.ppddl_model.specs.declared.tree.Action.{Action}

abbrev pub names_of : List Action → List (List ℕ)
names_of actions = map (λ (a : Action). a.name) actions
