-- Function terms of effects, each with the quantified variables that it names.
--     has_values w a ps b    whether a function term has a value however these variables are bound on top of b
--     is_valued w q b        whether so has a quantified term
--     is_valued_first w q    so has one that names no parameter of an action, or it names one
--     is_valued_under w b q  so has one that names a parameter, or it names none
--     DecideValues task a qs   the function terms of an action have values exactly where those of these have that name parameters
use Rattle.std.specs.Prelude.{◌≡◌, Bool, not, ◌||◌, List, [], map}
use Rattle.std.specs.List.{list_all}
use Rattle.ppddl_model.specs.declared.tree.Action.{Action}
use Rattle.ppddl_model.specs.declared.tree.Atom.{Atom}
use Rattle.ppddl_model.specs.declared.tree.Param.{Param}
use Rattle.ppddl_model.specs.declared.tree.Task.{Task}
use Rattle.ppddl_model.specs.Objects.{World, Binding, ground_atom, bindings}
use Rattle.ppddl_model.specs.Functions.{has_value, are_valued}
use Rattle.ppddl_model.specs.Steps.{world}
use Rattle.task_instances.specs.declared.quantified_atoms.quantified_atom.QuantifiedAtom.{QuantifiedAtom}
use Rattle.task_instances.specs.quantified_atoms.Quantified.{variables_of, is_settled}

module _ (w : World) where
  abbrev pub has_values : Atom → List Param → Binding → Bool
  has_values a ps b = list_all (has_value w) (map (λ b'. ground_atom b' a) (bindings w ps b))

  abbrev pub is_valued : QuantifiedAtom → Binding → Bool
  is_valued q b = has_values q.atom.now (variables_of q) b

  abbrev pub is_valued_first : QuantifiedAtom → Bool
  is_valued_first q = not (is_settled q) || is_valued q []

  abbrev pub is_valued_under : Binding → QuantifiedAtom → Bool
  is_valued_under b q = is_settled q || is_valued q b

abbrev pub DecideValues : Task → Action → List QuantifiedAtom → Type 0
DecideValues task a qs = (b : Binding) → list_all (is_valued_under (world task) b) qs ≡ are_valued (world task) a.effect b
