-- The literals of kept instances.
--     kept_of task a        the ways to bind the parameters of an action under which its instance is kept
--     action_texts task a   the texts of the literals of these instances
--     row_texts task a qs row   the texts of those quantified atoms that name a parameter, in the instance of a row
use Rattle.std.specs.Prelude.{ℕ, List, [], filter, flat_map}
use Rattle.ppddl_model.specs.declared.tree.Action.{Action}
use Rattle.ppddl_model.specs.declared.tree.Task.{Task}
use Rattle.ppddl_model.specs.Objects.{Binding, bindings}
use Rattle.ppddl_model.specs.Steps.{world}
use Rattle.task_instances.specs.facts.Facts.{table_of}
use Rattle.task_instances.specs.kept_rows.Kept.{is_kept_under, binding_of_row}
use Rattle.task_instances.specs.declared.quantified_atoms.quantified_atom.QuantifiedAtom.{QuantifiedAtom}
use Rattle.grounder.specs.texts.Texts.{literal_texts, under_texts}

module _ (task : Task) (a : Action) where
  abbrev pub kept_of : List Binding
  kept_of = filter (is_kept_under task a) (bindings (world task) a.params [])

  abbrev pub action_texts : List (List ℕ)
  action_texts = flat_map (λ b. literal_texts (world task) b a.effect) kept_of

  abbrev pub row_texts : List QuantifiedAtom → List ℕ → List (List ℕ)
  row_texts qs row = flat_map (under_texts (world task) (binding_of_row (table_of task) a.params row)) qs
