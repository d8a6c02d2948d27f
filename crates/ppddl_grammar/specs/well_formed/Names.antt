-- The names of a task that certificates spell.
--     named_of task            types, objects, predicates and functions that the whole task declares
--     HasLowerNames task       these and its actions have names in lower case
use Rattle.std.specs.Prelude.{IsTrue, Bool, ◌++◌}
use Rattle.std.specs.List.{list_all}
use Rattle.ppddl_model.specs.declared.tree.Action.{Action}
use Rattle.ppddl_model.specs.declared.tree.Task.{Task}
use Rattle.ppddl_forms.specs.names.Declarations.{Declared}
use Rattle.ppddl_grammar.specs.fits.Names.{is_lower_name, HaveLowerNames}

abbrev pub named_of : Task → Declared
named_of task = record {
  types = task.domain.types;
  objects = task.domain.constants ++ task.problem.objects;
  predicates = task.domain.predicates;
  functions = task.domain.functions;
}

abbrev pub is_named_action : Action → Bool
is_named_action a = is_lower_name a.name

pub record HasLowerNames (task : Task) : Type 0 where
  pub declared : HaveLowerNames (named_of task)
  pub actions : IsTrue (list_all is_named_action task.domain.actions)
