-- Worlds with other values of functions.
--     with_values w values    the same types and objects with these values
use Rattle.std.specs.Prelude.{List}
use Rattle.ppddl_model.specs.declared.tree.ValueItem.{ValueItem}
use Rattle.ppddl_model.specs.Objects.{World}

abbrev pub with_values : World → List ValueItem → World
with_values w values = record { types = w.types; objects = w.objects; values = values }
