-- The names of declared objects.
--     object_name o    the name of an object
use Rattle.ppddl_model.specs.declared.tree.ObjectDecl.{ObjectDecl}
use Rattle.ppddl_model.specs.State.{Name}

abbrev pub object_name : ObjectDecl → Name
object_name o = o.name
