use Rattle.std.proofs.Common.{◌≡◌, [], ◌++◌, map, drop}
use Rattle.std.specs.Option.{option_map}
use Rattle.ppddl_model.specs.Objects.{named, ground_atom}
use Rattle.type_table.specs.Types.{object_names}
use Rattle.task_instances.specs.fact_rows.Rows.{numbers_of, row_of}
use Rattle.task_instances.proofs.fact_rows.atom_rows.row_of.Given as goal

abbrev pub invariant-loop-term : goal.invariant-loop-term
invariant-loop-term l =
    option_map (λ more. l.row.items ++ more) (numbers_of (object_names l.table) (map (named []) (drop l.term-index l.term-items)))
    ≡ row_of l.names l.table (ground_atom [] l.atom)
