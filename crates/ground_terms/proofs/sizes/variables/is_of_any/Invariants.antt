use Rattle.std.proofs.Common.{◌≡◌, drop}
use Rattle.std.specs.List.{list_any}
use Rattle.ppddl_model.specs.Objects.{is_under}
use Rattle.type_table.specs.Types.{kind_at}
use Rattle.ground_terms.proofs.sizes.variables.is_of_any.Given as goal

abbrev pub invariant-loop-kind : goal.invariant-loop-kind
invariant-loop-kind l =
    list_any (is_under l.table (kind_at l.table l.object)) (drop l.kind-index l.kinds)
    ≡ list_any (is_under l.table (kind_at l.table l.object)) l.kinds
