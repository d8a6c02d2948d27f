use Rattle.std.proofs.Common.{map}
use Rattle.type_table.specs.Reading.{items_of}
use Rattle.type_table.proofs.Rounds.{AreOnly}
use Rattle.type_table.proofs.parents.only_parents.Given as goal

abbrev pub invariant-loop-kind : goal.invariant-loop-kind
invariant-loop-kind l = AreOnly (map items_of l.rows) l.kind l.parents.items
