use Rattle.std.proofs.Common.{nat_eq, take}
use Rattle.std.specs.List.{IsDistinct}
use Rattle.type_table.specs.Rows.{Adds}
use Rattle.type_table.proofs.closure.add_all.Given as goal

abbrev pub invariant-loop-number : goal.invariant-loop-number
invariant-loop-number l = record {
  added : Adds l.fn.seen.keys (take l.number-index l.numbers) l.seen.keys;
  distinct : IsDistinct nat_eq l.seen.keys;
}
