use Rattle.std.proofs.Common.{length, ap, arith}
use Rattle.type_table.specs.Above.{rows_of}
use Rattle.type_table.proofs.Rounds.{many_paths}
use Rattle.type_table.proofs.above.Above.count_up.Goals as goal

pub depth-requires-clause-kind : goal.depth-requires-clause-kind
depth-requires-clause-kind c = omega (arith, c.requires.kind, ap (λ a. length (rows_of a)) c.in-Single.is, many_paths c.in-Single.forest)
