-- No entry makes the word greater than the first one.
use Rattle.std.proofs.Common.{arith}
use Rattle.core_run.proofs.Entries.{upper-le_first}
use Rattle.core_run.proofs.reading.seen_upper.Goals as goal

pub loop-entry-init : goal.loop-entry-init
loop-entry-init c = record {
  bounded = omega arith;
  rest = omega (arith, upper-le_first c.args.board.now.ids.items c.args.first c.args.seen.now c.args.state.now);
}
