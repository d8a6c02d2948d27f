use Rattle.std.proofs.Common.{subst, sym, take, ◌+◌}
use Rattle.type_table.specs.Rows.{Adds}
use Rattle.type_table.proofs.RowSteps.{adds_nothing, adds_one_more}
use Rattle.type_table.proofs.closure.add_all.Goals as goal

pub loop-number-init : goal.loop-number-init
loop-number-init c = record { added = adds_nothing c.args.seen.now.keys; distinct = c.requires }

pub loop-number-preserved : goal.loop-number-preserved
loop-number-preserved c = record {
  added = subst (Adds c.args.seen.now.keys (take (c.loop-number.number-index + 1) c.args.numbers.now)) (sym c.in_ok-add.ensures.keys)
      (adds_one_more c.args.seen.now.keys c.args.numbers.now c.loop-number.seen.keys c.loop-number.number-index c.loop-number-test.true c.loop-number.invariant.added);
  distinct = c.in_ok-add.ensures.distinct;
}
