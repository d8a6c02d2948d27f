-- One more initial state.
use Rattle.std.proofs.Common.{◌∙◌, arith}
use Rattle.certificate_check.proofs.lemmas.row_check.Totals.{start_fits, start_more, start_total}
use Rattle.certificate_check.proofs.row_check.sums.start_sums.Goals as goal

pub overflow_add-lower : goal.overflow_add-lower
overflow_add-lower g c =
    omega (
      arith,
      start_fits c.args.problem.now c.starts-start-items.ensures.valid c.starts-start-items.result.now
          c.loop-start.invariant.same c.loop-start.start-index c.start-item.result c.loop-start-test.true c.start-item.is
          (g.R.Reading.low c.args.reading.now) c.loop-start.lower c.from-weight.result c.from.result c.from-weight.ensures
          (c.from.ensures ∙ c.read-bounds.ensures.lower) (omega (arith, c.from.ensures, c.read-bounds.type_inv))
          c.loop-start.invariant.lower,
    )

pub overflow_add-upper : goal.overflow_add-upper
overflow_add-upper g c =
    omega (
      arith,
      start_fits c.args.problem.now c.starts-start-items.ensures.valid c.starts-start-items.result.now
          c.loop-start.invariant.same c.loop-start.start-index c.start-item.result c.loop-start-test.true c.start-item.is
          (g.R.Reading.high c.args.reading.now) c.loop-start.upper c.from-weight.result c.from-in-loop-start.result
          c.from-weight.ensures (c.from-in-loop-start.ensures ∙ c.read-bounds.ensures.upper)
          (omega (arith, c.from-in-loop-start.ensures, c.read-bounds.type_inv)) c.loop-start.invariant.upper,
    )

pub loop-start-preserved : goal.loop-start-preserved
loop-start-preserved g c = record {
  same = c.loop-start.invariant.same;
  lower = start_more c.args.problem.now c.starts-start-items.ensures.valid c.starts-start-items.result.now
      c.loop-start.invariant.same c.loop-start.start-index c.start-item.result c.loop-start-test.true c.start-item.is
      (g.R.Reading.low c.args.reading.now) c.loop-start.lower c.from-weight.result c.from.result c.from-weight.ensures
      (c.from.ensures ∙ c.read-bounds.ensures.lower) (omega (arith, c.from.ensures, c.read-bounds.type_inv))
      c.loop-start.invariant.lower;
  upper = start_more c.args.problem.now c.starts-start-items.ensures.valid c.starts-start-items.result.now
      c.loop-start.invariant.same c.loop-start.start-index c.start-item.result c.loop-start-test.true c.start-item.is
      (g.R.Reading.high c.args.reading.now) c.loop-start.upper c.from-weight.result c.from-in-loop-start.result
      c.from-weight.ensures (c.from-in-loop-start.ensures ∙ c.read-bounds.ensures.upper)
      (omega (arith, c.from-in-loop-start.ensures, c.read-bounds.type_inv)) c.loop-start.invariant.upper;
}

pub returns-clause-lower : goal.returns-clause-lower
returns-clause-lower g c =
    start_total c.args.problem.now (g.R.Reading.low c.args.reading.now) c.starts-start-items.result.now
    c.loop-start.start-index c.loop-start.lower c.loop-start.invariant.same c.loop-start-test.false c.loop-start.invariant.lower

pub returns-clause-upper : goal.returns-clause-upper
returns-clause-upper g c =
    start_total c.args.problem.now (g.R.Reading.high c.args.reading.now) c.starts-start-items.result.now
    c.loop-start.start-index c.loop-start.upper c.loop-start.invariant.same c.loop-start-test.false c.loop-start.invariant.upper
