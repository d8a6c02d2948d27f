-- The first of the conditions that fails, by the sides.
use Rattle.std.proofs.Common.{arith}
use Rattle.std.proofs.lemmas.Bool.{iff_false}
use Rattle.ground_model.specs.Steps.{ground_process}
use Rattle.ground_model.proofs.Steps.{den_positive}
use Rattle.certificate_check.proofs.lemmas.row_check.Sides.{lower_law, right_by, upper_by}
use Rattle.certificate_check.proofs.row_check.row.row_fault.Goals as goal

pub returns-then-claim-sides-clause-fault : goal.returns-then-claim-sides-clause-fault
returns-then-claim-sides-clause-fault g c =
    let p = ground_process c.args.index.now in
    let low = g.R.Reading.low c.args.reading.now in
    let high = g.R.Reading.high c.args.reading.now in
    let s = c.args.state.now in
    let sides = c.sides_at-sides.ensures.sides in
    let positive = den_positive c.args.index.now c.sides_at-sides.ensures.valid in (
      right_by p high s c.args.claim.act c.sides_at-sides.result.least_upper c.in-Some.least c.in-Some.is sides.least_upper,
      (λ follows.
          let within = (lower_law p positive low s c.args.claim.lower).0 follows in
          let above = c.if-claim-sides.true in
          absurd (omega (arith, within, above, sides.greatest_lower))),
    )

pub returns-then-not-has_upper_within-clause-fault : goal.returns-then-not-has_upper_within-clause-fault
returns-then-not-has_upper_within-clause-fault g c =
    let p = ground_process c.args.index.now in
    let low = g.R.Reading.low c.args.reading.now in
    let high = g.R.Reading.high c.args.reading.now in
    let s = c.args.state.now in
    let sides = c.sides_at-sides.ensures.sides in
    let positive = den_positive c.args.index.now c.sides_at-sides.ensures.valid in (
      right_by p high s c.args.claim.act c.sides_at-sides.result.least_upper c.in-Some.least c.in-Some.is sides.least_upper,
      (lower_law p positive low s c.args.claim.lower).1 (omega (arith, c.if-claim-sides.false, sides.greatest_lower)),
      iff_false (upper_by p positive high s c.args.claim.act c.args.claim.upper c.sides_at-sides.result.least_upper c.in-Some.least
          c.has_upper_within.result c.in-Some.is sides.least_upper c.has_upper_within.ensures) c.if-not-has_upper_within.true,
    )

pub returns-clause-fault : goal.returns-clause-fault
returns-clause-fault g c =
    let p = ground_process c.args.index.now in
    let low = g.R.Reading.low c.args.reading.now in
    let high = g.R.Reading.high c.args.reading.now in
    let s = c.args.state.now in
    let sides = c.sides_at-sides.ensures.sides in
    let positive = den_positive c.args.index.now c.sides_at-sides.ensures.valid in (
      right_by p high s c.args.claim.act c.sides_at-sides.result.least_upper c.in-Some.least c.in-Some.is sides.least_upper,
      (lower_law p positive low s c.args.claim.lower).1 (omega (arith, c.if-claim-sides.false, sides.greatest_lower)),
      (upper_by p positive high s c.args.claim.act c.args.claim.upper c.sides_at-sides.result.least_upper c.in-Some.least
          c.has_upper_within.result c.in-Some.is sides.least_upper c.has_upper_within.ensures).0 c.if-not-has_upper_within.false,
    )
