-- One more choice.
use Rattle.std.proofs.Common.{length, ap, ◌∙◌, arith}
use Rattle.ground_model.specs.Packed.{has_bit}
use Rattle.ground_model.specs.Choices.{after}
use Rattle.ground_model.proofs.Packed.{length-packed}
use Rattle.ground_step.proofs.Outcomes.{cost_within}
use Rattle.certificate_check.proofs.lemmas.row_check.Totals.{turn_choice, turn_fits, turn_cost, cost_all}
use Rattle.certificate_check.proofs.row_check.sums.action_sums.Goals as goal

pub apply-requires-clause-cost : goal.apply-requires-clause-cost
apply-requires-clause-cost g c =
    cost_within c.args.atoms c.choice-item.result
    (turn_choice c.args.atoms c.args.action.now c.requires.action c.args.state.now c.as_slice-choice-items.result.now
    c.loop-choice.invariant.same c.loop-choice.choice-index c.choice-item.result c.loop-choice-test.true c.choice-item.is)
    (has_bit c.args.state.now)

pub overflow_mul-lower : goal.overflow_mul-lower
overflow_mul-lower g c =
    omega (
      arith,
      turn_fits c.args.atoms c.args.action.now c.requires.action c.args.state.now c.as_slice-choice-items.result.now
          c.loop-choice.invariant.same c.loop-choice.choice-index c.choice-item.result c.loop-choice-test.true c.choice-item.is
          (g.R.Reading.low c.args.reading.now) c.apply.new.into c.loop-choice.lower c.from-weight.result c.from-cost.result
          c.from.result c.from-weight.ensures (c.from-cost.ensures ∙ c.apply.ensures.cost) c.apply.ensures.next
          (c.from.ensures ∙ c.read_next-bounds.ensures.lower) (omega (arith, c.from.ensures, c.read_next-bounds.type_inv))
          c.loop-choice.invariant.lower,
    )

pub overflow_add-lower-in-loop-choice : goal.overflow_add-lower-in-loop-choice
overflow_add-lower-in-loop-choice g c =
    omega (
      arith,
      turn_fits c.args.atoms c.args.action.now c.requires.action c.args.state.now c.as_slice-choice-items.result.now
          c.loop-choice.invariant.same c.loop-choice.choice-index c.choice-item.result c.loop-choice-test.true c.choice-item.is
          (g.R.Reading.low c.args.reading.now) c.apply.new.into c.loop-choice.lower c.from-weight.result c.from-cost.result
          c.from.result c.from-weight.ensures (c.from-cost.ensures ∙ c.apply.ensures.cost) c.apply.ensures.next
          (c.from.ensures ∙ c.read_next-bounds.ensures.lower) (omega (arith, c.from.ensures, c.read_next-bounds.type_inv))
          c.loop-choice.invariant.lower,
    )

pub overflow_mul-upper : goal.overflow_mul-upper
overflow_mul-upper g c =
    omega (
      arith,
      turn_fits c.args.atoms c.args.action.now c.requires.action c.args.state.now c.as_slice-choice-items.result.now
          c.loop-choice.invariant.same c.loop-choice.choice-index c.choice-item.result c.loop-choice-test.true c.choice-item.is
          (g.R.Reading.high c.args.reading.now) c.apply.new.into c.loop-choice.upper c.from-weight.result c.from-cost.result
          c.from-in-loop-choice.result c.from-weight.ensures (c.from-cost.ensures ∙ c.apply.ensures.cost) c.apply.ensures.next
          (c.from-in-loop-choice.ensures ∙ c.read_next-bounds.ensures.upper)
          (omega (arith, c.from-in-loop-choice.ensures, c.read_next-bounds.type_inv)) c.loop-choice.invariant.upper,
    )

pub overflow_add-upper-in-loop-choice : goal.overflow_add-upper-in-loop-choice
overflow_add-upper-in-loop-choice g c =
    omega (
      arith,
      turn_fits c.args.atoms c.args.action.now c.requires.action c.args.state.now c.as_slice-choice-items.result.now
          c.loop-choice.invariant.same c.loop-choice.choice-index c.choice-item.result c.loop-choice-test.true c.choice-item.is
          (g.R.Reading.high c.args.reading.now) c.apply.new.into c.loop-choice.upper c.from-weight.result c.from-cost.result
          c.from-in-loop-choice.result c.from-weight.ensures (c.from-cost.ensures ∙ c.apply.ensures.cost) c.apply.ensures.next
          (c.from-in-loop-choice.ensures ∙ c.read_next-bounds.ensures.upper)
          (omega (arith, c.from-in-loop-choice.ensures, c.read_next-bounds.type_inv)) c.loop-choice.invariant.upper,
    )

pub loop-choice-preserved : goal.loop-choice-preserved
loop-choice-preserved g c = record {
  same = c.loop-choice.invariant.same;
  long = ap length c.apply.ensures.next
      ∙ length-packed (after (has_bit c.args.state.now) c.choice-item.result) (length c.args.state.now);
  lower = turn_cost c.args.atoms c.args.action.now c.requires.action c.args.state.now c.as_slice-choice-items.result.now
      c.loop-choice.invariant.same c.loop-choice.choice-index c.choice-item.result c.loop-choice-test.true c.choice-item.is
      (g.R.Reading.low c.args.reading.now) c.apply.new.into c.loop-choice.lower c.from-weight.result c.from-cost.result
      c.from.result c.from-weight.ensures (c.from-cost.ensures ∙ c.apply.ensures.cost) c.apply.ensures.next
      (c.from.ensures ∙ c.read_next-bounds.ensures.lower) (omega (arith, c.from.ensures, c.read_next-bounds.type_inv))
      c.loop-choice.invariant.lower;
  upper = turn_cost c.args.atoms c.args.action.now c.requires.action c.args.state.now c.as_slice-choice-items.result.now
      c.loop-choice.invariant.same c.loop-choice.choice-index c.choice-item.result c.loop-choice-test.true c.choice-item.is
      (g.R.Reading.high c.args.reading.now) c.apply.new.into c.loop-choice.upper c.from-weight.result c.from-cost.result
      c.from-in-loop-choice.result c.from-weight.ensures (c.from-cost.ensures ∙ c.apply.ensures.cost) c.apply.ensures.next
      (c.from-in-loop-choice.ensures ∙ c.read_next-bounds.ensures.upper)
      (omega (arith, c.from-in-loop-choice.ensures, c.read_next-bounds.type_inv)) c.loop-choice.invariant.upper;
}

pub returns-clause-lower : goal.returns-clause-lower
returns-clause-lower g c =
    cost_all (g.R.Reading.low c.args.reading.now) c.args.action.now c.args.state.now c.as_slice-choice-items.result.now
    c.loop-choice.choice-index c.loop-choice.lower c.loop-choice.invariant.same c.loop-choice-test.false
    c.loop-choice.invariant.lower

pub returns-clause-upper : goal.returns-clause-upper
returns-clause-upper g c =
    cost_all (g.R.Reading.high c.args.reading.now) c.args.action.now c.args.state.now c.as_slice-choice-items.result.now
    c.loop-choice.choice-index c.loop-choice.upper c.loop-choice.invariant.same c.loop-choice-test.false
    c.loop-choice.invariant.upper
