-- No sum leaves its type.
use Rattle.std.proofs.Common.{◌<◌, Bool, take, ◌≡◌, ◌≤◌, ◌*◌, ◌^◌, ◌+◌, ℕ, length, ap, ◌∙◌, arith}
use Rattle.ground_model.specs.Choices.{after, cost_of, next_state}
use Rattle.ground_model.specs.Packed.{has_bit}
use Rattle.ground_model.specs.declared.action.Choice.{Choice}
use Rattle.ground_model.specs.Packed.{State}
use Rattle.plain_list.specs.weighted.Mean.{total}
use Rattle.core_run.specs.Boards.{numbers}
use Rattle.ground_model.proofs.Packed.{length-packed}
use Rattle.core_run.proofs.ActionValues.{choice_costs, term_within, total_more}
use Rattle.core_run.proofs.means.action_value.Goals as goal

pub apply-cost-requires-clause-cost : goal.apply-cost-requires-clause-cost
apply-cost-requires-clause-cost c =
    choice_costs _ c.args.action.now c.requires.action c.as_slice-choice-items.result.now c.as_slice-choice-items.ensures
    c.loop-choice.choice-index c.choice-item.result c.loop-choice-test.true c.choice-item.is (has_bit c.args.state.now)

pub overflow_add-cost : goal.overflow_add-cost
overflow_add-cost c =
    let later : c.number-later.result ≤ 10 ^ 14 = omega (arith, c.requires.bounded c.apply-cost.new.into, c.number-later.ensures) in
    let cost : c.apply-cost.result ≤ 10 ^ 13 = omega (
      arith,
      c.apply-cost.ensures.cost,
      choice_costs _ c.args.action.now c.requires.action c.as_slice-choice-items.result.now c.as_slice-choice-items.ensures
          c.loop-choice.choice-index c.choice-item.result c.loop-choice-test.true c.choice-item.is (has_bit c.args.state.now),
    ) in
    omega arith

pub overflow_mul-sum : goal.overflow_mul-sum
overflow_mul-sum c =
    let later : c.number-later.result ≤ 10 ^ 14 = omega (arith, c.requires.bounded c.apply-cost.new.into, c.number-later.ensures) in
    let cost : c.apply-cost.result ≤ 10 ^ 13 = omega (
      arith,
      c.apply-cost.ensures.cost,
      choice_costs _ c.args.action.now c.requires.action c.as_slice-choice-items.result.now c.as_slice-choice-items.ensures
          c.loop-choice.choice-index c.choice-item.result c.loop-choice-test.true c.choice-item.is (has_bit c.args.state.now),
    ) in
    let term = term_within c.from.result c.from-in-loop-choice.result (omega arith) (omega arith) in omega (arith, term)

pub overflow_add-sum : goal.overflow_add-sum
overflow_add-sum c =
    let later : c.number-later.result ≤ 10 ^ 14 = omega (arith, c.requires.bounded c.apply-cost.new.into, c.number-later.ensures) in
    let cost : c.apply-cost.result ≤ 10 ^ 13 = omega (
      arith,
      c.apply-cost.ensures.cost,
      choice_costs _ c.args.action.now c.requires.action c.as_slice-choice-items.result.now c.as_slice-choice-items.ensures
          c.loop-choice.choice-index c.choice-item.result c.loop-choice-test.true c.choice-item.is (has_bit c.args.state.now),
    ) in
    let term = term_within c.from.result c.from-in-loop-choice.result (omega arith) (omega arith) in
    let few : c.loop-choice.choice-index < 256 = omega (arith, c.requires.action.count, c.loop-choice-test.true, ap length c.as_slice-choice-items.ensures) in
    omega (arith, term, few, c.loop-choice.invariant.room)

pub loop-choice-preserved : goal.loop-choice-preserved
loop-choice-preserved c =
    let later : c.number-later.result ≤ 10 ^ 14 = omega (arith, c.requires.bounded c.apply-cost.new.into, c.number-later.ensures) in
    let cost : c.apply-cost.result ≤ 10 ^ 13 = omega (
      arith,
      c.apply-cost.ensures.cost,
      choice_costs _ c.args.action.now c.requires.action c.as_slice-choice-items.result.now c.as_slice-choice-items.ensures
          c.loop-choice.choice-index c.choice-item.result c.loop-choice-test.true c.choice-item.is (has_bit c.args.state.now),
    ) in
    let term = term_within c.from.result c.from-in-loop-choice.result (omega arith) (omega arith) in
    let v : State → ℕ = numbers c.args.problem.now c.args.board.now.ids.items c.args.seen.now c.args.side in
    let bit : ℕ → Bool = has_bit c.args.state.now in
    let f : Choice → ℕ = λ d. d.weight * (cost_of bit d + v (next_state c.args.state.now d)) in
    let more : total f (take (c.loop-choice.choice-index + 1) c.as_slice-choice-items.result.now)
    ≡ total f (take c.loop-choice.choice-index c.as_slice-choice-items.result.now) + f c.choice-item.result
    = total_more f c.as_slice-choice-items.result.now c.loop-choice.choice-index c.choice-item.result c.loop-choice-test.true c.choice-item.is in
    let same_number : c.number-later.result ≡ v (next_state c.args.state.now c.choice-item.result)
    = c.number-later.ensures ∙ ap v c.apply-cost.ensures.next in
    let same_term : c.from.result * c.from-in-loop-choice.result ≡ f c.choice-item.result
    = ap (λ n. n * c.from-in-loop-choice.result) c.from.ensures
    ∙ ap (λ n. c.choice-item.result.weight * n) (c.from-in-loop-choice.ensures ∙ ap (λ n. n + c.number-later.result) c.apply-cost.ensures.cost
    ∙ ap (λ n. cost_of bit c.choice-item.result + n) same_number) in
    record {
      fits = ap length c.apply-cost.ensures.next ∙ length-packed (after (has_bit c.args.state.now) c.choice-item.result) (length c.args.state.now);
      room = omega (arith, term, c.loop-choice.invariant.room);
      sum = omega (arith, c.loop-choice.invariant.sum, more, same_term);
    }
