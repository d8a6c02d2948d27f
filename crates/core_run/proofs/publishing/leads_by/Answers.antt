-- One choice more.
use Rattle.std.proofs.Common.{length, sym, ap, ◌∙◌}
use Rattle.ground_model.specs.declared.action.Choice.{Choice}
use Rattle.ground_model.specs.Packed.{State, has_bit, same_state}
use Rattle.ground_model.specs.Choices.{after, next_state}
use Rattle.ground_model.proofs.Packed.{length-packed}
use Rattle.core_run.proofs.ActionValues.{choice_costs}
use Rattle.core_run.proofs.Rests.{any_found, any_rest}
use Rattle.core_run.proofs.publishing.leads_by.Goals as goal

pub apply-requires-clause-cost : goal.apply-requires-clause-cost
apply-requires-clause-cost c =
    choice_costs _ c.args.action.now c.requires.action c.as_slice-choice-items.result.now c.as_slice-choice-items.ensures
    c.loop-choice.choice-index c.choice-item.result c.loop-choice-test.true c.choice-item.is (has_bit c.args.state.now)

pub loop-choice-preserved : goal.loop-choice-preserved
loop-choice-preserved c = record {
  fits = ap length c.apply.ensures.next ∙ length-packed (after (has_bit c.args.state.now) c.choice-item.result) (length c.args.state.now);
  rest = any_rest (λ (d : Choice). same_state (next_state c.args.state.now d) c.args.target.now) c.as_slice-choice-items.result.now
      c.loop-choice.choice-index c.choice-item.result c.loop-choice-test.true c.choice-item.is _
      (ap (λ (s : State). same_state s c.args.target.now) (sym c.apply.ensures.next) ∙ sym c.eq.ensures ∙ c.if-eq.false) c.loop-choice.invariant.rest;
}

pub returns-then-eq-clause-value : goal.returns-then-eq-clause-value
returns-then-eq-clause-value c =
    any_found (λ (d : Choice). same_state (next_state c.args.state.now d) c.args.target.now) c.as_slice-choice-items.result.now
    c.loop-choice.choice-index c.choice-item.result c.loop-choice-test.true c.choice-item.is _
    (ap (λ (s : State). same_state s c.args.target.now) (sym c.apply.ensures.next) ∙ sym c.eq.ensures ∙ c.if-eq.true) c.loop-choice.invariant.rest

pub returns-then-eq-clause-fits : goal.returns-then-eq-clause-fits
returns-then-eq-clause-fits c =
    ap length c.apply.ensures.next ∙ length-packed (after (has_bit c.args.state.now) c.choice-item.result) (length c.args.state.now)
