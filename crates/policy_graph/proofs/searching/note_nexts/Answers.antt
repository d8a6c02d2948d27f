-- One more choice.
use Rattle.std.proofs.Common.{◌∙◌, length, map, take, sym, ap, arith}
use Rattle.std.proofs.lemmas.List.{take_all}
use Rattle.ground_model.specs.Packed.{has_bit, same_state}
use Rattle.ground_model.specs.Choices.{after, next_state}
use Rattle.ground_model.proofs.Packed.{length-packed}
use Rattle.ground_step.proofs.Outcomes.{cost_within}
use Rattle.policy_graph.specs.Search.{noted, noted_all}
use Rattle.policy_graph.proofs.Choosing.{choice_is, map_more, noted_more}
use Rattle.policy_graph.proofs.searching.note_nexts.Goals as goal

pub apply-requires-clause-fits : goal.apply-requires-clause-fits
apply-requires-clause-fits c = c.loop-choice.invariant.long

pub apply-requires-clause-cost : goal.apply-requires-clause-cost
apply-requires-clause-cost c =
    cost_within c.args.atoms c.choice-item.result
    (choice_is c.args.atoms c.args.action.now c.requires c.as_slice-choice-items.result.now c.loop-choice.invariant.same
    c.loop-choice.choice-index c.choice-item.result c.loop-choice-test.true c.choice-item.is)
    (has_bit c.args.state.now)

pub loop-choice-preserved : goal.loop-choice-preserved
loop-choice-preserved c =
    let s = c.args.state.now in let most = c.args.most in let x = c.choice-item.result in
    let items = c.as_slice-choice-items.result.now in let i = c.loop-choice.choice-index in
    let old = c.args.states.now.keys in
    record {
      same = c.loop-choice.invariant.same;
      long = ap length c.apply.ensures.next ∙ length-packed (after (has_bit s) x) (length s);
      noted = c.in_ok-note.ensures
          ∙ ap (noted same_state most c.loop-choice.states.keys) c.apply.ensures.next
          ∙ ap (λ l. noted same_state most l (next_state s x)) c.loop-choice.invariant.noted
          ∙ sym (noted_more same_state most old (map (next_state s) (take i items)) (next_state s x))
          ∙ ap (noted_all same_state most old) (sym (map_more (next_state s) items i x c.loop-choice-test.true c.choice-item.is));
    }

pub returns : goal.returns
returns c =
    let all = take_all c.loop-choice.choice-index c.as_slice-choice-items.result.now (omega (arith, c.loop-choice-test.false)) in
    c.loop-choice.invariant.noted
    ∙ ap (λ l. noted_all same_state c.args.most c.args.states.now.keys (map (next_state c.args.state.now) l))
    (all ∙ c.loop-choice.invariant.same)
