-- One more choice.
use Rattle.std.proofs.Common.{◌++◌, ◌∷◌, [], ◌∙◌, length, map, take, sym, ap, arith, append_assoc}
use Rattle.std.proofs.lemmas.List.{take_all}
use Rattle.ground_model.specs.Packed.{has_bit}
use Rattle.ground_model.specs.Choices.{after}
use Rattle.ground_model.proofs.Packed.{length-packed}
use Rattle.ground_step.proofs.Outcomes.{cost_within}
use Rattle.policy_graph.specs.Graph.{edge_of, place_in}
use Rattle.policy_graph.proofs.Choosing.{choice_is, map_more}
use Rattle.policy_graph.proofs.edges.push_choices.Goals as goal

pub apply-cost-requires-clause-fits : goal.apply-cost-requires-clause-fits
apply-cost-requires-clause-fits c = c.loop-choice.invariant.long

pub apply-cost-requires-clause-cost : goal.apply-cost-requires-clause-cost
apply-cost-requires-clause-cost c =
    cost_within c.args.atoms c.choice-item.result
    (choice_is c.args.atoms c.args.action.now c.requires.action c.as_slice-choice-items.result.now c.loop-choice.invariant.same
    c.loop-choice.choice-index c.choice-item.result c.loop-choice-test.true c.choice-item.is)
    (has_bit c.args.state.now)

pub loop-choice-preserved : goal.loop-choice-preserved
loop-choice-preserved c =
    let s = c.args.state.now in let x = c.choice-item.result in
    let items = c.as_slice-choice-items.result.now in let i = c.loop-choice.choice-index in
    let f = edge_of c.args.states.now.keys c.args.from c.args.code c.args.action.now.den s in
    let old = c.args.edges.now.items in
    let place = c.place_in.ensures ∙ ap (place_in c.args.states.now.keys) c.apply-cost.ensures.next in
    record {
      same = c.loop-choice.invariant.same;
      long = ap length c.apply-cost.ensures.next ∙ length-packed (after (has_bit s) x) (length s);
      edges = c.in_ok-push.ensures.items
          ∙ (λ j. c.loop-choice.invariant.edges j ++ record {
            from = c.args.from;
            to = place j;
            action = c.args.code;
            weight = x.weight;
            den = c.args.action.now.den;
            cost = c.apply-cost.ensures.cost j;
          } ∷ [])
          ∙ append_assoc old (map f (take i items)) (f x ∷ [])
          ∙ ap (λ l. old ++ l) (sym (map_more f items i x c.loop-choice-test.true c.choice-item.is));
    }

pub returns : goal.returns
returns c =
    let all = take_all c.loop-choice.choice-index c.as_slice-choice-items.result.now (omega (arith, c.loop-choice-test.false)) in
    let f = edge_of c.args.states.now.keys c.args.from c.args.code c.args.action.now.den c.args.state.now in
    c.loop-choice.invariant.edges ∙ ap (λ l. c.args.edges.now.items ++ map f l) (all ∙ c.loop-choice.invariant.same)
