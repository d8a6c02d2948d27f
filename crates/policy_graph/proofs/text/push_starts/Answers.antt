-- The line of one more start.
use Rattle.std.proofs.Common.{◌≡◌, ◌<◌, ◌∙◌, Option, Some, None, [], length, sym, ap, rules, refl}
use Rattle.std.specs.List.{slice_get}
use Rattle.ground_model.specs.declared.start.Start.{Start}
use Rattle.policy_graph.specs.Text.{start_line, start_text}
use Rattle.policy_graph.proofs.Joining.{looked_up, place_more}
use Rattle.policy_graph.proofs.text.push_starts.Goals as goal

pub loop-place-preserved : goal.loop-place-preserved
loop-place-preserved c =
    let g = c.args.problem.now in let i = c.loop-place.place in let count = c.args.count in let start = c.start-item.result in
    let items = c.starts-start-items.result.now in
    let within : i < length items = search rules in
    let at : slice_get g.starts i ≡ Some start
    = looked_up items g.starts i i start c.starts-start-items.ensures.value refl within c.start-item.is in
    c.in_ok-push_start.ensures
    ∙ place_more (start_line g count) c.args.out.now.items c.loop-place.out.items i (start_text c.start_den.result count i start)
    c.loop-place.invariant
    (ap (λ d. start_text d count i start) c.start_den.ensures.value
    ∙ sym (ap (λ (o : Option Start). elim o [ Some x ↦ start_text g.start_den count i x | None ↦ [] ]) at))
