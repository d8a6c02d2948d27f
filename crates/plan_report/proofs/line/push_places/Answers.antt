use Rattle.std.proofs.Common.{◌++◌, ◌∙◌, ap, append_assoc}
use Rattle.std.specs.Prelude.{codes}
use Rattle.plan_report.specs.Line.{numbered, place_text}
use Rattle.plan_report.proofs.Joining.{one_number}
use Rattle.plan_report.proofs.line.push_places.Goals as goal

pub loop-place-preserved : goal.loop-place-preserved
loop-place-preserved c =
    let old = c.loop-place.out.items in
    let place = c.loop-place.place in
    c.in_ok-push.ensures.items
    ∙ ap (λ l. l ++ codes ")") (c.in_ok-push_numbered.ensures ∙ ap (λ n. old ++ numbered (codes " (at") n) c.from.ensures)
    ∙ append_assoc old (numbered (codes " (at") place) (codes ")")
    ∙ one_number place_text c.args.out.now.items old place c.loop-place.invariant
