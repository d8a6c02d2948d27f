use Rattle.std.proofs.Common.{◌+◌, ◌++◌, ◌∙◌, ap}
use Rattle.std.specs.Prelude.{codes}
use Rattle.plan_report.specs.Line.{numbered, tenths}
use Rattle.plan_report.proofs.Joining.{six_pieces}
use Rattle.plan_report.proofs.line.push_action.Goals as goal

pub returns : goal.returns
returns c =
    let old = c.args.out.now.items in
    let i = c.args.place in
    let here = c.from-here.ensures in
    let name = c.in_ok-push_numbered.ensures ∙ ap (λ n. old ++ numbered (codes "(:action go") n) here in
    let condition = c.in_ok-push_numbered-2.ensures ∙ (λ j. name j ++ numbered (codes " :precondition (at") (here j)) in
    let chance = c.in_ok-push_numbered-3.ensures ∙ (λ j. condition j ++ numbered (codes ") :effect (and (decrease (reward) 1) (probabilistic 0.") (c.tenths.ensures j)) in
    let left = c.in_ok-push_numbered-4.ensures ∙ (λ j. chance j ++ numbered (codes " (and (not (at") (here j)) in
    let reached = c.in_ok-push_numbered-5.ensures ∙ (λ j. left j ++ numbered (codes ")) (at") (here j + 1)) in
    c.in_ok-extend_from_slice.ensures.items
    ∙ ap (λ l. l ++ codes ")))))\n") reached
    ∙ six_pieces old (numbered (codes "(:action go") i) (numbered (codes " :precondition (at") i)
    (numbered (codes ") :effect (and (decrease (reward) 1) (probabilistic 0.") (tenths c.args.seed i))
    (numbered (codes " (and (not (at") i) (numbered (codes ")) (at") (i + 1)) (codes ")))))\n")
