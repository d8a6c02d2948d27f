use Rattle.std.proofs.Common.{◌-◌, ◌++◌, ◌∙◌, ap}
use Rattle.std.specs.Prelude.{codes}
use Rattle.std.specs.List.{flat_map, range_with_len}
use Rattle.plan_report.specs.Line.{numbered, place_text, action_text}
use Rattle.plan_report.proofs.line.line_problem.Goals as goal

pub returns : goal.returns
returns c =
    let n = c.args.n in
    let places = flat_map place_text (range_with_len 0 n) in
    let actions = flat_map (action_text c.args.seed) (range_with_len 0 (n - 1)) in
    let declared = c.in_ok-push_places.ensures ∙ ap (λ l. l ++ places) c.in_ok-out.ensures.items in
    let closed = c.in_ok-extend_from_slice.ensures.items ∙ ap (λ l. l ++ codes ")\n") declared in
    let acted = c.in_ok-push_actions.ensures ∙ ap (λ l. l ++ actions) closed in
    let named = c.in_ok-push_numbered.ensures ∙ (λ j. acted j ++ numbered (codes ")\n(define (problem line-") (c.from.ensures j)) in
    let aimed = c.in_ok-push_numbered-2.ensures ∙ (λ j. named j ++ numbered (codes ") (:domain line) (:init (at0)) (:goal (at") (c.from-2.ensures j)) in
    let ended = c.in_ok-extend_from_slice-2.ensures.items ∙ ap (λ l. l ++ codes ")) (:goal-reward 100000) (:metric maximize (reward)))\n") aimed in
    c.from_vec.ensures ∙ ended
