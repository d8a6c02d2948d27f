use Rattle.std.proofs.Common.{sym, ◌∙◌}
use Rattle.applicable_actions.specs.distinct.Enough.{RepeatsLast}
use Rattle.applicable_actions.proofs.lemmas.distinct.Placing.{last_is_placed}
use Rattle.applicable_actions.proofs.distinct.prepared_actions.place_choices.Goals as goal

pub returns-in-Some : goal.returns-in-Some
returns-in-Some c =
    let repeats : RepeatsLast c.args.index.now.problem.actions c.args.code = c.requires.repeats c.args.code (sym c.is_left_out.ensures ∙ c.if-is_left_out.true) in
    last_is_placed c.args.index.now.problem.actions c.args.code c.args.action.now c.args.spans.now c.in-Some.last.now c.args.choices.now.items
    c.requires.placed repeats c.requires.coded (sym c.in-Some.ensures.value)
