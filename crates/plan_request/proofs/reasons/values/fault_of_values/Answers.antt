-- What is at fault with what was parsed.
use Rattle.std.proofs.Common.{sym, subst, ◌∙◌}
use Rattle.plan_request.specs.words.Parses.{Answers}
use Rattle.plan_request.specs.words.Shown.{texts_of}
use Rattle.plan_request.proofs.Values.{no_values, values_of}
use Rattle.plan_request.proofs.reasons.values.fault_of_values.Goals as goal

pub returns-in-None : goal.returns-in-None
returns-in-None c =
    let words = texts_of c.args.words.now in
    sym (no_values words (subst (Answers words) c.in-None.is c.in_ok-parse.ensures))

pub returns-in-Some : goal.returns-in-Some
returns-in-Some c =
    let words = texts_of c.args.words.now in
    c.fault_in.ensures ∙ values_of words c.in-Some.parsed (subst (Answers words) c.in-Some.is c.in_ok-parse.ensures)
