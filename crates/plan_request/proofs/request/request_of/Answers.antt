-- The request of words in form, and of others.
use Rattle.std.proofs.Common.{sym, subst, ◌∙◌}
use Rattle.plan_request.specs.words.Parses.{Answers}
use Rattle.plan_request.specs.words.Shown.{texts_of}
use Rattle.plan_request.proofs.Requests.{no_request, a_request}
use Rattle.plan_request.proofs.request.request_of.Goals as goal

pub returns-in-None : goal.returns-in-None
returns-in-None c =
    let words = texts_of c.args.words.now in
    sym (no_request words (subst (Answers words) c.in-None.is c.in_ok-parse.ensures))

pub returns-in-Some : goal.returns-in-Some
returns-in-Some c =
    let words = texts_of c.args.words.now in
    c.asked_by.ensures ∙ a_request words c.in-Some.parsed (subst (Answers words) c.in-Some.is c.in_ok-parse.ensures)
