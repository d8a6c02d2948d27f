-- A text that is too long, and one that is not.
use Rattle.std.proofs.Common.{◌<◌, ◌≤◌, length, rules}
use Rattle.ppddl_lex.specs.declared.lexer.TheConstants.{MOST_TEXT}
use Rattle.plan_request.specs.Shown.{shown_sources}
use Rattle.plan_sources.proofs.Taking.{long_alone, problem_alone}
use Rattle.plan_sources.proofs.problems.problem_of_text.Goals as goal

pub returns-then-as_slice-gt-MOST_TEXT : goal.returns-then-as_slice-gt-MOST_TEXT
returns-then-as_slice-gt-MOST_TEXT c =
    let long : MOST_TEXT < length c.args.text = search (rules, c.if-as_slice-gt-MOST_TEXT.true, c.as_slice.ensures) in
    long_alone (shown_sources c.args.sources.now) c.args.text long

pub returns : goal.returns
returns c =
    let short : length c.args.text ≤ MOST_TEXT = search (rules, c.if-as_slice-gt-MOST_TEXT.false, c.as_slice.ensures) in
    problem_alone (shown_sources c.args.sources.now) c.args.text short c.problem_in.result c.problem_in.ensures
