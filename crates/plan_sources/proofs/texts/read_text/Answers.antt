-- A name that holds, or may hold, a text above the limit.
use Rattle.std.proofs.Common.{rules}
use Rattle.ppddl_lex.specs.declared.lexer.TheConstants.{MOST_TEXT}
use Rattle.plan_sources.proofs.Taking.{too_long_held, long_text}
use Rattle.plan_sources.proofs.texts.read_text.Goals as goal

pub returns-in-Err-TooLong-clause-ends : goal.returns-in-Err-TooLong-clause-ends
returns-in-Err-TooLong-clause-ends g c =
    let long = too_long_held _ MOST_TEXT c.read.result (search (rules, c.in-Err-TooLong.is, c.in-Err-TooLong.field-0-is)) c.read.ensures.missing c.read.ensures.too_long in
    (long.0, search (rules, long.1), long_text long.0 long.2)
