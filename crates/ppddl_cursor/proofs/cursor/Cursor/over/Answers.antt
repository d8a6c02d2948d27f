use Rattle.std.proofs.Common.{arith}
use Rattle.ppddl_cursor.proofs.Closed.{text_spelled, text_top}
use Rattle.ppddl_cursor.proofs.cursor.Cursor.over.Goals as goal

pub invariant_of-result : goal.invariant_of-result
invariant_of-result c = record {
  in_range = omega arith;
  lines_fit = c.requires.lines_fit;
  lie = c.requires.lie;
  spelled = text_spelled c.args.text.now c.args.file c.args.tokens.now c.requires.closed;
}

pub returns-clause-spelled : goal.returns-clause-spelled
returns-clause-spelled c = text_spelled c.args.text.now c.args.file c.args.tokens.now c.requires.closed

pub returns-clause-top : goal.returns-clause-top
returns-clause-top c = text_top c.args.text.now c.args.file c.args.tokens.now c.requires.closed
