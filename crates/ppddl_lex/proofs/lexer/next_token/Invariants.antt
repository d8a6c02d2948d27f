use Rattle.std.proofs.Common.{◌≡◌, ◌+◌, ◌-◌, ◌≤◌, length}
use Rattle.ppddl_lex.specs.Lexemes.{tokens_at}
use Rattle.ppddl_lex.proofs.lexer.next_token.Given as goal

-- what is passed holds no token, and at most one line feed for each byte
abbrev pub invariant-loop-offset : goal.invariant-loop-offset
invariant-loop-offset l = record {
  same : tokens_at l.text l.offset l.line ≡ tokens_at l.text l.fn.offset l.fn.line;
  behind : l.fn.offset ≤ l.offset;
  within : l.offset ≤ length l.text;
  lines : l.line + l.fn.offset ≤ l.fn.line + l.offset;
}

abbrev pub decreases-loop-offset : goal.decreases-loop-offset
decreases-loop-offset l = length l.text - l.offset
