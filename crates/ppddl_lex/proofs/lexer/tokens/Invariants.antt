use Rattle.std.proofs.Common.{◌≡◌, ◌+◌, ◌-◌, ◌≤◌, length, All}
use Rattle.ppddl_lex.specs.Lexemes.{tokens_at, tokens_of, nested, with_front, last_line}
use Rattle.ppddl_lex.specs.Tokens.{Lies}
use Rattle.ppddl_lex.proofs.lexer.tokens.Given as goal

-- the tokens so far, and those of the rest at the depth reached, are those of the text
abbrev pub invariant-loop-next : goal.invariant-loop-next
invariant-loop-next l = record {
  told : with_front l.tokens.items (nested (last_line l.text) l.depth (tokens_at l.text l.offset l.line)) ≡ tokens_of l.text;
  lie : All (Lies (length l.text)) l.tokens.items;
  within : l.offset ≤ length l.text;
  lines : l.line ≤ 1 + l.offset;
  depth : l.depth ≤ 100;
}

abbrev pub decreases-loop-next : goal.decreases-loop-next
decreases-loop-next l = length l.text - l.offset
