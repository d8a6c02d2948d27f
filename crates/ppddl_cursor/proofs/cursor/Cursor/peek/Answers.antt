use Rattle.std.proofs.Common.{sym}
use Rattle.ppddl_cursor.proofs.Tokens.{next_at}
use Rattle.ppddl_cursor.proofs.cursor.Cursor.peek.Goals as goal

pub returns : goal.returns
returns c = rw (← c.self.view_is) (sym (next_at c.self.inside c.in_ok-token.token.now c.in_ok-token.ensures.lookup.3.0 c.in_ok-token.ensures.lookup.1))
