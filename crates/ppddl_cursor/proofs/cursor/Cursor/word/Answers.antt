use Rattle.ppddl_cursor.proofs.Tokens.{next_word}
use Rattle.ppddl_cursor.proofs.cursor.Cursor.word.Goals as goal

pub returns : goal.returns
returns c = rw (← c.self.view_is) (next_word c.self.inside (rw (← c.self.view_is) at c.requires))
