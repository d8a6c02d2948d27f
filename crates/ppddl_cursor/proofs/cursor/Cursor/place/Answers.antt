use Rattle.std.proofs.Common.{length, ap, sym}
use Rattle.std.proofs.lemmas.Bool.{ltb-false}
use Rattle.ppddl_cursor.specs.Ahead.{place_of}
use Rattle.ppddl_cursor.proofs.Tokens.{place_at, at_end}
use Rattle.ppddl_cursor.proofs.cursor.Cursor.place.Goals as goal
use Rattle.ppddl_cursor.proofs.cursor.Cursor.place.Goals.{in-Some, in-None}

pub returns : goal.returns
unfolding place_of
returns c = elim c.match-get.branch [
  | in-Some w ↦ rw (← c.self.view_is, w.line-is) (sym (place_at c.self.inside w.in-Some.token.now w.in-Some.ensures.lookup.3.0 w.in-Some.ensures.lookup.1))
  | in-None w ↦ rw (← c.self.view_is, w.line-is, w.last_line-line.ensures) (sym (ap place_of (at_end c.self.inside (ltb-false c.self.inside.index (length c.self.inside.tokens.now) (sym w.in-None.ensures.lookup.0)))))
]
