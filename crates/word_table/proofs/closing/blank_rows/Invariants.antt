-- So many rows are there, each with a state as wide as the layout says.
use Rattle.std.proofs.Common.{◌≡◌, length}
use Rattle.std.specs.Prelude.{All}
use Rattle.word_table.specs.Closed.{IsWide}
use Rattle.word_table.proofs.closing.blank_rows.Given as goal

abbrev pub invariant-loop : goal.invariant-loop
invariant-loop l = (length l.rows.items ≡ l.counter) × All (IsWide l.layout) l.rows.items
