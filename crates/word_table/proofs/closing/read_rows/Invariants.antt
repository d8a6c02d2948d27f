-- The rows of the ids so far are read, and there is one for each further id.
use Rattle.std.proofs.Common.{◌≡◌, ◌≤◌, length, take}
use Rattle.std.specs.Prelude.{All}
use Rattle.std.specs.Mem.Slots.{slots_items}
use Rattle.word_table.specs.Closed.{IsWide, rows_in}
use Rattle.word_table.proofs.closing.read_rows.Given as goal

abbrev pub invariant-loop-id : goal.invariant-loop-id
invariant-loop-id l = record {
  rows : take l.count l.rows.items ≡ rows_in l.problem l.layout (slots_items l.closed.words) l.id;
  few : l.count ≤ l.id;
  count : length l.rows.items ≡ l.layout.ids;
  wide : All (IsWide l.layout) l.rows.items;
}
