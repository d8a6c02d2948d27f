use Rattle.std.proofs.Common.{◌≡◌, None}
use Rattle.certificate.specs.Decoding.{parts}
use Rattle.certificate.specs.Counted.{items_at}
use Rattle.certificate.specs.Reading.{table_list}
use Rattle.certificate.proofs.ItemLoop.{from}
use Rattle.certificate.proofs.reading.tables.entries_at.Given as goal

abbrev pub invariant-loop-index : goal.invariant-loop-index
invariant-loop-index l = from (table_list l.word) l.entries.items l.first l.count l.index (parts 10 l.rest) ≡ items_at (table_list l.word) l.count None l.first (parts 10 l.bytes)
