use Rattle.std.proofs.Common.{◌≡◌, None}
use Rattle.certificate.specs.Decoding.{parts}
use Rattle.certificate.specs.Counted.{items_at}
use Rattle.certificate.specs.Reading.{rows_list}
use Rattle.certificate.proofs.ItemLoop.{from}
use Rattle.certificate.proofs.reading.rows.rows_at.Given as goal

abbrev pub invariant-loop-index : goal.invariant-loop-index
invariant-loop-index l = from (rows_list l.tables.atoms l.tables.acts) l.rows l.first l.count l.index (parts 10 l.rest) ≡ items_at (rows_list l.tables.atoms l.tables.acts) l.count None l.first (parts 10 l.bytes)
