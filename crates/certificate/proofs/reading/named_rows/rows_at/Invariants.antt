use Rattle.std.proofs.Common.{◌≡◌, None}
use Rattle.certificate.specs.Decoding.{parts}
use Rattle.certificate.specs.Counted.{items_at}
use Rattle.certificate.specs.Reading.{named_rows_list}
use Rattle.certificate.proofs.ItemLoop.{from}
use Rattle.certificate.proofs.reading.named_rows.rows_at.Given as goal

abbrev pub invariant-loop-index : goal.invariant-loop-index
invariant-loop-index l = from named_rows_list l.rows.items 5 l.count l.index (parts 10 l.rest) ≡ items_at named_rows_list l.count None 5 (parts 10 l.bytes)
