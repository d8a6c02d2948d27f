-- Rows of names that were read are those of a certificate.
use Rattle.certificate.specs.declared.limits.TheConstants.{MOST_COUNT}
use Rattle.certificate.specs.Decoding.{parts}
use Rattle.certificate.proofs.Given.{bounded_on}
use Rattle.certificate.proofs.NumberedIs.{numbered_is}
use Rattle.certificate.proofs.ReadLaws.{named_rows_are}
use Rattle.certificate.proofs.reading.read_named.Goals as goal

pub numbered-requires : goal.numbered-requires
numbered-requires c =
    let few = bounded_on MOST_COUNT c.count_of.result _ c.in_ok-count.count c.in_ok-count.ensures.value c.count_of.ensures.bounded in
    let read = named_rows_are c.in_ok-count.count 5 (parts 10 c.in_ok-text.rest.now) c.in_ok-rows.rows.items (parts 10 c.in_ok-rows.rest.now) few c.in_ok-rows.ensures in
    rw c.deref.ensures.value (numbered_is c.args.values.penalty c.args.values.lower c.args.values.upper c.in_ok-rows.rows.items c.requires.penalty_in c.requires.lower_in c.requires.upper_in read.0 read.1)
