-- Entries are compared as slices are.
use Rattle.std.proofs.Common.{◌∙◌}
use Rattle.std.specs.Ordering.{nat_cmp}
use Rattle.certificate.proofs.Rising.{below_answer}
use Rattle.certificate.proofs.reading.order.entry_follows.Goals as goal

pub returns-in-Some : goal.returns-in-Some
returns-in-Some c = rw (c.in-Some.is, ← c.as_slice.ensures) (c.lt.ensures ∙ below_answer nat_cmp c.as_slice.result.now c.args.entry.now)
