-- Rows are compared as slices are, by their numbers.
use Rattle.std.proofs.Common.{◌∙◌}
use Rattle.std.specs.Ordering.{nat_cmp}
use Rattle.certificate.proofs.Rising.{below_answer}
use Rattle.certificate.proofs.reading.order.row_follows.Goals as goal

pub returns-in-Some : goal.returns-in-Some
returns-in-Some c = rw c.in-Some.is (c.lt.ensures ∙ below_answer nat_cmp c.in-Some.before.atoms.now c.args.row.atoms.now)
