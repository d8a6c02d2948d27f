-- Rows are compared as slices are, by their atoms.
use Rattle.std.proofs.Common.{◌∙◌}
use Rattle.plain_list.specs.Texts.{compare_texts}
use Rattle.certificate.proofs.Rising.{below_answer}
use Rattle.certificate.proofs.reading.order.named_row_follows.Goals as goal

pub returns-in-Some : goal.returns-in-Some
returns-in-Some c = rw (c.in-Some.is, ← c.as_slice.ensures, ← c.as_slice-in-Some.ensures) (c.lt.ensures ∙ below_answer compare_texts c.as_slice.result.now c.as_slice-in-Some.result.now)
