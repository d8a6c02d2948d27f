-- The values that were read are in range.
use Rattle.certificate.proofs.Given.{given_on}
use Rattle.certificate.proofs.HeadLaws.{values_in_range}
use Rattle.certificate.proofs.reading.read_lines.Goals as goal

pub read_named-requires : goal.read_named-requires
read_named-requires c =
    values_in_range c.in_ok-text-2.text.now c.in_ok-text-3.text.now c.in_ok-penalty.penalty c.in_ok-lower.lower c.in_ok-lower.upper
    (given_on c.penalty_of.result _ _ c.in_ok-penalty.penalty c.in_ok-penalty.ensures.value c.penalty_of.ensures)
    (given_on c.interval_of.result _ _ (c.in_ok-lower.lower, c.in_ok-lower.upper) c.in_ok-lower.ensures.value c.interval_of.ensures)

pub read_numbered-requires : goal.read_numbered-requires
read_numbered-requires c =
    values_in_range c.in_ok-text-2.text.now c.in_ok-text-3.text.now c.in_ok-penalty.penalty c.in_ok-lower.lower c.in_ok-lower.upper
    (given_on c.penalty_of.result _ _ c.in_ok-penalty.penalty c.in_ok-penalty.ensures.value c.penalty_of.ensures)
    (given_on c.interval_of.result _ _ (c.in_ok-lower.lower, c.in_ok-lower.upper) c.in_ok-lower.ensures.value c.interval_of.ensures)
