use Rattle.std.proofs.Common.{◌≡◌, ◌+◌, ◌∙◌, arith, drop, sym, []}
use Rattle.certificate.specs.Decoding.{digits_at}
use Rattle.certificate.proofs.Cuts.{take_rest}
use Rattle.certificate.proofs.Digits.{value_more, digits_go_on, too_many, stops_here, stops_at_end, plain_not, number_found}
use Rattle.certificate.proofs.reading.fields.number_at.Goals as goal
use Rattle.certificate.proofs.reading.fields.number_at.Goals.{then-loop-length-test+else-is_ascii_digit, else-loop-length-test}

pub returns-then-number-gt-MOST_UNITS : goal.returns-then-number-gt-MOST_UNITS
returns-then-number-gt-MOST_UNITS c =
    let text = c.args.text.now in
    let i = c.loop-length.length in
    let digit = sym c.is_ascii_digit.ensures.value ∙ c.if-is_ascii_digit.true in
    let more = value_more text i c.loop-length-test.true in
    too_many text (i + 1) (digits_go_on text i c.loop-length-test.true digit c.loop-length.invariant.digits)
    (omega (arith, more, c.loop-length.invariant.value, c.from.ensures, c.if-number-gt-MOST_UNITS.true))

pub loop-length-preserved : goal.loop-length-preserved
loop-length-preserved c =
    let text = c.args.text.now in
    let i = c.loop-length.length in
    let digit = sym c.is_ascii_digit.ensures.value ∙ c.if-is_ascii_digit.true in
    let more = value_more text i c.loop-length-test.true in record {
      within = omega (arith, c.loop-length-test.true);
      bounded = omega (arith, c.if-number-gt-MOST_UNITS.false);
      value = omega (arith, more, c.loop-length.invariant.value, c.from.ensures);
      digits = digits_go_on text i c.loop-length-test.true digit c.loop-length.invariant.digits;
    }

pub returns-then-not-is_plain : goal.returns-then-not-is_plain
returns-then-not-is_plain c =
    let text = c.args.text.now in
    let i = c.loop-length.length in
    let stops : digits_at (drop i text) ≡ ([], drop i text) = elim c.loop-length-test.branch [
      | then-loop-length-test+else-is_ascii_digit w ↦ stops_here text i w.loop-length-test.true (sym w.is_ascii_digit.ensures.value ∙ w.if-is_ascii_digit.false)
      | else-loop-length-test w ↦ stops_at_end text i (omega (arith, w.loop-length-test.false))
    ] in
    plain_not text i c.loop-length.invariant.digits stops (sym c.is_plain.ensures ∙ c.if-not-is_plain.true)

pub returns : goal.returns
returns c =
    let text = c.args.text.now in
    let i = c.loop-length.length in
    let stops : digits_at (drop i text) ≡ ([], drop i text) = elim c.loop-length-test.branch [
      | then-loop-length-test+else-is_ascii_digit w ↦ stops_here text i w.loop-length-test.true (sym w.is_ascii_digit.ensures.value ∙ w.if-is_ascii_digit.false)
      | else-loop-length-test w ↦ stops_at_end text i (omega (arith, w.loop-length-test.false))
    ] in
    rw (take_rest i text) (number_found text i c.loop-length.number c.loop-length.invariant.digits stops (sym c.is_plain.ensures ∙ c.if-not-is_plain.false) c.loop-length.invariant.value c.loop-length.invariant.bounded)
