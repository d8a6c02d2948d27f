use Rattle.std.proofs.Common.{◌≡◌, ◌∙◌, ◌+◌, ◌*◌, arith, drop, sym, refl}
use Rattle.std.specs.Str.{all_ascii_digits}
use Rattle.std.proofs.lemmas.List.{at_drop_all}
use Rattle.certificate.specs.Decoding.{number_after}
use Rattle.certificate.proofs.Decimals.{not_plain, no_digits, not_digit, digits_more, number_after_more, number_after_ge, too_great, is_number}
use Rattle.certificate.proofs.reading.fields.number_of.Goals as goal

pub returns-then-not-is_plain : goal.returns-then-not-is_plain
returns-then-not-is_plain c = sym (not_plain c.args.text.now (sym c.is_plain.ensures ∙ c.if-not-is_plain.true))

pub returns-then-not-is_ascii_digit : goal.returns-then-not-is_ascii_digit
returns-then-not-is_ascii_digit c =
    let text = c.args.text.now in
    let apart = not_digit text c.loop-digit.digit-index c.loop-digit-test.true (sym c.is_ascii_digit.ensures.value ∙ c.if-not-is_ascii_digit.true) in
    sym (no_digits text (sym c.loop-digit.invariant.digits ∙ apart))

pub returns-then-number-gt-MOST_UNITS : goal.returns-then-number-gt-MOST_UNITS
returns-then-number-gt-MOST_UNITS c =
    let text = c.args.text.now in
    let i = c.loop-digit.digit-index in
    let number = c.loop-digit.number * 10 + c.from.result in
    let value : number_after number (drop (i + 1) text) ≡ number_after 0 text =
    rw c.from.ensures (sym (number_after_more text i c.loop-digit.number c.loop-digit-test.true) ∙ c.loop-digit.invariant.value) in
    sym (too_great text (omega (arith, value, number_after_ge number (drop (i + 1) text))))

pub loop-digit-preserved : goal.loop-digit-preserved
loop-digit-preserved c =
    let text = c.args.text.now in
    let i = c.loop-digit.digit-index in record {
      bounded = omega arith;
      value = rw c.from.ensures (sym (number_after_more text i c.loop-digit.number c.loop-digit-test.true) ∙ c.loop-digit.invariant.value);
      digits = sym (digits_more text i c.loop-digit-test.true (sym c.is_ascii_digit.ensures.value ∙ c.if-not-is_ascii_digit.false)) ∙ c.loop-digit.invariant.digits;
    }

pub returns : goal.returns
returns c =
    let text = c.args.text.now in
    let i = c.loop-digit.digit-index in
    let value : number_after 0 text ≡ c.loop-digit.number = sym c.loop-digit.invariant.value ∙ at_drop_all (number_after c.loop-digit.number) text i c.loop-digit-test.false in
    let digits = sym c.loop-digit.invariant.digits ∙ at_drop_all all_ascii_digits text i c.loop-digit-test.false in
    sym (rw (is_number text (sym c.is_plain.ensures ∙ c.if-not-is_plain.false) digits (omega (arith, value)), value) refl)
