-- What was parsed, in the range or not.
use Rattle.std.proofs.Common.{◌≡◌, ◌≤◌, rules, sym, ap, ◌∙◌, true, false, length, arith}
use Rattle.exact_fraction.specs.Numbers.{are_digits}
use Rattle.plan_request.proofs.Parsing.{whole_long, whole_strange, whole_parsed, whole_unparsed}
use Rattle.plan_request.proofs.numbers.whole.Goals as goal

pub returns-then-bytes-gt-MOST_DIGITS : goal.returns-then-bytes-gt-MOST_DIGITS
returns-then-bytes-gt-MOST_DIGITS c = whole_long c.args.least c.args.most c.args.digits.now (search (rules, c.if-bytes-gt-MOST_DIGITS.true))

pub returns-then-not-are_digits : goal.returns-then-not-are_digits
returns-then-not-are_digits c =
    let strange : are_digits c.args.digits.now ≡ false = ap are_digits (sym c.as_bytes-bytes.ensures.value) ∙ sym c.are_digits.ensures ∙ c.if-not-are_digits.true in
    whole_strange c.args.least c.args.most c.args.digits.now strange

pub returns-in-Ok : goal.returns-in-Ok
returns-in-Ok c =
    let digits : are_digits c.args.digits.now ≡ true = ap are_digits (sym c.as_bytes-bytes.ensures.value) ∙ sym c.are_digits.ensures ∙ c.if-not-are_digits.false in
    let short : length c.args.digits.now ≤ 20 = search (rules, c.if-bytes-gt-MOST_DIGITS.false) in
    c.between.ensures ∙ whole_parsed c.args.least c.args.most c.args.digits.now digits c.in-Ok.number c.parse.result c.in-Ok.is c.parse.ensures.value.0 short

pub returns-in-Err : goal.returns-in-Err
returns-in-Err c =
    let digits : are_digits c.args.digits.now ≡ true = ap are_digits (sym c.as_bytes-bytes.ensures.value) ∙ sym c.are_digits.ensures ∙ c.if-not-are_digits.false in
    whole_unparsed c.args.least c.args.most c.args.digits.now digits c.in-Err.field-0 c.parse.result c.in-Err.is c.parse.ensures.value.0 (omega (arith, c.ranges.most.fits))
