-- The lowest bit that differs decides.
use Rattle.std.proofs.Common.{arith}
use Rattle.plan_report.proofs.lemmas.certificates.Apart.{shift_fits, first_less, first_greater, second_greater, second_less}
use Rattle.plan_report.proofs.certificates.state_order.order_from.Goals as goal

pub overflow_shr-word : goal.overflow_shr-word
overflow_shr-word c =
    shift_fits c.args.ours.now c.args.theirs.now c.args.place c.requires.before c.requires.apart
    (omega (arith, (c.type_inv.ours c.args.place).fits)) (omega (arith, (c.type_inv.theirs c.args.place).fits))
    c.word_at-word.result c.word_at.result c.word_at-word.ensures c.word_at.ensures

pub goes_on-requires-else-word-bit-eq1 : goal.goes_on-requires-else-word-bit-eq1
goes_on-requires-else-word-bit-eq1 c =
    shift_fits c.args.ours.now c.args.theirs.now c.args.place c.requires.before c.requires.apart
    (omega (arith, (c.type_inv.ours c.args.place).fits)) (omega (arith, (c.type_inv.theirs c.args.place).fits))
    c.word_at-word.result c.word_at.result c.word_at-word.ensures c.word_at.ensures

pub returns-then-goes_on : goal.returns-then-goes_on
returns-then-goes_on c =
    first_less c.args.ours.now c.args.theirs.now c.args.place c.requires.before c.requires.apart
    (omega (arith, (c.type_inv.ours c.args.place).fits)) (omega (arith, (c.type_inv.theirs c.args.place).fits))
    c.word_at-word.result c.word_at.result c.word_at-word.ensures c.word_at.ensures c.if-word-bit-eq1.true c.if-goes_on.ensures

pub returns-else-goes_on : goal.returns-else-goes_on
returns-else-goes_on c =
    first_greater c.args.ours.now c.args.theirs.now c.args.place c.requires.before c.requires.apart
    (omega (arith, (c.type_inv.ours c.args.place).fits)) (omega (arith, (c.type_inv.theirs c.args.place).fits))
    c.word_at-word.result c.word_at.result c.word_at-word.ensures c.word_at.ensures c.if-word-bit-eq1.true c.if-goes_on.ensures

pub returns-then-goes_on-2 : goal.returns-then-goes_on-2
returns-then-goes_on-2 c =
    second_greater c.args.ours.now c.args.theirs.now c.args.place c.requires.before c.requires.apart
    (omega (arith, (c.type_inv.ours c.args.place).fits)) (omega (arith, (c.type_inv.theirs c.args.place).fits))
    c.word_at-word.result c.word_at.result c.word_at-word.ensures c.word_at.ensures c.if-word-bit-eq1.false c.if-goes_on-2.ensures

pub returns-else-goes_on-2 : goal.returns-else-goes_on-2
returns-else-goes_on-2 c =
    second_less c.args.ours.now c.args.theirs.now c.args.place c.requires.before c.requires.apart
    (omega (arith, (c.type_inv.ours c.args.place).fits)) (omega (arith, (c.type_inv.theirs c.args.place).fits))
    c.word_at-word.result c.word_at.result c.word_at-word.ensures c.word_at.ensures c.if-word-bit-eq1.false c.if-goes_on-2.ensures
