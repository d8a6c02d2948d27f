-- A word with such a bit, a later word that is not 0, or neither.
use Rattle.std.proofs.Common.{◌≡◌, ◌/◌, ◌^◌, get_or, ap, arith}
use Rattle.plan_report.proofs.lemmas.certificates.Apart.{atom_in_word, atom_in_later, none_from}
use Rattle.plan_report.proofs.certificates.state_order.goes_on.Goals as goal

pub returns-then-word_at-bit-ne0 : goal.returns-then-word_at-bit-ne0
returns-then-word_at-bit-ne0 c =
    let same : c.word_at.result / 2 ^ c.args.bit ≡ get_or c.args.words.now c.args.place 0 / 2 ^ c.args.bit = ap (λ w. w / 2 ^ c.args.bit) c.word_at.ensures in
    atom_in_word c.args.words.now c.args.place c.args.bit (omega (arith, same, c.if-word_at-bit-ne0.true))
    (omega (arith, c.word_at.type_inv, c.word_at.ensures))

pub returns-then-words-later-ne0 : goal.returns-then-words-later-ne0
returns-then-words-later-ne0 c =
    let k = c.loop-later.later in
    atom_in_later c.args.words.now c.args.place c.args.bit k c.requires c.if-later-place.true c.loop-later-test.true
    c.if-words-later-ne0.true (omega (arith, (c.type_inv.words k).fits))

pub returns : goal.returns
returns c =
    none_from c.args.words.now c.args.place c.args.bit c.requires c.loop-later.invariant.none
    (λ k above within. c.loop-later.invariant.zeros k above (omega (arith, within, c.loop-later-test.false)))
