-- One bit cleared in its word.
use Rattle.std.proofs.Common.{◌/◌, ◌%◌, ◌*◌, ◌^◌, ◌<◌, ◌≤◌, ap, subst, ◌∙◌, arith, rules, length, slice_set, bit_and}
use Rattle.std.specs.Int.{bit_not, w64}
use Rattle.std.specs.Prelude.{get_or}
use Rattle.ground_step.proofs.Packed.{AreWords, are_words, cleared_is_without, left_is_without}
use Rattle.ground_step.proofs.changes.make_false.Goals as goal

pub returns-then-place-words : goal.returns-then-place-words
returns-then-place-words c =
    let are : AreWords c.words-words.result.now = are_words c.words-words.result.now (search rules) in
    let within : c.args.atom / 64 < length c.args.state.now = omega (arith, ap length c.words-words.ensures) in
    c.set_word.ensures
    ∙ ap (λ s. slice_set c.args.state.now (c.args.atom / 64) (bit_and (get_or s (c.args.atom / 64) 0) (bit_not w64 (1 * 2 ^ (c.args.atom % 64) % 2 ^ 64))))
    c.words-words.ensures
    ∙ cleared_is_without c.args.state.now (subst AreWords c.words-words.ensures are) c.args.atom within

pub returns-else-place-words : goal.returns-else-place-words
returns-else-place-words c =
    let are : AreWords c.words-words.result.now = are_words c.words-words.result.now (search rules) in
    let past : length c.args.state.now ≤ c.args.atom / 64 = omega (arith, ap length c.words-words.ensures) in
    left_is_without c.args.state.now (subst AreWords c.words-words.ensures are) c.args.atom past
