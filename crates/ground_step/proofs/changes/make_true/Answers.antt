-- One bit set in its word.
use Rattle.std.proofs.Common.{◌/◌, ◌%◌, ◌*◌, ◌^◌, ◌<◌, ◌≤◌, ap, subst, ◌∙◌, arith, rules, length, slice_set, bit_or}
use Rattle.std.specs.Prelude.{get_or}
use Rattle.ground_step.proofs.Packed.{AreWords, are_words, set_is_with, left_is_with}
use Rattle.ground_step.proofs.changes.make_true.Goals as goal

pub returns-then-place-words : goal.returns-then-place-words
returns-then-place-words c =
    let are : AreWords c.words-words.result.now = are_words c.words-words.result.now (search rules) in
    let within : c.args.atom / 64 < length c.args.state.now = omega (arith, ap length c.words-words.ensures) in
    c.set_word.ensures
    ∙ ap (λ s. slice_set c.args.state.now (c.args.atom / 64) (bit_or (get_or s (c.args.atom / 64) 0) (1 * 2 ^ (c.args.atom % 64) % 2 ^ 64)))
    c.words-words.ensures
    ∙ set_is_with c.args.state.now (subst AreWords c.words-words.ensures are) c.args.atom within

pub returns-else-place-words : goal.returns-else-place-words
returns-else-place-words c =
    let are : AreWords c.words-words.result.now = are_words c.words-words.result.now (search rules) in
    let past : length c.args.state.now ≤ c.args.atom / 64 = omega (arith, ap length c.words-words.ensures) in
    left_is_with c.args.state.now (subst AreWords c.words-words.ensures are) c.args.atom past
