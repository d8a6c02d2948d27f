-- All words are read.
use Rattle.std.proofs.Common.{◌<◌, ◌∙◌, sym, arith}
use Rattle.std.specs.Mem.Slots.{slots_items}
use Rattle.std.proofs.lemmas.Grind.{same_number_lists}
use Rattle.std.proofs.lemmas.List.FromFn.{length-map-range_with_len, get_or-map-range_with_len}
use Rattle.word_table.specs.layout.Places.{state_at}
use Rattle.word_table.specs.rule.Words.{word, state_in}
use Rattle.word_table.proofs.closing.read_state.Goals as goal

pub returns : goal.returns
returns c =
    let l = c.args.layout in
    let ws = slots_items c.args.closed.now.words in
    let past = c.loop-place-test.false in
    let wide = c.loop-place.invariant.0 in
    let long = length-map-range_with_len (λ k. word ws (state_at l c.args.id k)) 0 l.width in
    same_number_lists c.loop-place.state (state_in l ws c.args.id) (wide ∙ sym long)
    (λ k below.
    let small : k < l.width = omega arith in
    c.loop-place.invariant.1 k (omega arith) ∙ sym (get_or-map-range_with_len (λ p. word ws (state_at l c.args.id p)) 0 l.width k k 0 small (omega arith)))
