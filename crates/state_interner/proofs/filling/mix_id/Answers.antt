-- One word more is noted.
use Rattle.std.proofs.Common.{[], refl}
use Rattle.state_interner.proofs.Going.{words_goes}
use Rattle.state_interner.proofs.Words.{notes_more}
use Rattle.state_interner.proofs.filling.mix_id.Goals as goal

pub loop-place-init : goal.loop-place-init
loop-place-init c = ([], refl)

pub load_word-requires-clause-here : goal.load_word-requires-clause-here
load_word-requires-clause-here c =
    let so_far = c.loop-place.invariant in
    (words_goes c.args.words.now c.args.pass.now c.loop-place.pass c.requires.here so_far.0 so_far.1).here

pub loop-place-preserved : goal.loop-place-preserved
loop-place-preserved c =
    notes_more c.args.pass.now c.loop-place.pass c.load_word.new.pass c.args.id c.loop-place.place c.load_word.result c.loop-place.invariant
    c.load_word.ensures.seen
