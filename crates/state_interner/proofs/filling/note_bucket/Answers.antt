-- The bucket is noted, and the words of the id that it holds.
use Rattle.state_interner.proofs.Going.{empty_goes, held_words_go}
use Rattle.state_interner.proofs.filling.note_bucket.Goals as goal

pub returns-in-Some-clause-goes_on : goal.returns-in-Some-clause-goes_on
returns-in-Some-clause-goes_on c =
    held_words_go c.args.words.now c.args.pass.now c.load_bucket.new.pass c.mix_id-hash.new.pass c.requires.here c.args.bucket c.in-Some.id
    c.in-Some.ensures.some.seen c.mix_id-hash.ensures.seen

pub returns-in_default-clause-goes_on : goal.returns-in_default-clause-goes_on
returns-in_default-clause-goes_on c =
    empty_goes c.args.words.now c.args.pass.now c.load_bucket.new.pass c.requires.here c.args.bucket c.in_default.ensures.none
