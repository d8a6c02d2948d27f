-- An empty bucket, or an id whose state is compared.
use Rattle.state_interner.specs.Interned.{IsMissing}
use Rattle.state_interner.proofs.Going.{empty_goes, held_words_go}
use Rattle.state_interner.proofs.Turns.{empty_is_missing, held_tells}
use Rattle.state_interner.proofs.looking.look.Goals as goal

pub returns-in-None-clause-goes_on : goal.returns-in-None-clause-goes_on
returns-in-None-clause-goes_on c =
    empty_goes c.args.words.now c.args.pass.now c.load_bucket.new.pass c.requires.here c.args.bucket c.in-None.ensures.none

pub returns-in-None-clause-told : goal.returns-in-None-clause-told
returns-in-None-clause-told c =
    empty_is_missing c.args.pass.now c.load_bucket.new.pass c.args.state.now c.args.bucket c.in-None.ensures.none c.in-None.ensures.told c.requires.clear

pub returns-in-Some-clause-goes_on : goal.returns-in-Some-clause-goes_on
returns-in-Some-clause-goes_on c =
    held_words_go c.args.words.now c.args.pass.now c.load_bucket.new.pass c.compare.new.pass c.requires.here c.args.bucket c.in-Some.id
    c.in-Some.ensures.some.seen c.compare.ensures.seen

pub returns-in-Some-clause-told : goal.returns-in-Some-clause-told
returns-in-Some-clause-told c =
    held_tells (IsMissing c.args.pass.now.view c.args.state.now c.compare.new.pass.view) c.args.pass.now c.load_bucket.new.pass c.compare.new.pass
    c.args.bucket c.in-Some.id c.args.state.now c.compare.result c.in-Some.ensures.some.seen c.in-Some.ensures.room c.compare.ensures.seen c.compare.ensures.told
