-- An empty bucket, or an id whose state is compared.
use Rattle.state_interner.proofs.Going.{empty_goes, held_words_go}
use Rattle.state_interner.proofs.nearing.try_bucket.Goals as goal

pub returns-in_err-held-clause-goes_on : goal.returns-in_err-held-clause-goes_on
returns-in_err-held-clause-goes_on c =
    empty_goes c.args.words.now c.args.pass.now c.load_bucket.new.pass c.requires.here c.args.bucket c.in_err-held.ensures.none

pub returns-in-Own-clause-goes_on : goal.returns-in-Own-clause-goes_on
returns-in-Own-clause-goes_on c =
    held_words_go c.args.words.now c.args.pass.now c.load_bucket.new.pass c.compare.new.pass c.requires.here c.args.bucket c.in_ok-held.held
    c.in_ok-held.ensures.some.seen c.compare.ensures.seen

pub returns-in_default-clause-goes_on : goal.returns-in_default-clause-goes_on
returns-in_default-clause-goes_on c =
    held_words_go c.args.words.now c.args.pass.now c.load_bucket.new.pass c.compare.new.pass c.requires.here c.args.bucket c.in_ok-held.held
    c.in_ok-held.ensures.some.seen c.compare.ensures.seen
