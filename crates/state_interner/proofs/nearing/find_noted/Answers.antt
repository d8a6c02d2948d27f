-- The first bucket is tried, and then the hints.
use Rattle.state_interner.proofs.Going.{goes_then}
use Rattle.state_interner.proofs.nearing.find_noted.Goals as goal

pub returns-clause-goes_on : goal.returns-clause-goes_on
returns-clause-goes_on c =
    goes_then c.args.words.now c.args.pass.now c.try_bucket.new.pass c.find_by_hints.new.pass c.try_bucket.ensures.goes_on c.find_by_hints.ensures.goes_on
