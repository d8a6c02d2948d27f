-- A third pass has met both.
use Rattle.state_interner.proofs.Meeting.{both_have_one_each}
use Rattle.state_interner.proofs.agreeing.agree.Goals as goal

pub returns-clause-one : goal.returns-clause-one
returns-clause-one c =
    both_have_one_each c.args.words.now c.args.pass.now c.args.other.now c.split-both.result c.meet.new.pass c.requires.here.0 c.requires.here.1
    c.split-both.ensures.new c.meet.ensures.pass c.load_count.ensures.one
