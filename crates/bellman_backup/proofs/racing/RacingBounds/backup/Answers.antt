use Rattle.bellman_backup.proofs.Answering.{backed_unplaced}
use Rattle.bellman_backup.proofs.Racers.{races_still}
use Rattle.bellman_backup.proofs.racing.RacingBounds.backup.Goals as goal

pub invariant_of-self : goal.invariant_of-self
invariant_of-self c =
    let self = c.args.self.now in record {
      ready = races_still self.words.now self.pass c.backup.new.pass self.scratch c.backup.new.scratch self.ready c.backup.ensures.keeps c.backup.ensures.scratch;
    }

pub returns-clause-unplaced : goal.returns-clause-unplaced
returns-clause-unplaced c =
    let self = c.args.self.now in
    backed_unplaced self.words.now.problem self.pass.view c.backup.new.pass.view c.args.id c.backup.new.scratch.last c.backup.ensures.backed
