use Rattle.bellman_backup.proofs.Racers.{ready_is_racing}
use Rattle.bellman_backup.proofs.racing.Racing.new.Goals as goal

pub invariant_of-result : goal.invariant_of-result
invariant_of-result c = record { ready = ready_is_racing c.args.words.now c.args.pass c.args.scratch c.requires }
