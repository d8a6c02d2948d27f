use Prim.Native.Nat.{◌+◌, ◌*◌}
use Rattle.std.proofs.Common.{length}
use Rattle.trial_workers.proofs.calls.+places.Given as goal

abbrev pub decreases-call_each : goal.decreases-call_each
decreases-call_each g l = 3 * length l.places.now

abbrev pub decreases-call_both : goal.decreases-call_both
decreases-call_both g l = 3 * length l.others.now + 2

abbrev pub decreases-call_both-rest : goal.decreases-call_both-rest
decreases-call_both-rest g l = 3 * length l.others.now + 1
