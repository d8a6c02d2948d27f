-- A crew may go to another thread.
use denote.Param.Send.{IsSend, sendable}
use Rattle.std.proofs.Crossing.{crosses}
use Rattle.trial_workers.specs.contracts.crew.Crew as crew
use Rattle.trial_workers.proofs.Sending.{worker_send}

pub crew_send : (ℓ : _) → IsSend (crew.the_row ℓ)
crew_send ℓ = search (sendable, crosses, worker_send) depth 30
