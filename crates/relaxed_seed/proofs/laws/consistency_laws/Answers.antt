use Rattle.relaxed_seed.proofs.ConsistentUnder.{consistent_is_under}
use Rattle.relaxed_seed.proofs.laws.consistency_laws.Goals as goal

pub returns : goal.returns
returns g c = record { under = λ p. consistent_is_under p }
