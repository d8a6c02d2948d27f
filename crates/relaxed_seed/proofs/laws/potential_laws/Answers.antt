use Rattle.relaxed_seed.proofs.Greatest.{has_greatest, greatest_agree, has_relaxed, relaxed_is_determined}
use Rattle.relaxed_seed.proofs.Consistency.{relaxed_is_consistent, relaxed_is_under}
use Rattle.relaxed_seed.proofs.laws.potential_laws.Goals as goal

pub returns-clause-greatest : goal.returns-clause-greatest
returns-clause-greatest c = λ g valid. has_greatest g valid

pub returns-clause-agree : goal.returns-clause-agree
returns-clause-agree c = λ g. greatest_agree g

pub returns-clause-relaxed : goal.returns-clause-relaxed
returns-clause-relaxed c = λ g valid. has_relaxed g valid

pub returns-clause-determined : goal.returns-clause-determined
returns-clause-determined c = λ g. relaxed_is_determined g

pub returns-clause-consistent : goal.returns-clause-consistent
returns-clause-consistent c = λ g valid. relaxed_is_consistent g valid

pub returns-clause-under : goal.returns-clause-under
returns-clause-under c = λ g valid. relaxed_is_under g valid
