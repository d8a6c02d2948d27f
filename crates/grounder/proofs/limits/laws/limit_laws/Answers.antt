use Rattle.grounder.proofs.lemmas.limits.Beginning.{limits_begin}
use Rattle.grounder.proofs.limits.laws.limit_laws.Goals as goal

pub returns : goal.returns
returns c = limits_begin
