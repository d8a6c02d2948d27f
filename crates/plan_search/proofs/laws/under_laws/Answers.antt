use Rattle.plan_search.proofs.Known.{known_is_under}
use Rattle.plan_search.proofs.laws.under_laws.Goals as goal

pub returns : goal.returns
returns c = known_is_under
