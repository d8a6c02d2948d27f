use Rattle.plan_request.proofs.Ranges.{in_range}
use Rattle.plan_request.proofs.laws.request_laws.Goals as goal

pub returns : goal.returns
returns c = in_range
