use Rattle.plan_report.proofs.Telling.{state_text_is_short}
use Rattle.plan_report.proofs.laws.account_laws.Goals as goal

pub returns : goal.returns
returns c = state_text_is_short
