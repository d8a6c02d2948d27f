use Rattle.plan_report.proofs.Known.{reports_agree}
use Rattle.plan_report.proofs.laws.report_laws.Goals as goal

pub returns : goal.returns
returns c = reports_agree
