use Rattle.certificate.proofs.Cuts.{behind_found}
use Rattle.certificate.proofs.reading.fields.behind.Goals as goal

pub returns : goal.returns
returns c = behind_found c.args.front.now c.args.text.now c.strip_prefix.result c.strip_prefix.ensures.cases
