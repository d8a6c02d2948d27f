use Rattle.certificate.proofs.Given.{line_given}
use Rattle.certificate.proofs.reading.lines.line_at.Goals as goal

pub returns : goal.returns
returns c = rw c.ok_or.ensures.value (line_given c.args.line c.args.bytes.now c.cut.result c.cut.ensures)
