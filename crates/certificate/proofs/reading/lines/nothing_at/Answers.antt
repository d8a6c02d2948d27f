use Rattle.std.proofs.Common.{◌∙◌, sym}
use Rattle.certificate.proofs.Given.{something}
use Rattle.certificate.proofs.reading.lines.nothing_at.Goals as goal

pub returns-then-not-is_empty : goal.returns-then-not-is_empty
returns-then-not-is_empty c = sym (something c.args.line c.args.bytes.now (sym c.is_empty.ensures ∙ c.if-not-is_empty.true))
