use Rattle.std.proofs.Common.{subst}
use Rattle.certificate.specs.Answers.{GivesCertificate}
use Rattle.certificate.proofs.TextLaws.{is_found, text_is_read}
use Rattle.certificate.proofs.reading.read.Goals as goal

pub returns-clause-found : goal.returns-clause-found
returns-clause-found c = is_found c.args.bytes.now c.read_bytes.result c.read_bytes.ensures

pub returns-clause-only : goal.returns-clause-only
returns-clause-only c = λ d short is. subst (GivesCertificate (λ found. found) c.read_bytes.result) (text_is_read c.args.bytes.now d short is) c.read_bytes.ensures
