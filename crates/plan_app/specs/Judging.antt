-- What is said of a certificate that is held under a name, for a ground problem.
--     accepted_at c v             the certificate, where the verdict accepts it; else what is not accepted
--     IsJudgedAs g read r         the same of a certificate that was read, or of bytes that are none
--     IsJudged g told r           the same of the bytes that a name holds, or may hold
--     said_of text r              what is said of it: this text of a certificate that is accepted, else what stops the run
-- Source: sub- and super-solutions of the Bellman equation (decision_process).
use Rattle.std.specs.Prelude.{◌≡◌, ℕ, List, Option, Some, None, Result, Ok, Err}
use Rattle.shelf_io.specs.Shelf.{Told}
use Rattle.certificate.specs.Content.{Content}
use Rattle.certificate_check.specs.declared.verdict.Verdict.{Verdict}
use Rattle.certificate_check.specs.Codes.{number_of, row_of}
use Rattle.certificate_check.specs.Verdicts.{IsVerdict}
use Rattle.ground_model.specs.Ground.{Ground}
use Rattle.plan_request.specs.declared.stop.report.Report.TheVariants.{Done}
use Rattle.plan_request.specs.declared.stop.Stop.{Stop}
use Rattle.plan_request.specs.declared.stop.Stop.TheVariants.{NotAccepted}
use Rattle.plan_request.specs.stop.Stop.{Ending}
use Rattle.plan_sources.specs.Endings.{MayGive}
use Rattle.plan_sources.specs.Sources.{certificate_in}

abbrev pub accepted_by : Content → ℕ → Option ℕ → Result Content Stop
accepted_by c row None = Ok c
accepted_by c row (Some code) = Err (NotAccepted code row)

abbrev pub accepted_at : Content → Verdict → Result Content Stop
accepted_at c v = accepted_by c (row_of v) (number_of v)

abbrev pub IsJudgedAs : Ground → Result Content Stop → Result Content Stop → Type 0
IsJudgedAs g (Ok c) r = (v : Verdict) × IsVerdict g c v × (accepted_at c v ≡ r)
IsJudgedAs g (Err stop) r = Err stop ≡ r

abbrev pub IsJudged : Ground → Told → Result Content Stop → Type 0
IsJudged g told r = (read : Result Content Stop) × MayGive certificate_in told read × IsJudgedAs g read r

abbrev pub said_of : (Content → List ℕ) → Result Content Stop → Ending
said_of text (Ok c) = Ok (Done (text c))
said_of text (Err stop) = Err stop
