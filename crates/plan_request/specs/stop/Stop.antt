-- How a run ends, and what is said then.
--     status_of stop           the status of the program
--     line_of stop             the line that is put; none where a certificate was not written, and none for want of memory
--     stop_of_text e           what stops a run where a text is refused
--     stop_of_certificate e    what stops it where the bytes of a certificate are
--     report_status, report_text
--                              the status of a report, and its text
--     Ending                   a report, or what stops the run before it has one
--     ending_status, ending_text
--                              the status of an ending, and all that is put
use Rattle.std.specs.Prelude.{ℕ, List, [], ◌++◌, Some, None, Result, Ok, Err, codes, decimal}
use Rattle.certificate.specs.Refusals as refusals
use Rattle.certificate.specs.declared.refusal.CertRefusal.{CertRefusal}
use Rattle.ppddl_model.specs.Codes.{number_of}
use Rattle.ppddl_model.specs.declared.refusal.TextRefusal.{TextRefusal}
use Rattle.ppddl_model.specs.declared.refusal.TextRefusal.TheVariants.{Memory, At}
use Rattle.plan_request.specs.declared.stop.status.TheConstants.{DONE, GAP_LEFT, BAD_WORDS, READ_FAILED, WRITE_FAILED, NO_MEMORY, REFUSED, NOT_ACCEPTED, LIMIT}
use Rattle.plan_request.specs.declared.stop.report.Report.{Report}
use Rattle.plan_request.specs.declared.stop.report.Report.TheVariants.{Done, GapLeft}
use Rattle.plan_request.specs.declared.stop.Stop.{Stop}
use Rattle.plan_request.specs.declared.stop.Stop.TheVariants.{BadWords, ReadFailed, WriteFailed, NoMemory, Refused, NotAccepted, SecondNotAccepted, Limit}

abbrev pub status_of : Stop → ℕ
status_of BadWords = BAD_WORDS
status_of ReadFailed = READ_FAILED
status_of WriteFailed = WRITE_FAILED
status_of NoMemory = NO_MEMORY
status_of (Refused code file line) = REFUSED
status_of (NotAccepted code row) = NOT_ACCEPTED
status_of (SecondNotAccepted code row) = NOT_ACCEPTED
status_of (Limit code most) = LIMIT

abbrev pub line_of : Stop → List ℕ
line_of BadWords = codes "bad words\n"
line_of ReadFailed = codes "read failed\n"
line_of WriteFailed = []
line_of NoMemory = []
line_of (Refused code file line) =
    codes "refused " ++ decimal (number_of code) ++ codes " " ++ decimal file ++ codes ":" ++ decimal line ++ codes "\n"
line_of (NotAccepted code row) = codes "not accepted " ++ decimal code ++ codes " " ++ decimal row ++ codes "\n"
line_of (SecondNotAccepted code row) = codes "second not accepted " ++ decimal code ++ codes " " ++ decimal row ++ codes "\n"
line_of (Limit code most) = codes "limit " ++ decimal code ++ codes " " ++ decimal most ++ codes "\n"

-- ---- refusals, as they come

abbrev pub stop_of_text : TextRefusal → Stop
stop_of_text Memory = NoMemory
stop_of_text (At code file line) = Refused code file line

abbrev pub stop_of_certificate : CertRefusal → Stop
stop_of_certificate e = elim (refusals.number_of e) [ None ↦ NoMemory | Some code ↦ NotAccepted code (refusals.line_of e) ]

-- ---- endings

abbrev pub report_status : Report → ℕ
report_status (Done text) = DONE
report_status (GapLeft text) = GAP_LEFT

abbrev pub report_text : Report → List ℕ
report_text (Done text) = text
report_text (GapLeft text) = text

abbrev pub Ending : Type 0
Ending = Result Report Stop

abbrev pub ending_status : Ending → ℕ
ending_status (Ok report) = report_status report
ending_status (Err stop) = status_of stop

abbrev pub ending_text : Ending → List ℕ
ending_text (Ok report) = report_text report
ending_text (Err stop) = line_of stop
