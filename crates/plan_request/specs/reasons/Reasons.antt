-- Why a run was stopped, as a line for its user.
--     Names                    the names under which a request reads texts and certificates, and writes one
--     names_of q               those of a request; empty where it has none
--     text_name names file     the name of text 1 or 2
--     place_of name code row   the certificate, with the line or the row, if the fault is at one
--     certificate_line name code row
--                              the line of a certificate that is not accepted
--     limited_name names code  the certificate that would be written, or the text of the domain
--     above_limit code most    that a quantity is above its limit
--     limit_line name code most
--                              the line of it
--     reason_under names stop  the line of a refused text, of a certificate, and of a limit; none of other stops
--     words_sentence words     what is at fault in words that ask for nothing
--     reason_of_words words    the line of it, and behind it how to call the command
--     reason_of words stop     that of what the words ask for, or of the words where they ask for nothing
use Rattle.std.specs.Prelude.{ℕ, ◌||◌, nat_eq, if◌then◌else◌, List, [], ◌++◌, Option, Some, None, unwrap_or, codes, decimal}
use Rattle.plan_request.specs.words.Words.{Text}
use Rattle.plan_request.specs.Asked.{Asked, Sources, to_solve, to_check, to_serve, to_ground, to_bench, to_merge, to_walk, to_draw, request_of}
use Rattle.plan_request.specs.declared.stop.Stop.{Stop}
use Rattle.plan_request.specs.declared.stop.Stop.TheVariants.{BadWords, ReadFailed, WriteFailed, NoMemory, Refused, NotAccepted, SecondNotAccepted, Limit}
use Rattle.plan_request.specs.words.Faults.{Fault, fault_of}
use Rattle.plan_request.specs.reasons.Sentences.{reason_of_text, reason_of_certificate, names_line, reason_of_limit, reason_of_fault, reason_of_value}
use Rattle.plan_request.specs.reasons.Values.{fault_of_values}
use Rattle.plan_request.specs.reasons.Usage.{usages}

pub record Names : Type 0 where
  -- the text of the domain, and that of the problem, which may be the same
  pub domain : Text
  pub problem : Text
  -- the certificate that is read, and the second one
  pub certificate : Text
  pub second : Text
  -- the certificate that is written
  pub written : Text

abbrev pub names_with : Sources → Text → Text → Text → Names
names_with s certificate second written = record {
  domain = s.domain;
  problem = unwrap_or s.problem s.domain;
  certificate = certificate;
  second = second;
  written = written;
}

abbrev pub names_of : Asked → Names
names_of (to_solve s) = names_with s.sources [] [] s.certificate
names_of (to_check s f) = names_with s f [] []
names_of (to_serve s) = names_with s.sources [] [] s.certificate
names_of (to_ground s) = names_with s [] [] []
names_of (to_bench places seed) = record { domain = []; problem = []; certificate = []; second = []; written = [] }
names_of (to_merge m) = names_with m.sources m.first m.second m.into
names_of (to_walk w) = names_with w.sources w.certificate [] []
names_of (to_draw d) = names_with d.sources d.certificate [] []

abbrev pub text_name : Names → ℕ → Text
text_name names file = if nat_eq file 2 then names.problem else names.domain

abbrev pub place_of : Text → ℕ → ℕ → List ℕ
place_of name code row =
    if nat_eq row 0 then name
    else if names_line code then name ++ (codes ":" ++ decimal row)
    else name ++ (codes ": row " ++ decimal row)

abbrev pub certificate_line : Text → ℕ → ℕ → List ℕ
certificate_line name code row = place_of name code row ++ (codes ": " ++ (reason_of_certificate code ++ codes "\n"))

abbrev pub limited_name : Names → ℕ → Text
limited_name names code = if nat_eq code 33 || nat_eq code 41 then names.written else names.domain

abbrev pub above_limit : ℕ → ℕ → List ℕ
above_limit code most = codes "more than " ++ (decimal most ++ (codes " " ++ reason_of_limit code))

abbrev pub limit_line : Text → ℕ → ℕ → List ℕ
limit_line name code most = name ++ (codes ": " ++ (above_limit code most ++ codes "\n"))

abbrev pub reason_under : Names → Stop → List ℕ
reason_under names (Refused code file line) =
    text_name names file ++ (codes ":" ++ (decimal line ++ (codes ": " ++ (reason_of_text code ++ codes "\n"))))
reason_under names (NotAccepted code row) = certificate_line names.certificate code row
reason_under names (SecondNotAccepted code row) = certificate_line names.second code row
reason_under names (Limit code most) = limit_line (limited_name names code) code most
reason_under names BadWords = []
reason_under names ReadFailed = []
reason_under names WriteFailed = []
reason_under names NoMemory = []

abbrev pub sentence_by : List Text → Option Fault → List ℕ
sentence_by words (Some fault) = reason_of_fault fault
sentence_by words None = reason_of_value (fault_of_values words)

abbrev pub words_sentence : List Text → List ℕ
words_sentence words = sentence_by words (fault_of words)

abbrev pub reason_of_words : List Text → List ℕ
reason_of_words words = codes "bad words: " ++ (words_sentence words ++ (codes "\n" ++ usages words))

abbrev pub reason_asked : List Text → Stop → Option Asked → List ℕ
reason_asked words stop None = reason_of_words words
reason_asked words stop (Some q) = reason_under (names_of q) stop

abbrev pub reason_of : List Text → Stop → List ℕ
reason_of words stop = reason_asked words stop (request_of words)
