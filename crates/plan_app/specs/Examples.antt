-- Worked examples, which compute: what is said of a certificate and of a search, and what stops a run behind a server.
use Rattle.std.specs.Prelude.{◌≡◌, true, false, [], Some, None, Ok, Err, refl}
use Rattle.certificate.specs.Content.{Content}
use Rattle.certificate_check.specs.declared.verdict.Verdict.TheVariants.{Accepted, Lower, Ends}
use Rattle.plan_request.specs.declared.stop.report.Report.TheVariants.{Done}
use Rattle.plan_request.specs.declared.stop.Stop.TheVariants.{ReadFailed, NotAccepted, SecondNotAccepted}
use Rattle.plan_report.specs.Reports.{accepted_text}
use Rattle.plan_search.specs.Serving.{stop_of}
use Rattle.policy_server.specs.declared.serve_end.ServeEnd.TheVariants as ends
use Rattle.plan_request.specs.stop.Stop.{ending_status}
use Rattle.plan_app.specs.Judging.{accepted_at, said_of}
use Rattle.plan_app.specs.Merging.{second_stop}
use Rattle.plan_app.specs.Endings.{said_by}

a_failed_read_stops_behind_a_server : stop_of ends.ReadFault ≡ Some ReadFailed
a_failed_read_stops_behind_a_server = refl

a_long_line_stops_no_search : stop_of ends.LongLine ≡ None
a_long_line_stops_no_search = refl

converged_is_zero : ending_status (Ok (said_by true [])) ≡ 0
converged_is_zero = refl

gap_left_is_one : ending_status (Ok (said_by false [])) ≡ 1
gap_left_is_one = refl

abbrev close : Content
close = record { version = 2; penalty = 10000000; lower = 1999999; upper = 2000001; atoms = []; acts = []; rows = [] }

accepted : said_of accepted_text (accepted_at close Accepted) ≡ Ok (Done (accepted_text close))
accepted = refl

second_row : said_of accepted_text (accepted_at close (Lower 2)) ≡ Err (NotAccepted 34 2)
second_row = refl

wrong_interval : said_of accepted_text (accepted_at close Ends) ≡ Err (NotAccepted 37 0)
wrong_interval = refl

not_accepted_is_seven : ending_status (said_of accepted_text (accepted_at close Ends)) ≡ 7
not_accepted_is_seven = refl

the_second_is_told_apart : second_stop (NotAccepted 35 1) ≡ SecondNotAccepted 35 1
the_second_is_told_apart = refl
