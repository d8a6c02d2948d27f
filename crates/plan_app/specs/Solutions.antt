-- What a search that ended with a report found, and what was put.
--     IsAsNarrowAsPlain p starts den swept most gap rounds lower upper
--                                   the interval lies within that of plain rounded iteration of as many of the rounds as reach the
--                                   starts from the swept states; it is wider than the gap only behind the most rounds, and then so is
--                                   that of plain iteration; with rounds above 0, plain iteration of the rounds before the last is wider
--                                   than the gap
--     FindsStates task charges swept rows count
--                                   so many states of the task were found: they are distinct and can be reached, and those near the
--                                   starts, to the depth that the swept states reach, and those of the rows are among them
--     Solves s t effort sizes status
--                                   a certificate was found for the ground problem of the texts, which encloses the cost of their task
--                                   and whose policy ends, and the status says whether its interval is as narrow as was asked for
--     report_of found               the report of such a search
--     PutsSolution s t status now answers old new
--                                   the certificate that was found is held now, where it is accepted, and the report was put behind these
--                                   answers, which are none but those of a server
--     TellsOfTask g task charges swept r
--                                   the interval that a reply tells covers the least cost of the task from the state for which it was
--                                   asked; a state that was not found is far from the task's starts
--     PutsService s t status now from to old new
--                                   the same behind the answers to all queries that the input completes, up to the 100,000th and to the
--                                   first line that is too long; the certificate is no wider at a state than any answer that told of it
--     PutsMeasure places seed status old new
--                                   the line of places was solved so, and the report was put
-- Sources: plain rounded iteration is value iteration from both sides; penalties for dead ends are those of Kolobov, Mausam and Weld
-- (2012), and the interval is that of BRTDP (McMahan, Likhachev and Gordon 2005).
use Rattle.std.specs.Prelude.{◌≡◌, ◌≢◌, ◌↔◌, ℕ, ◌+◌, ◌-◌, ◌*◌, ◌<◌, ◌≤◌, List, ◌++◌, length, Option, None, Ok, Contains, AllPairs}
use Rattle.std.specs.List.{AllByRecursion}
use Rattle.std.specs.Io.KnownBytes.{Appends}
use Rattle.shelf_io.specs.Shelf.{Told, Holds}
use Rattle.decision_process.specs.sweeps.Sweeps.{rounds_at, IsNear}
use Rattle.certificate.specs.Content.{Content, text_of}
use Rattle.certificate_check.specs.Claims.{ground_certificate}
use Rattle.decision_process.specs.Enclosing.{Encloses}
use Rattle.decision_process.specs.Least.{Covers}
use Rattle.decision_process.specs.Levels.{IsReachable, IsDepthWithin}
use Rattle.decision_process.specs.Process.{Process, Start}
use Rattle.decision_process.specs.Readings.{Row, act, IsBalancedCertificate}
use Rattle.decision_process.specs.Rounded.{plain_low, plain_high}
use Rattle.ppddl_model.specs.declared.tree.Task.{Task}
use Rattle.ppddl_model.specs.State.{State, same_state}
use Rattle.ppddl_model.specs.Steps.{Instance, Charges, process, starts, start_den, least_step_cost}
use Rattle.ground_meaning.specs.progress.Width.{IsNarrow}
use Rattle.ground_meaning.specs.stands.Stands.{state_of}
use Rattle.ground_model.specs.Ground.{Ground}
use Rattle.ground_model.specs.Steps.{ground_process, ground_starts}
use Rattle.plan_app.specs.certificates.Named.{names_certificate}
use Rattle.plan_request.specs.declared.effort.Effort.{Effort}
use Rattle.plan_request.specs.declared.sizes.Sizes.{Sizes}
use Rattle.plan_request.specs.Asked.{Sources, Solving}
use Rattle.plan_report.specs.Solved.{Solved, solve_text}
use Rattle.plan_search.specs.Found.{IsFound}
use Rattle.plan_search.specs.Serving.{stop_of, KeepsEach}
use Rattle.plan_search.specs.service.Served.{IsFar}
use Rattle.policy_server.specs.declared.served.Served.{Served}
use Rattle.policy_server.specs.Replies.{Reply, NoQuery, NoAtom, Unvisited, Found}
use Rattle.policy_server.specs.Serving.{Input}
use Rattle.plan_request.specs.declared.stop.status.TheConstants.{DONE}
use Rattle.plan_sources.specs.declared.texts.Texts.{Texts}
use Rattle.plan_sources.specs.Problems.{one_text, problem_of}
use Rattle.plan_sources.specs.Laws.{StandsForTexts}
use Rattle.plan_report.specs.Line.{line_text}
use Rattle.plan_app.specs.Endings.{Answered, exchange}
use Rattle.plan_app.specs.Measuring.{line_sources, bench_effort, bench_sizes, bench_line}
use Rattle.plan_app.specs.Verdicts.{IsAccepted, PolicyEnds}

module _ {S A : Type 0} (p : Process S A) (starts : List (Start S)) (den : ℕ) where
  pub record IsAsNarrowAsPlain (swept most gap rounds lower upper : ℕ) : Type 0 where
    pub depth : Option ℕ
    pub fits : IsDepthWithin p starts swept depth
    pub within_most : rounds ≤ most
    pub low : plain_low p starts den (rounds_at depth rounds 1) ≤ lower
    pub high : upper ≤ plain_high p starts den (rounds_at depth rounds 1)
    pub all_rounds : lower + gap < upper → rounds ≡ most
    pub early : 0 < rounds
        → plain_low p starts den (rounds_at depth (rounds - 1) 1) + gap < plain_high p starts den (rounds_at depth (rounds - 1) 1)
    pub plain_is_wide : lower + gap < upper
        → plain_low p starts den (rounds_at depth most 1) + gap < plain_high p starts den (rounds_at depth most 1)

pub record FindsStates (task : Task) (charges : Charges) (swept : ℕ) (rows : List (Row State Instance)) (count : ℕ) : Type 0 where
  pub depth : Option ℕ
  pub fits : IsDepthWithin (process task charges) (starts task) swept depth
  pub states : List State
  pub count_is : count ≡ length states
  pub distinct : AllPairs (λ (t u : State). t ≢ u) states
  pub reached : (t : State) → Contains states t → IsReachable (process task charges) (starts task) t
  pub near : (t : State) → IsNear (process task charges) (starts task) depth t → Contains states t
  pub of_rows : (row : Row State Instance) → Contains rows row → Contains states row.state

pub record Solves (s : Sources) (t : Texts) (effort : Effort) (sizes : Sizes) (status : ℕ) : Type 0 where
  pub g : Ground
  pub c : Content
  pub summary : Solved
  pub problem : problem_of s t ≡ Ok g
  pub found : IsFound g effort sizes c summary
  pub converged : (status ≡ DONE) ↔ (c.upper ≤ c.lower + effort.gap)
  pub is_narrow : IsAsNarrowAsPlain (ground_process g) (ground_starts g) g.start_den
      sizes.sweep_states effort.rounds effort.gap summary.rounds c.lower c.upper
  -- of the task
  pub of_task : StandsForTexts s t g
  pub balanced : IsBalancedCertificate (process of_task.task of_task.charges) same_state
      (starts of_task.task) (start_den of_task.task) (names_certificate of_task.task c)
  pub encloses : Encloses (process of_task.task of_task.charges) (starts of_task.task) (start_den of_task.task)
      c.lower c.upper (act same_state (names_certificate of_task.task c).rows)
  pub ends : PolicyEnds of_task.task of_task.charges c
  pub is_narrow_for_task : IsAsNarrowAsPlain (process of_task.task of_task.charges) (starts of_task.task) (start_den of_task.task)
      sizes.sweep_states effort.rounds effort.gap summary.rounds c.lower c.upper
  pub finds : FindsStates of_task.task of_task.charges sizes.sweep_states (names_certificate of_task.task c).rows summary.states
  -- how wide the interval is at most, known beforehand: each step costs at least k + 1, and N is at least twice the penalty over k
  pub width : (k N m : ℕ) → k + 1 ≤ least_step_cost of_task.task of_task.charges → 2 * of_task.charges.penalty ≤ N * k
      → m * N ≤ rounds_at is_narrow_for_task.depth summary.rounds 1
      → IsNarrow of_task.charges.penalty k m (c.lower + 2) c.upper

module _ {s : Sources} {t : Texts} {effort : Effort} {sizes : Sizes} {status : ℕ} where
  abbrev pub report_of : Solves s t effort sizes status → List ℕ
  report_of found = solve_text found.g (ground_certificate found.g found.c).rows found.summary

pub record PutsSolution (s : Solving) (t : Texts) (status : ℕ) (now : Told) (answers : List ℕ) (old new : Option (List ℕ)) : Type 0 where
  pub solves : Solves s.sources t s.effort s.sizes status
  pub holds : now ≡ Holds (text_of solves.c)
  pub accepted : IsAccepted s.sources t (text_of solves.c)
  pub put : Appends old new (answers ++ report_of solves)

abbrev pub TellsOfTask : Ground → Task → Charges → ℕ → Reply → Type 0
TellsOfTask g task charges swept NoQuery = Unit {0}
TellsOfTask g task charges swept NoAtom = Unit {0}
TellsOfTask g task charges swept (Unvisited s) = IsFar (process task charges) (starts task) swept (state_of g task s)
TellsOfTask g task charges swept (Found s id i) = Covers (process task charges) i.lower i.upper (state_of g task s)

pub record PutsService (s : Solving) (t : Texts) (status : ℕ) (now : Told) (from to : Input) (old new : Option (List ℕ)) : Type 0 where
  pub answers : List ℕ
  pub solution : PutsSolution s t status now answers old new
  pub served : Served
  pub replies : List Reply
  pub answered : Answered solution.solves.g s.sizes.sweep_states (exchange from to answers) served replies
  pub of_task : AllByRecursion
      (TellsOfTask solution.solves.g solution.solves.of_task.task solution.solves.of_task.charges s.sizes.sweep_states) replies
  pub no_fault : stop_of served.end ≡ None
  pub kept : KeepsEach solution.solves.g solution.solves.c replies

pub record PutsMeasure (places seed : ℕ) (status : ℕ) (old new : Option (List ℕ)) : Type 0 where
  pub solves : Solves line_sources (one_text (line_text places seed)) (bench_effort seed) bench_sizes status
  pub put : Appends old new (bench_line places seed ++ report_of solves)
