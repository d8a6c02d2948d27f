-- What a search found that was reported, of the ground problem and of the task.
use Rattle.std.proofs.Common.{◌≡◌, ◌≢◌, ℕ, ◌+◌, ◌-◌, ◌*◌, ◌^◌, ◌<◌, ◌≤◌, inl, inr, Bool, true, false, List, [], ◌++◌, length, append-nil, refl, sym, ap, ◌∙◌, subst, arith, Option, Some, None, Result, Ok, Err}
use Rattle.std.specs.Prelude.{◌↔◌, IsTrue}
use Rattle.std.proofs.Math.Nat.{mul-le-mul_left}
use Rattle.std.specs.Borrow.{Bor}
use Rattle.std.specs.Io.KnownBytes.{Appends, append_known}
use Rattle.shelf_io.specs.Shelf.{Told, Untold, Missing, Holds, written}
use Rattle.decision_process.specs.sweeps.Sweeps.{rounds_at}
use Rattle.certificate.specs.Content.{Content, text_of, most_bytes}
use Rattle.certificate_check.specs.Claims.{ground_certificate, IsBalancedFor}
use Rattle.decision_process.specs.Levels.{IsDepthWithin}
use Rattle.decision_process.specs.Process.{Process, Start}
use Rattle.decision_process.specs.Rounded.{plain_low, plain_high}
use Rattle.ppddl_model.specs.declared.tree.Task.{Task}
use Rattle.ppddl_model.specs.Laws.{WellFormedSums, ChancesAreProper, StartsAreProper}
use Rattle.ppddl_model.specs.Steps.{Charges, process, starts, start_den}
use Rattle.ground_meaning.specs.progress.Width.{IsNarrow}
use Rattle.ground_meaning.specs.progress.Laws.{TaskIntervalNarrows}
use Rattle.ground_model.specs.Ground.{Ground}
use Rattle.ground_model.specs.Steps.{ground_process, ground_starts}
use Rattle.ground_meaning.specs.stands.Stands.{IsGroundOf}
use Rattle.ground_meaning.specs.stands.Laws.{IsCarried, StatesAreFound, NearIsCarried, NearIsFound, SameLeast, SamePlain, SameDepth}
use Rattle.plan_app.specs.certificates.Laws.{IsCarried as CertificatesAreCarried, NamesAreCarried, BalanceIsCarried, TaskIsEnclosed, TaskPolicyEnds}
use Rattle.plan_request.specs.declared.effort.Effort.{Effort}
use Rattle.plan_request.specs.declared.sizes.Sizes.{Sizes}
use Rattle.plan_request.specs.declared.lower.Lower.{Lower}
use Rattle.plan_request.specs.declared.lower.Lower.TheVariants as lowers
use Rattle.plan_request.specs.Asked.{Sources, Solving, to_solve, to_serve, to_bench}
use Rattle.plan_request.specs.Laws.{AreTerms}
use Rattle.plan_report.specs.Line.{line_text}
use Rattle.plan_report.specs.declared.ending.Ending.TheVariants.{Converged}
use Rattle.plan_report.specs.Reports.{under_line}
use Rattle.plan_report.specs.Solved.{Solved}
use Rattle.plan_search.specs.Found.{IsFound}
use Rattle.plan_search.specs.declared.answer.Answer.{Answer}
use Rattle.plan_search.specs.Answers.{IsAnswerOf}
use Rattle.plan_search.specs.Under.{IsUnderBy, IsTold, under_lines, with_report, IsAnswerWith}
use Rattle.plan_search.specs.Serving.{stop_of, IsServiceOf, KeepsEach}
use Rattle.policy_server.specs.declared.serve_end.ServeEnd.{ServeEnd}
use Rattle.policy_server.specs.declared.served.Served.{Served}
use Rattle.policy_server.specs.Replies.{Reply}
use Rattle.policy_server.specs.Lines.{queries_of}
use Rattle.policy_server.specs.Serving.{Input}
use Rattle.plan_request.specs.declared.stop.Stop.{Stop}
use Rattle.plan_request.specs.declared.stop.Stop.TheVariants.{BadWords, ReadFailed, WriteFailed, NoMemory, Refused, NotAccepted, SecondNotAccepted, Limit}
use Rattle.plan_request.specs.stop.Stop.{Ending, report_status, report_text, ending_status, ending_text, status_of}
use Rattle.plan_sources.specs.declared.texts.Texts.{Texts}
use Rattle.plan_sources.specs.Problems.{one_text, problem_of}
use Rattle.plan_sources.specs.Laws.{IsOfTexts, OneProblemIsTold, TextsStopSo, ProblemStands}
use Rattle.plan_app.specs.Asking.{Asks}
use Rattle.plan_app.specs.Measuring.{line_sources, line_problem, bench_effort, bench_sizes, bench_line}
use Rattle.plan_app.specs.Endings.{said_by, IsMeasured, exchange, Answered, AnswersLine, IsWritten, AnswersSearch, AnswersSolve, EndsBehind, HasService, MayEndAs}
use Rattle.plan_app.specs.Verdicts.{TellsSearch, HasVerdict, HasReport}
use Rattle.plan_app.specs.Solutions.{IsAsNarrowAsPlain, Solves, PutsSolution, PutsService, PutsMeasure}
use Rattle.plan_app.specs.Below.{IsToldBelow, IsToldByCost, PutsBelow, PutsSolved}
use Rattle.plan_app.proofs.Below.{appends_known, appends_rest, told_below, told_by_cost}
use Rattle.plan_app.proofs.Named.{names_balanced, names_enclose, names_end}
use Rattle.plan_app.proofs.Replies.{replies_tell}
use Rattle.plan_app.proofs.States.{states_found}
use Rattle.plan_app.proofs.Exchanges.{stops_by_fault}
use Rattle.plan_app.proofs.Statuses.{answered_so, request_ends, answers_of}

-- ---- intervals

wider : (lo l u hi gap : ℕ) → lo ≤ l → u ≤ hi → l + gap < u → lo + gap < hi
wider lo l u hi gap below above wide = omega (arith, below, above, wide)

same_wide : (a a' b b' gap : ℕ) → a ≡ a' → b ≡ b' → a + gap < b → a' + gap < b'
same_wide a a' b b' gap low high wide = omega (arith, low, high, wide)

module _ (g : Ground) (effort : Effort) (sizes : Sizes) (c : Content) (x : Solved) (found : IsFound g effort sizes c x) where
  -- what is wider than the gap did not converge
  not_converged : c.lower + effort.gap < c.upper → x.ending ≢ Converged
  not_converged wide = λ is. omega (arith, wide, found.converged.0 is)

  abbrev low_after : ℕ → ℕ
  low_after r = plain_low (ground_process g) (ground_starts g) g.start_den (rounds_at found.depth r 1)

  abbrev high_after : ℕ → ℕ
  high_after r = plain_high (ground_process g) (ground_starts g) g.start_den (rounds_at found.depth r 1)

  pub found_narrow : IsAsNarrowAsPlain (ground_process g) (ground_starts g) g.start_den
      sizes.sweep_states effort.rounds effort.gap x.rounds c.lower c.upper
  found_narrow = record {
    depth = found.depth;
    fits = found.fits;
    within_most = found.rounds;
    low = found.low;
    high = found.high;
    all_rounds = λ wide. found.all_rounds (not_converged wide);
    early = found.early;
    plain_is_wide = λ wide.
        subst (λ r. low_after r + effort.gap < high_after r) (found.all_rounds (not_converged wide))
        (wider (low_after x.rounds) c.lower c.upper (high_after x.rounds) effort.gap found.low found.high wide);
  }

-- as narrow over one process as over another that has the same depths and the same plain iteration
narrow_carried : {S A T B : Type 0} (p : Process S A) (from : List (Start S)) (d : ℕ) (q : Process T B) (from' : List (Start T)) (d' : ℕ)
    → ((k : ℕ) (depth : Option ℕ) → IsDepthWithin p from k depth ↔ IsDepthWithin q from' k depth)
    → ((k : ℕ) → (plain_low p from d k ≡ plain_low q from' d' k) × (plain_high p from d k ≡ plain_high q from' d' k))
    → (swept most gap rounds lower upper : ℕ)
    → IsAsNarrowAsPlain p from d swept most gap rounds lower upper → IsAsNarrowAsPlain q from' d' swept most gap rounds lower upper
narrow_carried p from d q from' d' depths plain swept most gap rounds lower upper is = record {
  depth = is.depth;
  fits = (depths swept is.depth).0 is.fits;
  within_most = is.within_most;
  low = subst (λ n. n ≤ lower) (plain (rounds_at is.depth rounds 1)).0 is.low;
  high = subst (λ n. upper ≤ n) (plain (rounds_at is.depth rounds 1)).1 is.high;
  all_rounds = is.all_rounds;
  early = λ some.
      same_wide _ _ _ _ gap (plain (rounds_at is.depth (rounds - 1) 1)).0 (plain (rounds_at is.depth (rounds - 1) 1)).1 (is.early some);
  plain_is_wide = λ wide.
      same_wide _ _ _ _ gap (plain (rounds_at is.depth most 1)).0 (plain (rounds_at is.depth most 1)).1 (is.plain_is_wide wide);
}

-- an interval within a narrow one is narrow
narrow_within : (penalty k m lo hi lower upper : ℕ) → lo ≤ lower → upper ≤ hi → IsNarrow penalty k m (lo + 2) hi → IsNarrow penalty k m (lower + 2) upper
narrow_within penalty k m lo hi lower upper below above is =
    let up : k * 2 ^ m * upper ≤ k * 2 ^ m * hi = mul-le-mul_left (k * 2 ^ m) above in
    let two_more : lo + 2 ≤ lower + 2 = omega (arith, below) in
    let low : k * 2 ^ m * (lo + 2) ≤ k * 2 ^ m * (lower + 2) = mul-le-mul_left (k * 2 ^ m) two_more in
    within (k * 2 ^ m * upper) (k * 2 ^ m * hi) (k * 2 ^ m * (lo + 2)) (k * 2 ^ m * (lower + 2)) (k * penalty) (2 ^ (m + 1) * penalty) up low is
  where
    within : (a b c d e f : ℕ) → a ≤ b → c ≤ d → b ≤ c + e + f → a ≤ d + e + f
    within a b c d e f x y z = omega (arith, x, y, z)

-- ---- what is said of a search

said_status : (b : Bool) (text : List ℕ) (P Q : Type 0) → IsTrue b ↔ P → P ↔ Q → (report_status (said_by b text) ≡ 0) ↔ Q
said_status true text P Q is also = ((λ zero. also.0 (is.0 refl)), (λ holds. refl))
said_status false text P Q is also = ((λ one. absurd (omega (arith, one))), (λ holds. absurd (cc (is.1 (also.1 holds)))))

pub said_text : (b : Bool) (text : List ℕ) → report_text (said_by b text) ≡ text
said_text true text = refl
said_text false text = refl

pub told_written : (told : Told) (bytes : List ℕ) → told ≢ Untold → written told bytes ≡ Holds bytes
told_written Untold bytes tells = absurd (tells refl)
told_written Missing bytes tells = refl
told_written (Holds before) bytes tells = refl

-- no other ending has status 0 or 1
text_status : (stop : Stop) → IsOfTexts stop → HasReport (status_of stop) → ⊥
text_status (Refused code file line) so is = elim is [ inl zero ↦ omega (arith, zero) | inr one ↦ omega (arith, one) ]
text_status (Limit code most) so is = elim is [ inl zero ↦ omega (arith, zero) | inr one ↦ omega (arith, one) ]
text_status BadWords so is = absurd so
text_status ReadFailed so is = absurd so
text_status WriteFailed so is = absurd so
text_status NoMemory so is = absurd so
text_status (NotAccepted code row) so is = absurd so
text_status (SecondNotAccepted code row) so is = absurd so

other_status : (n m : ℕ) → n ≡ m → 1 < m → HasReport n → ⊥
other_status n m is high (inl zero) = omega (arith, is, high, zero)
other_status n m is high (inr one) = omega (arith, is, high, one)

pub report_is_a_verdict : (status : ℕ) → HasReport status → HasVerdict status
report_is_a_verdict status is = record {
  no_read_fault = λ e. other_status status 3 e (omega arith) is;
  no_write_fault = λ e. other_status status 4 e (omega arith) is;
  enough_memory = λ e. other_status status 5 e (omega arith) is;
}

-- ---- what was solved

pub line_terms : AreTerms line_sources
line_terms = record { penalty = tt; step_cost = omega arith }

module _ (stands : ProblemStands) (back : StatesAreFound) (near_carried : NearIsCarried) (near_found : NearIsFound)
    (process_carried : IsCarried) (least_same : SameLeast)
    (depths : SameDepth) (plain : SamePlain) (names : NamesAreCarried) (carried : BalanceIsCarried) (enclosed : TaskIsEnclosed) (ending : TaskPolicyEnds)
    (narrows : (task : Task) (charges : Charges) → TaskIntervalNarrows task charges) (sums : (task : Task) → WellFormedSums task)
    (proper : (task : Task) → ChancesAreProper task) (proper_starts : (task : Task) → StartsAreProper task) where
  solved : (s : Sources) (t : Texts) → AreTerms s → (effort : Effort) (sizes : Sizes) (status : ℕ) (g : Ground) → problem_of s t ≡ Ok g
      → (c : Content) (x : Solved) → IsFound g effort sizes c x → (status ≡ 0) ↔ (c.upper ≤ c.lower + effort.gap)
      → Solves s t effort sizes status
  solved s t are effort sizes status g is c x found converged =
      let of_task = stands s t g are is in
      let narrow = narrow_carried (ground_process g) (ground_starts g) g.start_den
      (process of_task.task of_task.charges) (starts of_task.task) (start_den of_task.task)
      (depths g of_task.task of_task.charges of_task.stands) (plain g of_task.task of_task.charges of_task.stands)
      sizes.sweep_states effort.rounds effort.gap x.rounds c.lower c.upper (found_narrow g effort sizes c x found) in
      let all = sums of_task.task of_task.well_formed in
      record {
        g = g;
        c = c;
        summary = x;
        problem = is;
        found = found;
        converged = converged;
        is_narrow = found_narrow g effort sizes c x found;
        of_task = of_task;
        balanced = names_balanced names g of_task.task of_task.charges of_task.stands c found.balanced carried;
        encloses = names_enclose names g of_task.task of_task.charges of_task.stands c found.balanced enclosed;
        ends = names_end names g of_task.task of_task.charges of_task.stands c found.balanced ending all;
        is_narrow_for_task = narrow;
        finds = states_found back names near_carried near_found depths g of_task.task of_task.charges of_task.stands effort sizes c x found;
        width = λ k N m least enough often.
            narrow_within of_task.charges.penalty k m _ _ c.lower c.upper narrow.low narrow.high
            (narrows of_task.task of_task.charges of_task.stands.denominators (proper of_task.task all) (proper_starts of_task.task all)
            k N least enough m (rounds_at narrow.depth x.rounds 1) often);
      }

  module _ {S : Type 0} {held : S → List ℕ → Told} {reads writes : S → ℕ} {words : List (Bor (List ℕ))} {old new : S} {from to : Input}
      {status : ℕ} {text : List ℕ} (ends : MayEndAs held reads writes words old new from to status text) (is : HasReport status)
      (stops : TextsStopSo) where
    ending_is : HasReport (ending_status ends.ending)
    ending_is = subst HasReport ends.status_is is

    -- ---- `solve` and `serve`

    -- a search that ended with a report has written its certificate
    search_wrote : (s : Solving) (g : Ground) (Is : Answer → Type 0) (e : Ending) → HasReport (ending_status e)
        → AnswersSearch held writes old new s g Is e → IsWritten held writes old new s.certificate Is e
    search_wrote s g Is e has (inl wrote) = wrote
    search_wrote s g Is e has (inr (inl (stop, long, says))) =
        absurd (other_status (ending_status e) 8 (sym (ap ending_status says) ∙ ap status_of long.stop_is) (omega arith) has)
    search_wrote s g Is e has (inr (inr (says, rose))) =
        absurd (other_status (ending_status e) 4 (sym (ap ending_status says)) (omega arith) has)

    wrote_of : (s : Solving) (t : Texts) (r : Result Ground Stop) → problem_of s.sources t ≡ r → (e : Ending) → HasReport (ending_status e)
        → AnswersSolve held writes old new s r e
        → (g : Ground) × (problem_of s.sources t ≡ Ok g) × IsWritten held writes old new s.certificate (IsAnswerWith g s.effort s.sizes s.lower) e
    wrote_of s t (Ok g) gives e has answers = (g, gives, search_wrote s g (IsAnswerWith g s.effort s.sizes s.lower) e has answers)
    wrote_of s t (Err stop) gives e has says =
        absurd (text_status stop (stops s.sources t stop gives) (subst (λ e. HasReport (ending_status e)) (sym says) has))

    module _ (s : Solving) (t : Texts) (are : AreTerms s.sources) (tells : held old s.certificate ≢ Untold)
        (g : Ground) (gives : problem_of s.sources t ≡ Ok g) where
      -- what stands behind these answers, of this problem and this certificate
      record HasSolution (c : Content) (answers : List ℕ) (before now : Option (List ℕ)) : Type 0 where
        pub solution : PutsSolution s t status (held new s.certificate) answers before now
        pub same_problem : solution.solves.g ≡ g
        pub same_content : solution.solves.c ≡ c

      -- the certificate was written, and its text was said: the report, or what has the report in front
      solution_of : (a : Answer) (its : IsAnswerOf g s.effort s.sizes a)
          → held new s.certificate ≡ written (held old s.certificate) a.certificate
          → (said : List ℕ) → Ok (said_by a.converged said) ≡ ends.ending
          → (answers : List ℕ) (before now : Option (List ℕ)) → Appends before now (answers ++ a.report)
          → HasSolution its.content answers before now
      unfolding solved
      solution_of a its holds said says answers before now put =
          let c = its.content in
          let zero : (status ≡ 0) ↔ (c.upper ≤ c.lower + s.effort.gap) =
          subst (λ n. (n ≡ 0) ↔ (c.upper ≤ c.lower + s.effort.gap)) (sym (ends.status_is ∙ sym (ap ending_status says)))
          (said_status a.converged said _ _ its.report.converged_is its.found.converged) in
          record {
            solution = record {
              solves = solved s.sources t are s.effort s.sizes status g gives c its.solved its.found zero;
              holds = holds ∙ told_written (held old s.certificate) a.certificate tells ∙ ap Holds its.text;
              accepted = (
                g,
                c,
                gives,
                record {
                  text = (its.found.certificate, refl);
                  within = subst (λ v. length (text_of c) ≤ most_bytes v) (sym its.found.version)
                      (subst (λ bytes. length bytes ≤ most_bytes 2) its.text its.short);
                },
                its.found.balanced,
              );
              put = subst (Appends before now) (ap (λ report. answers ++ report) its.report.text) put;
            };
            same_problem = refl;
            same_content = refl;
          }

      -- what is told from below stands behind the report
      below_of : (lower : Lower) (Says : Ground → Task → Charges → Content → ℕ → Type 0)
          → ((h : Ground) (task : Task) (charges : Charges) → IsGroundOf h task charges → (c : Content) → IsBalancedFor h c
          → (l : ℕ) → IsUnderBy lower h (ground_certificate h c).rows l → Says h task charges c l)
          → (a : Answer) (w : IsAnswerWith g s.effort s.sizes lower a) (l : ℕ) → w.told ≡ Some l
          → held new s.certificate ≡ written (held old s.certificate) a.certificate → Ok (said_by a.converged a.report) ≡ ends.ending
          → (before now : Option (List ℕ)) → Appends before now a.report → PutsBelow Says s t status (held new s.certificate) before now
      below_of lower Says so a w l told holds says before now put =
          let has = solution_of (with_report a w.plain) w.is_answer holds a.report says [] before (append_known before w.plain)
          (appends_known before w.plain) in
          let found = has.solution.solves in
          let whole = subst (Appends before now) (w.behind ∙ ap (λ o. w.plain ++ under_lines o) told) put in
          let here : IsUnderBy lower g (ground_certificate g w.is_answer.content).rows l =
          subst (IsTold lower g (ground_certificate g w.is_answer.content).rows) told w.is_told in
          let there : IsUnderBy lower found.g (ground_certificate found.g found.c).rows l =
          subst (λ h. IsUnderBy lower h (ground_certificate h found.c).rows l) (sym has.same_problem)
          (subst (λ c. IsUnderBy lower g (ground_certificate g c).rows l) (sym has.same_content) here) in
          record {
            middle = append_known before w.plain;
            solution = has.solution;
            lower = l;
            told = so found.g found.of_task.task found.of_task.charges found.of_task.stands found.c found.found.balanced l there;
            line = appends_rest before now w.plain (under_line l) whole;
          }

      solved_as : (certified : CertificatesAreCarried) (lower : Lower) (a : Answer) (w : IsAnswerWith g s.effort s.sizes lower a)
          (told : Option ℕ) → w.told ≡ told → IsTold lower g (ground_certificate g w.is_answer.content).rows told
          → held new s.certificate ≡ written (held old s.certificate) a.certificate → Ok (said_by a.converged a.report) ≡ ends.ending
          → (before now : Option (List ℕ)) → Appends before now a.report → PutsSolved lower s t status (held new s.certificate) before now
      solved_as certified lowers.None a w None told is holds says before now put =
          (solution_of (with_report a w.plain) w.is_answer holds a.report says [] before now
          (subst (Appends before now) (w.behind ∙ ap (λ o. w.plain ++ under_lines o) told ∙ append-nil w.plain) put)).solution
      solved_as certified lowers.None a w (Some l) told is holds says before now put = absurd (is.known [])
      solved_as certified lowers.Cost a w None told is holds says before now put = absurd (cc is)
      solved_as certified lowers.Cost a w (Some l) told is holds says before now put =
          below_of lowers.Cost IsToldByCost
          (λ h task charges stands c for. told_by_cost h task charges stands c for certified names carried) a w l told holds says before now put
      solved_as certified lowers.Relaxed a w None told is holds says before now put = absurd (cc is)
      solved_as certified lowers.Relaxed a w (Some l) told is holds says before now put =
          below_of lowers.Relaxed (IsToldBelow lowers.Relaxed)
          (λ h task charges stands c for. told_below h task charges stands c for certified names carried lowers.Relaxed) a w l told holds says before now put

      solved_with : (certified : CertificatesAreCarried) (lower : Lower) (a : Answer) (w : IsAnswerWith g s.effort s.sizes lower a)
          → held new s.certificate ≡ written (held old s.certificate) a.certificate → Ok (said_by a.converged a.report) ≡ ends.ending
          → (before now : Option (List ℕ)) → Appends before now a.report → PutsSolved lower s t status (held new s.certificate) before now
      solved_with certified lower a w holds says before now put = solved_as certified lower a w w.told refl w.is_told holds says before now put

    module _ (s : Solving) (t : Texts) (are : AreTerms s.sources) (tells : held old s.certificate ≢ Untold) (before now : Option (List ℕ))
        (put : Appends before now text) (g : Ground) (gives : problem_of s.sources t ≡ Ok g) where
      -- behind the answers of a server
      solution_from : (Is : Answer → Type 0) (wrote : IsWritten held writes old new s.certificate Is ends.ending)
          (its : IsAnswerOf g s.effort s.sizes wrote.answer) → HasSolution s t are tells g gives its.content ends.answers before now
      solution_from Is wrote its =
          let a = wrote.answer in
          let says : ending_text ends.ending ≡ a.report = sym (ap ending_text wrote.says) ∙ said_text a.converged a.report in
          solution_of s t are tells g gives a its wrote.holds a.report wrote.says ends.answers before now
          (subst (Appends before now) (ends.text_is ∙ ap (λ report. ends.answers ++ report) says) put)

      -- what a server answered of this problem
      service_from : (served : Served) (replies : List Reply) → Answered g s.sizes.sweep_states (exchange from to ends.answers) served replies
          → stop_of served.end ≡ None
          → IsWritten held writes old new s.certificate (IsServiceOf g s.effort s.sizes replies) ends.ending
          → PutsService s t status (held new s.certificate) from to before now
      service_from served replies answered whole wrote =
          let service = wrote.is_answer in
          let has = solution_from (IsServiceOf g s.effort s.sizes replies) wrote service.is_answer in
          let kept_here = subst (λ c. KeepsEach g c replies) (sym has.same_content) service.kept in
          let found : Solves s.sources t s.effort s.sizes status = has.solution.solves in
          let answered_here : Answered found.g s.sizes.sweep_states (exchange from to ends.answers) served replies =
          subst (λ h. Answered h s.sizes.sweep_states (exchange from to ends.answers) served replies) (sym has.same_problem) answered in
          record {
            answers = ends.answers;
            solution = has.solution;
            served = served;
            replies = replies;
            answered = answered_here;
            of_task = replies_tell process_carried least_same back near_carried near_found depths found.g found.of_task.task
                found.of_task.charges found.of_task.stands s.sizes.sweep_states
                (queries_of answered_here.answered.bytes answered_here.answered.ended) replies answered_here.answered.fit answered_here.sound;
            no_fault = whole;
            kept = subst (λ h. KeepsEach h has.solution.solves.c replies) (sym has.same_problem) kept_here;
          }

    -- without a server there are no answers
    no_answers : (s : Solving) → Asks words (to_solve s) → ends.answers ≡ []
    no_answers s asks = elim (request_ends ends (to_solve s) asks) [
      | inl (silent, may_end) ↦ silent.nothing_put
      | inr service ↦ absurd service
    ]

    pub solution_put : (certified : CertificatesAreCarried) (told : OneProblemIsTold) (s : Solving) (t : Texts) → AreTerms s.sources → TellsSearch words (held old) to_solve s t
        → (before now : Option (List ℕ)) → Appends before now text → PutsSolved s.lower s t status (held new s.certificate) before now
    solution_put certified told s t are tells before now put =
        let answers = (answers_of ends (to_solve s) tells.asks (λ none. none) (report_is_a_verdict status is)).1 in
        let found = wrote_of s t answers.0 (told (held old) s.sources t tells.texts answers.0 answers.1) ends.ending ending_is answers.2 in
        let a = found.2.answer in
        let says : text ≡ a.report =
        ends.text_is ∙ ap (λ answers. answers ++ ending_text ends.ending) (no_answers s tells.asks)
        ∙ sym (ap ending_text found.2.says) ∙ said_text a.converged a.report in
        solved_with s t are tells.certificate found.0 found.1 certified s.lower a found.2.is_answer found.2.holds found.2.says before now
        (subst (Appends before now) says put)

    -- behind a server that no fault stopped
    behind_wrote : (s : Solving) (g : Ground) (replies : List Reply) (end : ServeEnd) (o : Option Stop) → stop_of end ≡ o
        → EndsBehind held writes old new s g replies o ends.ending
        → (o ≡ None) × IsWritten held writes old new s.certificate (IsServiceOf g s.effort s.sizes replies) ends.ending
    behind_wrote s g replies end None so answers =
        (refl, search_wrote s g (IsServiceOf g s.effort s.sizes replies) ends.ending ending_is answers)
    behind_wrote s g replies end (Some stop) so says = absurd (elim (stops_by_fault end stop so) [
      | inl three ↦ other_status (ending_status ends.ending) 3 (sym (ap ending_status says) ∙ ap status_of three) (omega arith) ending_is
      | inr four ↦ other_status (ending_status ends.ending) 4 (sym (ap ending_status says) ∙ ap status_of four) (omega arith) ending_is
    ])

    service_of : (s : Solving) (service : HasService held reads writes old new (exchange from to ends.answers) s ends.ending)
        → (stop_of service.served.end ≡ None)
        × IsWritten held writes old new s.certificate (IsServiceOf service.g s.effort s.sizes service.replies) ends.ending
    service_of s service = elim service.ends [
      | inl none ↦ absurd (other_status (ending_status ends.ending) 5 (ap ending_status none) (omega arith) ending_is)
      | inr behind ↦ behind_wrote s service.g service.replies service.served.end (stop_of service.served.end) refl behind
    ]

    -- a search that was reported under `serve` had a server
    had_service : (told : OneProblemIsTold) (s : Solving) (t : Texts) → TellsSearch words (held old) to_serve s t
        → HasService held reads writes old new (exchange from to ends.answers) s ends.ending
    had_service told s t tells = elim (request_ends ends (to_serve s) tells.asks) [
      | inl (silent, may_end) ↦
          let (stop, given, says) = answered_so held reads writes old new (to_serve s) ends.ending may_end (report_is_a_verdict _ ending_is) in
          let gives = told (held old) s.sources t tells.texts (Err stop) given in
          absurd (text_status stop (stops s.sources t stop gives) (subst (λ e. HasReport (ending_status e)) (sym says) ending_is))
      | inr service ↦ service
    ]

    pub service_put : (told : OneProblemIsTold) (s : Solving) (t : Texts) → AreTerms s.sources → TellsSearch words (held old) to_serve s t
        → (before now : Option (List ℕ)) → Appends before now text → PutsService s t status (held new s.certificate) from to before now
    service_put told s t are tells before now put =
        let service = had_service told s t tells in
        let gives = told (held old) s.sources t tells.texts (Ok service.g) service.problem in
        let wrote = service_of s service in
        service_from s t are tells.certificate before now put service.g gives service.served service.replies service.answered wrote.0 wrote.1

    -- ---- `bench`

    measured_of : (places seed : ℕ) (r : Result Ground Stop) → line_problem places seed ≡ r → (e : Ending) → HasReport (ending_status e)
        → AnswersLine places seed r e → (g : Ground) × (line_problem places seed ≡ Ok g) × IsMeasured places seed g e
    measured_of places seed (Ok g) gives e has measured = (g, gives, measured)
    measured_of places seed (Err stop) gives e has says =
        absurd (text_status stop (stops line_sources (one_text (line_text places seed)) stop gives)
        (subst (λ e. HasReport (ending_status e)) (sym says) has))

    measure_from : (places seed : ℕ) (g : Ground) → line_problem places seed ≡ Ok g → IsMeasured places seed g ends.ending
        → text ≡ ending_text ends.ending
        → (before now : Option (List ℕ)) → Appends before now text → PutsMeasure places seed status before now
    unfolding solved
    measure_from places seed g gives said text_is before now put =
        let m = said.measured in
        let its = said.is_measured in
        let c = its.content in
        let zero : (status ≡ 0) ↔ (c.upper ≤ c.lower + 1000000) =
        subst (λ n. (n ≡ 0) ↔ (c.upper ≤ c.lower + 1000000)) (sym (ends.status_is ∙ sym (ap ending_status said.says)))
        (said_status m.converged (bench_line places seed ++ m.report) _ _ its.report.converged_is its.found.converged) in
        record {
          solves = solved line_sources (one_text (line_text places seed)) line_terms (bench_effort seed) bench_sizes status
              g gives c its.solved its.found zero;
          put = subst (Appends before now)
              (text_is ∙ sym (ap ending_text said.says) ∙ said_text m.converged (bench_line places seed ++ m.report)
              ∙ ap (λ report. bench_line places seed ++ report) its.report.text) put;
        }

    pub measure_put : (places seed : ℕ) → Asks words (to_bench places seed)
        → (before now : Option (List ℕ)) → Appends before now text → PutsMeasure places seed status before now
    measure_put places seed asks before now put =
        let put_so = answers_of ends (to_bench places seed) asks (λ none. none) (report_is_a_verdict status is) in
        let answers = put_so.1 in
        let found = measured_of places seed answers.0 answers.1 ends.ending ending_is answers.2 in
        measure_from places seed found.0 found.1 found.2 put_so.0 before now put
