-- What the status of an answer says of texts and of a certificate that a shelf tells.
use Rattle.std.proofs.Common.{◌≡◌, ◌≢◌, ℕ, ◌⊎◌, inl, inr, Bool, true, false, List, [], refl, sym, ap, ◌∙◌, subst, arith, Option, Some, None, Result, Ok, Err}
use Rattle.std.specs.Prelude.{◌↔◌}
use Rattle.shelf_io.specs.Causes.{Rose}
use Rattle.shelf_io.specs.Shelf.{Told, Holds}
use Rattle.certificate.specs.Content.{Content}
use Rattle.certificate.specs.Laws.{TextsAreRead}
use Rattle.certificate_check.specs.Claims.{IsBalancedFor}
use Rattle.certificate_check.specs.Laws.{AcceptedIsBalanced}
use Rattle.ppddl_model.specs.declared.refusal.TextCode.{TextCode}
use Rattle.ground_model.specs.Ground.{Ground}
use Rattle.plan_request.specs.Asked.{Sources, Solving, Merging, Drawing, Asked, to_solve, to_check, to_serve, to_ground, to_bench, to_merge, to_walk, to_draw}
use Rattle.plan_report.specs.Line.{line_text}
use Rattle.plan_report.specs.Reports.{accepted_text, ground_text}
use Rattle.plan_request.specs.declared.stop.Stop.{Stop}
use Rattle.plan_search.specs.Answers.{IsTooLong}
use Rattle.plan_search.specs.Under.{IsAnswerWith}
use Rattle.plan_search.specs.Serving.{stop_of, IsServiceOf}
use Rattle.plan_search.specs.declared.answer.Answer.{Answer}
use Rattle.policy_server.specs.declared.serve_end.ServeEnd.{ServeEnd}
use Rattle.policy_server.specs.Replies.{Reply}
use Rattle.plan_request.specs.declared.stop.report.Report.TheVariants.{Done}
use Rattle.plan_request.specs.declared.stop.Stop.TheVariants.{BadWords, ReadFailed, WriteFailed, NoMemory, Refused, NotAccepted, SecondNotAccepted, Limit}
use Rattle.plan_request.specs.stop.Stop.{Ending, report_status, ending_status, status_of}
use Rattle.plan_sources.specs.declared.texts.Texts.{Texts}
use Rattle.plan_sources.specs.Problems.{one_text, problem_of}
use Rattle.plan_sources.specs.Sources.{MayGiveProblem}
use Rattle.plan_sources.specs.Laws.{HoldsTexts, OneProblemIsTold, IsOfTexts, TextsStopSo}
use Rattle.plan_app.specs.declared.pair.Pair.{Pair}
use Rattle.plan_app.specs.Measuring.{line_sources}
use Rattle.plan_app.specs.Judging.{IsJudged, said_of}
use Rattle.plan_app.specs.Merging.{IsPair, IsAboveLimit, IsMergeAnswer}
use Rattle.plan_app.specs.Walking.{walked_text}
use Rattle.plan_app.specs.Drawing.{IsDrawAnswer}
use Rattle.plan_app.specs.Endings.{said_by, Exchange, AnswersLine, AnswersJudged, AnswersWritten, AnswersSearch, AnswersSolve, AnswersPair, AnswersMerge, AnswersGraph, AnswersDraw, reported, Answers, EndsBehind, HasService, ServiceFor}
use Rattle.plan_app.specs.Verdicts.{sources_of, IsTooLongFor, HasVerdict, IsRefused, IsLimited, IsGrounded, IsDecoded, IsAccepted, IsRejected}
use Rattle.plan_app.proofs.Exchanges.{stops_by_fault}
use Rattle.plan_app.proofs.Judged.{IsOfCertificate, certificate_status, judged_stops, judged_balanced, IsNone, IsSoOf, judged_so}
use Rattle.plan_app.proofs.Pairing.{pair_judged, pair_stops}

-- a status that an ending has, and one that it has not
pub yes : (n : ℕ) (P : Type 0) → P → (n ≡ n) ↔ P
yes n P holds = ((λ is. holds), (λ also. refl))

pub no : (m n : ℕ) (P : Type 0) → m ≢ n → (P → ⊥) → (m ≡ n) ↔ P
no m n P other fails = ((λ is. absurd (other is)), (λ holds. absurd (fails holds)))

-- what status 7 says of what stands at 0 and at 7
abbrev pub SaysSeven : Type 0 → Type 0 → Type 0
SaysSeven zero seven = ((◌≡◌ {A = ℕ} 7 0) ↔ zero) × ((◌≡◌ {A = ℕ} 7 7) ↔ seven)

-- ---- endings that texts lead to

-- the statuses behind a problem; that the text of a certificate is too long is the one reason for a limit there
pub record IsOfProblem (long : Type 0) (status : ℕ) : Type 0 where
  pub not_words : status ≢ 2
  pub not_refused : status ≢ 6
  pub limited : status ≡ 8 → long

abbrev pub Leads : (Ground → Type 0) → Result Ground Stop → Ending → Type 0
Leads long (Err stop) e = Err stop ≡ e
Leads long (Ok g) e = IsOfProblem (long g) (ending_status e)

status_leads : (long : Type 0) (n m : ℕ) → n ≡ m → m ≢ 2 → m ≢ 6 → m ≢ 8 → IsOfProblem long n
status_leads long n m is a b c = record {
  not_words = λ e. a (sym is ∙ e);
  not_refused = λ e. b (sym is ∙ e);
  limited = λ e. absurd (c (sym is ∙ e));
}

zero_leads : (long : Type 0) (n : ℕ) → n ≡ 0 → IsOfProblem long n
zero_leads long n is = status_leads long n 0 is (λ e. omega (arith, e)) (λ e. omega (arith, e)) (λ e. omega (arith, e))

one_leads : (long : Type 0) (n : ℕ) → n ≡ 1 → IsOfProblem long n
one_leads long n is = status_leads long n 1 is (λ e. omega (arith, e)) (λ e. omega (arith, e)) (λ e. omega (arith, e))

four_leads : (long : Type 0) (n : ℕ) → n ≡ 4 → IsOfProblem long n
four_leads long n is = status_leads long n 4 is (λ e. omega (arith, e)) (λ e. omega (arith, e)) (λ e. omega (arith, e))

five_leads : (long : Type 0) (n : ℕ) → n ≡ 5 → IsOfProblem long n
five_leads long n is = status_leads long n 5 is (λ e. omega (arith, e)) (λ e. omega (arith, e)) (λ e. omega (arith, e))

seven_leads : (long : Type 0) (n : ℕ) → n ≡ 7 → IsOfProblem long n
seven_leads long n is = status_leads long n 7 is (λ e. omega (arith, e)) (λ e. omega (arith, e)) (λ e. omega (arith, e))

eight_leads : (long : Type 0) (n : ℕ) → n ≡ 8 → long → IsOfProblem long n
eight_leads long n is so = record { not_words = λ e. omega (arith, e, is); not_refused = λ e. omega (arith, e, is); limited = λ e. so }

-- what is said of a search has status 0 or 1
pub said_by_status : (b : Bool) (text : List ℕ) → (report_status (said_by b text) ≡ 0) ⊎ (report_status (said_by b text) ≡ 1)
said_by_status true text = inl refl
said_by_status false text = inr refl

search_leads : (long : Type 0) (b : Bool) (text : List ℕ) (e : Ending) → Ok (said_by b text) ≡ e → IsOfProblem long (ending_status e)
search_leads long b text e says =
    subst (λ e. IsOfProblem long (ending_status e)) says
    (elim (said_by_status b text) [
      | inl zero ↦ zero_leads long (report_status (said_by b text)) zero
      | inr one ↦ one_leads long (report_status (said_by b text)) one
    ])

-- what stops a run at certificates
stop_leads : (long : Type 0) (stop : Stop) → IsOfCertificate stop → IsOfProblem long (status_of stop)
stop_leads long stop is = elim (certificate_status stop is) [
  | inl seven ↦ seven_leads long (status_of stop) seven
  | inr five ↦ five_leads long (status_of stop) five
]

-- what is said of a certificate that is judged
judged_leads : (long : Type 0) (g : Ground) (told : Told) (text : Content → List ℕ) (r : Result Content Stop) → IsJudged g told r → (e : Ending)
    → said_of text r ≡ e → IsOfProblem long (ending_status e)
judged_leads long g told text (Ok c) judged e says = subst (λ e. IsOfProblem long (ending_status e)) says (zero_leads long 0 refl)
judged_leads long g told text (Err stop) judged e says =
    subst (λ e. IsOfProblem long (ending_status e)) says (stop_leads long stop (judged_stops g told stop judged))

line_leads : (places seed : ℕ) (r : Result Ground Stop) (e : Ending) → AnswersLine places seed r e → Leads (IsTooLongFor (to_bench places seed)) r e
line_leads places seed (Ok g) e measured = search_leads ⊥ measured.measured.converged _ e measured.says
line_leads places seed (Err stop) e says = says

-- a stop at texts
stop_is_not_words : (stop : Stop) → IsOfTexts stop → status_of stop ≢ 2
stop_is_not_words (Refused code file line) so = λ e. omega (arith, e)
stop_is_not_words (Limit code most) so = λ e. omega (arith, e)
stop_is_not_words BadWords so = absurd so
stop_is_not_words ReadFailed so = absurd so
stop_is_not_words WriteFailed so = absurd so
stop_is_not_words NoMemory so = absurd so
stop_is_not_words (NotAccepted code row) so = absurd so
stop_is_not_words (SecondNotAccepted code row) so = absurd so

-- a merged certificate that is above a limit has status 8
pub limit_status : (g : Ground) (c d : Content) (stop : Stop) → IsAboveLimit g c d stop → status_of stop ≡ 8
limit_status g c d stop (inl (is, more)) = ap status_of is
limit_status g c d stop (inr (is, long)) = ap status_of is

-- ---- over all requests

-- a request that writes a text, without a server
abbrev pub WritesAlone : Option Asked → Type 0
WritesAlone asked = ((s : Solving) × (asked ≡ Some (to_solve s)))
    ⊎ (((m : Merging) × (asked ≡ Some (to_merge m))) ⊎ ((d : Drawing) × (asked ≡ Some (to_draw d))))

module _ {S : Type 0} (held : S → List ℕ → Told) (writes : S → ℕ) (old new : S) where
  -- behind a certificate that is written
  written_leads : (long : Type 0) (name : List ℕ) (Is : Answer → Type 0) (Above : Stop → Type 0)
      → ((stop : Stop) → Above stop → (status_of stop ≡ 8) × long)
      → (e : Ending) → AnswersWritten held writes old new name Is Above e → IsOfProblem long (ending_status e)
  written_leads long name Is Above so e (inl wrote) = search_leads long wrote.answer.converged _ e wrote.says
  written_leads long name Is Above so e (inr (inl (stop, above, says))) =
      subst (λ e. IsOfProblem long (ending_status e)) says (eight_leads long (status_of stop) (so stop above).0 (so stop above).1)
  written_leads long name Is Above so e (inr (inr (says, rose))) =
      subst (λ e. IsOfProblem long (ending_status e)) says (four_leads long 4 refl)

  searched_leads : (s : Solving) (g : Ground) (Is : Answer → Type 0) (e : Ending) → AnswersSearch held writes old new s g Is e
      → IsOfProblem (IsTooLongFor (to_solve s) g) (ending_status e)
  searched_leads s g Is e answers =
      written_leads (IsTooLongFor (to_solve s) g) s.certificate Is (IsTooLong g s.effort s.sizes)
      (λ stop long. (ap status_of long.stop_is, (stop, long))) e answers

  solve_leads : (s : Solving) (r : Result Ground Stop) (e : Ending) → AnswersSolve held writes old new s r e → Leads (IsTooLongFor (to_solve s)) r e
  solve_leads s (Ok g) e answers = searched_leads s g (IsAnswerWith g s.effort s.sizes s.lower) e answers
  solve_leads s (Err stop) e says = says

  -- behind a server
  behind_leads : (s : Solving) (g : Ground) (replies : List Reply) (end : ServeEnd) (o : Option Stop) → stop_of end ≡ o → (e : Ending)
      → EndsBehind held writes old new s g replies o e → IsOfProblem (IsTooLongFor (to_serve s) g) (ending_status e)
  behind_leads s g replies end None is e ends = searched_leads s g (IsServiceOf g s.effort s.sizes replies) e ends
  behind_leads s g replies end (Some stop) is e says =
      subst (λ e. IsOfProblem (IsTooLongFor (to_serve s) g) (ending_status e)) says
      (elim (stops_by_fault end stop is) [
        | inl three ↦ status_leads (IsTooLongFor (to_serve s) g) (status_of stop) 3 (ap status_of three)
            (λ e. omega (arith, e)) (λ e. omega (arith, e)) (λ e. omega (arith, e))
        | inr four ↦ four_leads (IsTooLongFor (to_serve s) g) (status_of stop) (ap status_of four)
      ])

  check_leads : (name : List ℕ) (text : Ground → Content → List ℕ) (r : Result Ground Stop) (e : Ending)
      → AnswersJudged (held old) name text r e → Leads (λ g. ⊥) r e
  check_leads name text (Ok g) e (rc, judged, says) = judged_leads ⊥ g (held old name) (text g) rc judged e says
  check_leads name text (Err stop) e says = says

  -- behind the graph of a certificate's policy
  graph_leads : (d : Drawing) (g : Ground) (r : Result Content Stop) → IsJudged g (held old d.certificate) r → (e : Ending)
      → AnswersGraph held writes old new d g r e → IsOfProblem ⊥ (ending_status e)
  graph_leads d g (Ok c) judged e answers =
      written_leads ⊥ d.into (IsDrawAnswer g c d.states) (λ stop. ⊥) (λ stop none. absurd none) e answers
  graph_leads d g (Err stop) judged e says =
      subst (λ e. IsOfProblem ⊥ (ending_status e)) says (stop_leads ⊥ stop (judged_stops g (held old d.certificate) stop judged))

  draw_leads : (d : Drawing) (r : Result Ground Stop) (e : Ending) → AnswersDraw held writes old new d r e → Leads (λ g. ⊥) r e
  draw_leads d (Ok g) e (r, judged, answers) = graph_leads d g r judged e answers
  draw_leads d (Err stop) e says = says

  -- what is put of a graph, as what is said of a certificate
  graph_said : (d : Drawing) (g : Ground) (r : Result Content Stop) (e : Ending) → AnswersGraph held writes old new d g r e
      → HasVerdict (ending_status e) → (report : List ℕ) × (said_of (λ (c : Content). report) r ≡ e)
  graph_said d g (Ok c) e (inl wrote) verdict =
      let a = wrote.answer in
      (a.report, subst (λ b. Ok (said_by b a.report) ≡ e) wrote.is_answer.converged wrote.says)
  graph_said d g (Ok c) e (inr (inl (stop, none, says))) verdict = absurd none
  graph_said d g (Ok c) e (inr (inr (says, rose))) verdict = absurd (verdict.no_write_fault (sym (ap ending_status says)))
  graph_said d g (Err stop) e says verdict = ([], says)

  pub drawn_judged : (d : Drawing) (r : Result Ground Stop) (e : Ending) → AnswersDraw held writes old new d r e
      → HasVerdict (ending_status e) → (report : List ℕ) × AnswersJudged (held old) d.certificate (λ (g : Ground) (c : Content). report) r e
  drawn_judged d (Ok g) e (r, judged, answers) verdict = let said = graph_said d g r e answers verdict in (said.0, (r, judged, said.1))
  drawn_judged d (Err stop) e says verdict = ([], says)

  ground_leads : (r : Result Ground Stop) (e : Ending) → reported (held old) r ≡ e → Leads (λ g. ⊥) r e
  ground_leads (Ok g) e says = subst (λ e. IsOfProblem ⊥ (ending_status e)) says (zero_leads ⊥ 0 refl)
  ground_leads (Err stop) e says = says

  -- behind two certificates
  module _ (law : TextsAreRead) (balance : AcceptedIsBalanced) where
    pair_leads : (m : Merging) (g : Ground) (r : Result Pair Stop) → IsPair g (held old m.first) (held old m.second) r → (e : Ending)
        → AnswersPair held writes old new m g r e → IsOfProblem (IsTooLongFor (to_merge m) g) (ending_status e)
    pair_leads m g (Ok p) pair e answers =
        let judged = pair_judged g (held old m.first) (held old m.second) p pair in
        let first = judged_balanced law balance g (held old m.first) p.first judged.0 in
        let second = judged_balanced law balance g (held old m.second) p.second judged.1 in
        written_leads (IsTooLongFor (to_merge m) g) m.into (IsMergeAnswer g p.first p.second) (IsAboveLimit g p.first p.second)
        (λ stop above. (limit_status g p.first p.second stop above, (p.first, p.second, first, second, (stop, above)))) e answers
    pair_leads m g (Err stop) pair e says =
        subst (λ e. IsOfProblem (IsTooLongFor (to_merge m) g) (ending_status e)) says
        (stop_leads (IsTooLongFor (to_merge m) g) stop (pair_stops g (held old m.first) (held old m.second) stop pair))

    merge_leads : (m : Merging) (r : Result Ground Stop) (e : Ending) → AnswersMerge held writes old new m r e → Leads (IsTooLongFor (to_merge m)) r e
    merge_leads m (Ok g) e (r, pair, answers) = pair_leads m g r pair e answers
    merge_leads m (Err stop) e says = says

    pub leads : (s : Sources) (q : Asked) → sources_of q ≡ Some s → (e : Ending) → Answers held writes old new q e
        → (r : Result Ground Stop) × MayGiveProblem (held old) s r × Leads (IsTooLongFor q) r e
    leads s (to_serve x) is e (stop, given, says) =
        let same : x.sources ≡ s = cc is in
        (Err stop, subst (λ y. MayGiveProblem (held old) y (Err stop)) same given, says)
    leads s (to_bench places seed) is e answers = absurd (cc is)
    leads s (to_solve x) is e (r, given, rest) =
        let same : x.sources ≡ s = cc is in
        (r, subst (λ y. MayGiveProblem (held old) y r) same given, solve_leads x r e rest)
    leads s (to_check x name) is e (r, given, rest) =
        let same : x ≡ s = cc is in
        (r, subst (λ y. MayGiveProblem (held old) y r) same given, check_leads name (λ _. accepted_text) r e rest)
    leads s (to_ground x) is e (r, given, rest) =
        let same : x ≡ s = cc is in
        (r, subst (λ y. MayGiveProblem (held old) y r) same given, ground_leads r e rest)
    leads s (to_merge x) is e (r, given, rest) =
        let same : x.sources ≡ s = cc is in
        (r, subst (λ y. MayGiveProblem (held old) y r) same given, merge_leads x r e rest)
    leads s (to_walk x) is e (r, given, rest) =
        let same : x.sources ≡ s = cc is in
        (r, subst (λ y. MayGiveProblem (held old) y r) same given, check_leads x.certificate (walked_text x) r e rest)
    leads s (to_draw x) is e (r, given, rest) =
        let same : x.sources ≡ s = cc is in
        (r, subst (λ y. MayGiveProblem (held old) y r) same given, draw_leads x r e rest)

  -- words that ask for something are no bad words
  led_words : (s : Sources) (t : Texts) (long : Ground → Type 0) → TextsStopSo → (r : Result Ground Stop) → problem_of s t ≡ r
      → (e : Ending) → Leads long r e → ending_status e ≢ 2
  led_words s t long stops (Ok g) is e of = of.not_words
  led_words s t long stops (Err stop) is e says = subst (λ e. ending_status e ≢ 2) says (stop_is_not_words stop (stops s t stop is))

  -- at two certificates
  pair_words : (m : Merging) (g : Ground) (r : Result Pair Stop) → IsPair g (held old m.first) (held old m.second) r → (e : Ending)
      → AnswersPair held writes old new m g r e → ending_status e ≢ 2
  pair_words m g (Ok p) pair e answers =
      (written_leads (Unit {0}) m.into (IsMergeAnswer g p.first p.second) (IsAboveLimit g p.first p.second)
      (λ stop above. (limit_status g p.first p.second stop above, tt)) e answers).not_words
  pair_words m g (Err stop) pair e says =
      subst (λ e. ending_status e ≢ 2) says
      (stop_leads (Unit {0}) stop (pair_stops g (held old m.first) (held old m.second) stop pair)).not_words

  merge_words : TextsStopSo → (m : Merging) (t : Texts) (r : Result Ground Stop) → problem_of m.sources t ≡ r → (e : Ending)
      → AnswersMerge held writes old new m r e → ending_status e ≢ 2
  merge_words stops m t (Ok g) is e (r, pair, answers) = pair_words m g r pair e answers
  merge_words stops m t (Err stop) is e says = subst (λ e. ending_status e ≢ 2) says (stop_is_not_words stop (stops m.sources t stop is))

  pub answers_words : TextsStopSo → (q : Asked) (e : Ending) → Answers held writes old new q e → ending_status e ≢ 2
  answers_words stops (to_serve s) e (stop, (t, are, is), says) =
      led_words s.sources t (IsTooLongFor (to_serve s)) stops (Err stop) is e says
  answers_words stops (to_bench places seed) e (r, given, rest) =
      led_words line_sources (one_text (line_text places seed)) (IsTooLongFor (to_bench places seed)) stops r given e (line_leads places seed r e rest)
  answers_words stops (to_solve s) e (r, (t, are, is), rest) =
      led_words s.sources t (IsTooLongFor (to_solve s)) stops r is e (solve_leads s r e rest)
  answers_words stops (to_check s name) e (r, (t, are, is), rest) =
      led_words s t (λ g. ⊥) stops r is e (check_leads name (λ _. accepted_text) r e rest)
  answers_words stops (to_ground s) e (r, (t, are, is), rest) = led_words s t (λ g. ⊥) stops r is e (ground_leads r e rest)
  answers_words stops (to_merge m) e (r, (t, are, is), rest) = merge_words stops m t r is e rest
  answers_words stops (to_walk w) e (r, (t, are, is), rest) =
      led_words w.sources t (λ g. ⊥) stops r is e (check_leads w.certificate (walked_text w) r e rest)
  answers_words stops (to_draw d) e (r, (t, are, is), rest) = led_words d.sources t (λ g. ⊥) stops r is e (draw_leads d r e rest)

  -- a certificate that was not written is one of a search
  texts_unwritten : TextsStopSo → (s : Sources) (t : Texts) (r : Result Ground Stop) → problem_of s t ≡ r → (stop : Stop) → r ≡ Err stop
      → stop ≡ WriteFailed → ⊥
  texts_unwritten stops s t r is stop says same =
      subst IsOfTexts same (stops s t stop (subst (λ x. problem_of s t ≡ x) says is))

  certificate_unwritten : (stop : Stop) → IsOfCertificate stop → stop ≡ WriteFailed → ⊥
  certificate_unwritten stop is same = subst IsOfCertificate same is

  written_unwritten : (name : List ℕ) (Is : Answer → Type 0) (Above : Stop → Type 0) → ((stop : Stop) → Above stop → status_of stop ≡ 8)
      → AnswersWritten held writes old new name Is Above (Err WriteFailed) → Rose (writes old) (writes new)
  written_unwritten name Is Above so (inl wrote) = absurd (cc wrote.says)
  written_unwritten name Is Above so (inr (inl (stop, above, says))) = absurd (omega (arith, ap ending_status says, so stop above))
  written_unwritten name Is Above so (inr (inr (says, rose))) = rose

  solve_unwritten : (s : Solving) (r : Result Ground Stop) → ((stop : Stop) → r ≡ Err stop → stop ≡ WriteFailed → ⊥)
      → AnswersSolve held writes old new s r (Err WriteFailed) → Rose (writes old) (writes new)
  solve_unwritten s (Ok g) so answers =
      written_unwritten s.certificate (IsAnswerWith g s.effort s.sizes s.lower) (IsTooLong g s.effort s.sizes)
      (λ stop long. ap status_of long.stop_is) answers
  solve_unwritten s (Err stop) so says = absurd (so stop refl (cc says))

  said_unwritten : (g : Ground) (told : Told) (text : Content → List ℕ) (r : Result Content Stop) → IsJudged g told r
      → said_of text r ≡ Err WriteFailed → ⊥
  said_unwritten g told text (Ok c) judged says = cc says
  said_unwritten g told text (Err stop) judged says = certificate_unwritten stop (judged_stops g told stop judged) (cc says)

  check_unwritten : (name : List ℕ) (text : Ground → Content → List ℕ) (r : Result Ground Stop)
      → ((stop : Stop) → r ≡ Err stop → stop ≡ WriteFailed → ⊥) → AnswersJudged (held old) name text r (Err WriteFailed) → ⊥
  check_unwritten name text (Ok g) so (rc, judged, says) = said_unwritten g (held old name) (text g) rc judged says
  check_unwritten name text (Err stop) so says = so stop refl (cc says)

  pair_unwritten : (m : Merging) (g : Ground) (r : Result Pair Stop) → IsPair g (held old m.first) (held old m.second) r
      → AnswersPair held writes old new m g r (Err WriteFailed) → Rose (writes old) (writes new)
  pair_unwritten m g (Ok p) pair answers =
      written_unwritten m.into (IsMergeAnswer g p.first p.second) (IsAboveLimit g p.first p.second) (limit_status g p.first p.second) answers
  pair_unwritten m g (Err stop) pair says =
      absurd (certificate_unwritten stop (pair_stops g (held old m.first) (held old m.second) stop pair) (cc says))

  merge_unwritten : (m : Merging) (r : Result Ground Stop) → ((stop : Stop) → r ≡ Err stop → stop ≡ WriteFailed → ⊥)
      → AnswersMerge held writes old new m r (Err WriteFailed) → Rose (writes old) (writes new)
  merge_unwritten m (Ok g) so (r, pair, answers) = pair_unwritten m g r pair answers
  merge_unwritten m (Err stop) so says = absurd (so stop refl (cc says))

  graph_unwritten : (d : Drawing) (g : Ground) (r : Result Content Stop) → IsJudged g (held old d.certificate) r
      → AnswersGraph held writes old new d g r (Err WriteFailed) → Rose (writes old) (writes new)
  graph_unwritten d g (Ok c) judged answers =
      written_unwritten d.into (IsDrawAnswer g c d.states) (λ stop. ⊥) (λ stop none. absurd none) answers
  graph_unwritten d g (Err stop) judged says =
      absurd (certificate_unwritten stop (judged_stops g (held old d.certificate) stop judged) (cc says))

  draw_unwritten : (d : Drawing) (r : Result Ground Stop) → ((stop : Stop) → r ≡ Err stop → stop ≡ WriteFailed → ⊥)
      → AnswersDraw held writes old new d r (Err WriteFailed) → Rose (writes old) (writes new)
  draw_unwritten d (Ok g) so (r, judged, answers) = graph_unwritten d g r judged answers
  draw_unwritten d (Err stop) so says = absurd (so stop refl (cc says))

  ground_unwritten : (r : Result Ground Stop) → ((stop : Stop) → r ≡ Err stop → stop ≡ WriteFailed → ⊥)
      → reported (held old) r ≡ Err WriteFailed → ⊥
  ground_unwritten (Ok g) so says = cc says
  ground_unwritten (Err stop) so says = so stop refl (cc says)

  line_unwritten : (places seed : ℕ) (r : Result Ground Stop) → ((stop : Stop) → r ≡ Err stop → stop ≡ WriteFailed → ⊥)
      → AnswersLine places seed r (Err WriteFailed) → ⊥
  line_unwritten places seed (Ok g) so measured = cc measured.says
  line_unwritten places seed (Err stop) so says = so stop refl (cc says)

  pub unwritten : TextsStopSo → (q : Asked) → Answers held writes old new q (Err WriteFailed) → WritesAlone (Some q) × Rose (writes old) (writes new)
  unwritten stops (to_solve s) (r, (t, are, is), rest) =
      (inl (s, refl), solve_unwritten s r (texts_unwritten stops s.sources t r is) rest)
  unwritten stops (to_check s name) (r, (t, are, is), rest) =
      absurd (check_unwritten name (λ _. accepted_text) r (texts_unwritten stops s t r is) rest)
  unwritten stops (to_serve s) (stop, (t, are, is), says) =
      absurd (texts_unwritten stops s.sources t (Err stop) is stop refl (cc says))
  unwritten stops (to_ground s) (r, (t, are, is), rest) = absurd (ground_unwritten r (texts_unwritten stops s t r is) rest)
  unwritten stops (to_bench places seed) (r, is, rest) =
      absurd (line_unwritten places seed r (texts_unwritten stops line_sources (one_text (line_text places seed)) r is) rest)
  unwritten stops (to_merge m) (r, (t, are, is), rest) =
      (inr (inl (m, refl)), merge_unwritten m r (texts_unwritten stops m.sources t r is) rest)
  unwritten stops (to_walk w) (r, (t, are, is), rest) =
      absurd (check_unwritten w.certificate (walked_text w) r (texts_unwritten stops w.sources t r is) rest)
  unwritten stops (to_draw d) (r, (t, are, is), rest) =
      (inr (inr (d, refl)), draw_unwritten d r (texts_unwritten stops d.sources t r is) rest)

-- what a status says of texts
pub record SaysOfTexts (s : Sources) (t : Texts) (long : Ground → Type 0) (status : ℕ) : Type 0 where
  pub refused : (status ≡ 6) ↔ IsRefused s t
  pub limited : IsLimited s t → status ≡ 8
  pub limited_only : status ≡ 8 → IsLimited s t ⊎ ((g : Ground) × (problem_of s t ≡ Ok g) × long g)

module _ (stops : TextsStopSo) (s : Sources) (t : Texts) where
  stop_verdict : (long : Ground → Type 0) (stop : Stop) → problem_of s t ≡ Err stop → IsOfTexts stop → SaysOfTexts s t long (status_of stop)
  stop_verdict long (Refused code file line) is so = record {
    refused = yes 6 (IsRefused s t) (code, file, line, is);
    limited = λ limited. absurd (cc (is, limited.2));
    limited_only = λ e. absurd (omega (arith, e));
  }
  stop_verdict long (Limit code most) is so = record {
    refused = no 8 6 (IsRefused s t) (λ e. omega (arith, e)) (λ refused. cc (is, refused.3));
    limited = λ limited. refl;
    limited_only = λ e. inl (code, most, is);
  }
  stop_verdict long BadWords is so = absurd so
  stop_verdict long ReadFailed is so = absurd so
  stop_verdict long WriteFailed is so = absurd so
  stop_verdict long NoMemory is so = absurd so
  stop_verdict long (NotAccepted code row) is so = absurd so
  stop_verdict long (SecondNotAccepted code row) is so = absurd so

  led_verdict : (long : Ground → Type 0) (r : Result Ground Stop) (e : Ending) → problem_of s t ≡ r → Leads long r e
      → SaysOfTexts s t long (ending_status e)
  led_verdict long (Ok g) e is of = record {
    refused = no (ending_status e) 6 (IsRefused s t) of.not_refused (λ refused. cc (is, refused.3));
    limited = λ limited. absurd (cc (is, limited.2));
    limited_only = λ eight. inr (g, is, of.limited eight);
  }
  led_verdict long (Err stop) e is says =
      subst (λ e. SaysOfTexts s t long (ending_status e)) says (stop_verdict long stop is (stops s t stop is))

  -- the refusal of texts that an ending says
  pub record SaysRefusal (e : Ending) : Type 0 where
    pub code : TextCode
    pub file : ℕ
    pub line : ℕ
    pub refused : problem_of s t ≡ Err (Refused code file line)
    pub says : e ≡ Err (Refused code file line)

  stop_refused : (stop : Stop) → problem_of s t ≡ Err stop → IsOfTexts stop → status_of stop ≡ 6 → SaysRefusal (Err stop)
  stop_refused (Refused code file line) is so six = record { code = code; file = file; line = line; refused = is; says = refl }
  stop_refused (Limit code most) is so six = absurd (omega (arith, six))
  stop_refused BadWords is so six = absurd so
  stop_refused ReadFailed is so six = absurd so
  stop_refused WriteFailed is so six = absurd so
  stop_refused NoMemory is so six = absurd so
  stop_refused (NotAccepted code row) is so six = absurd so
  stop_refused (SecondNotAccepted code row) is so six = absurd so

  pub led_refused : (long : Ground → Type 0) (r : Result Ground Stop) (e : Ending) → problem_of s t ≡ r → Leads long r e → ending_status e ≡ 6
      → SaysRefusal e
  led_refused long (Ok g) e is of six = absurd (of.not_refused six)
  led_refused long (Err stop) e is says six =
      subst SaysRefusal says (stop_refused stop is (stops s t stop is) (ap ending_status says ∙ six))

-- ---- with a server or without

module _ {S : Type 0} (held : S → List ℕ → Told) (reads writes : S → ℕ) (old new : S) (x : Exchange) where
  service_leads : (s : Solving) (e : Ending) (service : HasService held reads writes old new x s e)
      → IsOfProblem (IsTooLongFor (to_serve s) service.g) (ending_status e)
  service_leads s e service = elim service.ends [
    | inl none ↦ five_leads (IsTooLongFor (to_serve s) service.g) (ending_status e) (ap ending_status none)
    | inr ends ↦ behind_leads held writes old new s service.g service.replies service.served.end (stop_of service.served.end) refl e ends
  ]

  pub service_led : (s : Sources) (q : Asked) → sources_of q ≡ Some s → (e : Ending) → ServiceFor held reads writes old new x q e
      → (r : Result Ground Stop) × MayGiveProblem (held old) s r × Leads (IsTooLongFor q) r e
  service_led s (to_serve y) is e service =
      let same : y.sources ≡ s = cc is in
      (Ok service.g, subst (λ z. MayGiveProblem (held old) z (Ok service.g)) same service.problem, service_leads y e service)
  service_led s (to_solve y) is e service = absurd service
  service_led s (to_check y name) is e service = absurd service
  service_led s (to_ground y) is e service = absurd service
  service_led s (to_bench places seed) is e service = absurd service
  service_led s (to_merge m) is e service = absurd service
  service_led s (to_walk w) is e service = absurd service
  service_led s (to_draw d) is e service = absurd service

  pub service_texts : (q : Asked) (e : Ending) → ServiceFor held reads writes old new x q e → ending_status e ≢ 6
  service_texts (to_serve s) e service = (service_leads s e service).not_refused
  service_texts (to_solve s) e service = absurd service
  service_texts (to_check s name) e service = absurd service
  service_texts (to_ground s) e service = absurd service
  service_texts (to_bench places seed) e service = absurd service
  service_texts (to_merge m) e service = absurd service
  service_texts (to_walk w) e service = absurd service
  service_texts (to_draw d) e service = absurd service

  pub service_words : (q : Asked) (e : Ending) → ServiceFor held reads writes old new x q e → ending_status e ≢ 2
  service_words (to_serve s) e service = (service_leads s e service).not_words
  service_words (to_solve s) e service = absurd service
  service_words (to_check s name) e service = absurd service
  service_words (to_ground s) e service = absurd service
  service_words (to_bench places seed) e service = absurd service
  service_words (to_merge m) e service = absurd service
  service_words (to_walk w) e service = absurd service
  service_words (to_draw d) e service = absurd service

module _ (held : List ℕ → Told) (told : OneProblemIsTold) (stops : TextsStopSo) where
  -- what the status says of the texts
  pub text_verdict : (s : Sources) (t : Texts) → HoldsTexts held s t → (q : Asked) (e : Ending)
      → (r : Result Ground Stop) × MayGiveProblem held s r × Leads (IsTooLongFor q) r e → SaysOfTexts s t (IsTooLongFor q) (ending_status e)
  text_verdict s t texts q e led = led_verdict stops s t (IsTooLongFor q) led.0 e (told held s t texts led.0 led.1) led.2

module _ (held : List ℕ → Told) where
  module _ (told : OneProblemIsTold) (stops : TextsStopSo) (s : Sources) (t : Texts) (texts : HoldsTexts held s t) where
    -- ---- `ground`

    pub stop_is_not_zero : (stop : Stop) → IsOfTexts stop → (status_of stop ≢ 0) × (status_of stop ≢ 7)
    stop_is_not_zero (Refused code file line) so = ((λ e. omega (arith, e)), (λ e. omega (arith, e)))
    stop_is_not_zero (Limit code most) so = ((λ e. omega (arith, e)), (λ e. omega (arith, e)))
    stop_is_not_zero BadWords so = absurd so
    stop_is_not_zero ReadFailed so = absurd so
    stop_is_not_zero WriteFailed so = absurd so
    stop_is_not_zero NoMemory so = absurd so
    stop_is_not_zero (NotAccepted code row) so = absurd so
    stop_is_not_zero (SecondNotAccepted code row) so = absurd so

    reported_verdict : (r : Result Ground Stop) → problem_of s t ≡ r → (ending_status (reported held r) ≡ 0) ↔ IsGrounded s t
    reported_verdict (Ok g) is = yes 0 (IsGrounded s t) (g, is)
    reported_verdict (Err stop) is =
        no (status_of stop) 0 (IsGrounded s t) (stop_is_not_zero stop (stops s t stop is)).0 (λ grounded. cc (is, grounded.1))

    abbrev pub GroundEnds : Ending → Type 0
    GroundEnds e = (r : Result Ground Stop) × MayGiveProblem held s r × (reported held r ≡ e)

    pub ground_verdict : (e : Ending) → GroundEnds e → (ending_status e ≡ 0) ↔ IsGrounded s t
    ground_verdict e (r, given, says) =
        subst (λ e. (ending_status e ≡ 0) ↔ IsGrounded s t) says (reported_verdict r (told held s t texts r given))

    -- the problem that is reported
    reported_so : (r : Result Ground Stop) → problem_of s t ≡ r → ending_status (reported held r) ≡ 0
        → (g : Ground) × (problem_of s t ≡ Ok g) × (reported held r ≡ Ok (Done (ground_text g)))
    reported_so (Ok g) is zero = (g, is, refl)
    reported_so (Err stop) is zero = absurd ((stop_is_not_zero stop (stops s t stop is)).0 zero)

    pub ground_reported : (e : Ending) → GroundEnds e → ending_status e ≡ 0
        → (g : Ground) × (problem_of s t ≡ Ok g) × (e ≡ Ok (Done (ground_text g)))
    ground_reported e (r, given, says) zero =
        let so = reported_so r (told held s t texts r given) (ap ending_status says ∙ zero) in
        (so.0, so.1, sym says ∙ so.2)

    -- ---- `check`, `walk` and `draw`

    module _ (law : TextsAreRead) (balance : AcceptedIsBalanced) (f : List ℕ) where
      abbrev BySeven : Ending → Type 0
      BySeven e = ((ending_status e ≡ 0) ↔ IsAccepted s t f) × ((ending_status e ≡ 7) ↔ IsRejected s t f)

      module _ (g : Ground) (is : problem_of s t ≡ Ok g) where
        pub accepted_by_bytes : (c : Content) → IsDecoded f c → IsBalancedFor g c → IsAccepted s t f
        accepted_by_bytes c decoded balanced = (g, c, is, decoded, balanced)

        pub rejected_by_bytes : IsNone law f g → IsRejected s t f
        rejected_by_bytes none = (g, is, none)

        pub not_rejected : (c : Content) → IsDecoded f c → IsBalancedFor g c → IsRejected s t f → ⊥
        not_rejected c decoded balanced rejected =
            let same : rejected.0 ≡ g = cc (is, rejected.1) in
            rejected.2 c decoded (subst (λ (h : Ground). IsBalancedFor h c) (sym same) balanced)

        pub not_accepted : IsNone law f g → IsAccepted s t f → ⊥
        not_accepted none accepted =
            let same : accepted.0 ≡ g = cc (is, accepted.2) in
            none accepted.1 accepted.3 (subst (λ (h : Ground). IsBalancedFor h accepted.1) same accepted.4)

        none_verdict : IsNone law f g → SaysSeven (IsAccepted s t f) (IsRejected s t f)
        none_verdict none = (
          no 7 0 (IsAccepted s t f) (λ e. omega (arith, e)) (not_accepted none),
          yes 7 (IsRejected s t f) (rejected_by_bytes none),
        )

        said_verdict : (text : Content → List ℕ) (r : Result Content Stop) → IsSoOf law f g r → HasVerdict (ending_status (said_of text r))
            → BySeven (said_of text r)
        said_verdict text (Ok c) so verdict = (
          yes 0 (IsAccepted s t f) (accepted_by_bytes c so.0 so.1),
          no 0 7 (IsRejected s t f) (λ e. omega (arith, e)) (not_rejected c so.0 so.1),
        )
        said_verdict text (Err (NotAccepted code row)) so verdict = none_verdict so
        said_verdict text (Err (SecondNotAccepted code row)) so verdict = none_verdict so
        said_verdict text (Err NoMemory) so verdict = absurd (verdict.enough_memory refl)
        said_verdict text (Err (Refused code file line)) so verdict = absurd so
        said_verdict text (Err (Limit code most)) so verdict = absurd so
        said_verdict text (Err BadWords) so verdict = absurd so
        said_verdict text (Err ReadFailed) so verdict = absurd so
        said_verdict text (Err WriteFailed) so verdict = absurd so

      module _ (name : List ℕ) (also : held name ≡ Holds f) (text : Ground → Content → List ℕ) where
        answer_verdict : (r : Result Ground Stop) → problem_of s t ≡ r → (e : Ending) → AnswersJudged held name text r e
            → HasVerdict (ending_status e) → BySeven e
        answer_verdict (Ok g) is e (rc, judged, says) verdict =
            subst BySeven says
            (said_verdict g is (text g) rc (judged_so law f g balance (held name) also rc judged)
            (subst (λ e. HasVerdict (ending_status e)) (sym says) verdict))
        answer_verdict (Err stop) is e says verdict =
            let not_so = stop_is_not_zero stop (stops s t stop is) in
            let none : BySeven (Err stop) = (
              no (status_of stop) 0 (IsAccepted s t f) not_so.0 (λ accepted. cc (is, accepted.2)),
              no (status_of stop) 7 (IsRejected s t f) not_so.1 (λ rejected. cc (is, rejected.1)),
            ) in
            subst BySeven says none

        abbrev pub CheckEnds : Ending → Type 0
        CheckEnds e = (r : Result Ground Stop) × MayGiveProblem held s r × AnswersJudged held name text r e

        -- what the status says of the certificate's bytes
        pub check_verdict : (e : Ending) → CheckEnds e → HasVerdict (ending_status e)
            → ((ending_status e ≡ 0) ↔ IsAccepted s t f) × ((ending_status e ≡ 7) ↔ IsRejected s t f)
        check_verdict e (r, given, rest) verdict = answer_verdict r (told held s t texts r given) e rest verdict

        -- the certificate whose report is put
        pub record IsReported (e : Ending) : Type 0 where
          pub g : Ground
          pub c : Content
          pub problem : problem_of s t ≡ Ok g
          pub decoded : IsDecoded f c
          pub balanced : IsBalancedFor g c
          pub says : e ≡ Ok (Done (text g c))

        said_reported : (g : Ground) → problem_of s t ≡ Ok g → (r : Result Content Stop) → IsSoOf law f g r
            → ending_status (said_of (text g) r) ≡ 0 → IsReported (said_of (text g) r)
        said_reported g is (Ok c) so zero = record { g = g; c = c; problem = is; decoded = so.0; balanced = so.1; says = refl }
        said_reported g is (Err (NotAccepted code row)) so zero = absurd (omega (arith, zero))
        said_reported g is (Err (SecondNotAccepted code row)) so zero = absurd (omega (arith, zero))
        said_reported g is (Err NoMemory) so zero = absurd (omega (arith, zero))
        said_reported g is (Err (Refused code file line)) so zero = absurd so
        said_reported g is (Err (Limit code most)) so zero = absurd so
        said_reported g is (Err BadWords) so zero = absurd so
        said_reported g is (Err ReadFailed) so zero = absurd so
        said_reported g is (Err WriteFailed) so zero = absurd so

        answer_reported : (r : Result Ground Stop) → problem_of s t ≡ r → (e : Ending) → AnswersJudged held name text r e
            → ending_status e ≡ 0 → IsReported e
        answer_reported (Ok g) is e (rc, judged, says) zero =
            subst IsReported says
            (said_reported g is rc (judged_so law f g balance (held name) also rc judged) (ap ending_status says ∙ zero))
        answer_reported (Err stop) is e says zero = absurd ((stop_is_not_zero stop (stops s t stop is)).0 (ap ending_status says ∙ zero))

        pub check_reported : (e : Ending) → CheckEnds e → ending_status e ≡ 0 → IsReported e
        check_reported e (r, given, rest) zero = answer_reported r (told held s t texts r given) e rest zero
