-- The statuses of requests that meet no fault.
use Rattle.std.proofs.Common.{◌≡◌, ℕ, inl, inr, Bool, List, refl, sym, ap, ◌∙◌, subst, arith, Option, Some, None, Result, Ok, Err}
use Rattle.std.specs.Prelude.{◌≢◌, Contains}
use Rattle.std.specs.Borrow.{Bor}
use Rattle.shelf_io.specs.Causes.{Rose}
use Rattle.shelf_io.specs.Shelf.{Told}
use Rattle.certificate.specs.Content.{Content}
use Rattle.ground_model.specs.Ground.{Ground}
use Rattle.plan_request.specs.Asked.{Sources, Solving, Merging, Drawing, Asked, to_solve, to_check, to_serve, to_ground, to_bench, to_merge, to_walk, to_draw}
use Rattle.plan_request.specs.Laws.{IsInRange}
use Rattle.plan_report.specs.Reports.{accepted_text}
use Rattle.plan_search.specs.declared.answer.Answer.{Answer}
use Rattle.plan_search.specs.Answers.{IsTooLong}
use Rattle.plan_search.specs.Under.{IsAnswerWith}
use Rattle.plan_search.specs.Serving.{stop_of, IsServiceOf}
use Rattle.policy_server.specs.declared.serve_end.ServeEnd.{ServeEnd}
use Rattle.policy_server.specs.Replies.{Reply}
use Rattle.policy_server.specs.Serving.{input}
use Rattle.plan_request.specs.declared.stop.Stop.{Stop}
use Rattle.plan_request.specs.declared.stop.Stop.TheVariants.{BadWords, ReadFailed, WriteFailed, NoMemory, Refused, NotAccepted, SecondNotAccepted, Limit}
use Rattle.plan_request.specs.stop.Stop.{Ending, ending_status, status_of}
use Rattle.plan_sources.specs.Problems.{problem_of}
use Rattle.plan_sources.specs.Laws.{IsOfTexts, TextsStopSo}
use Rattle.bench_line.specs.Laws.{LineIsGrounded}
use Rattle.plan_app.specs.Measuring.{line_sources}
use Rattle.plan_app.specs.declared.pair.Pair.{Pair}
use Rattle.plan_app.specs.Asking.{Asks, AsksToWrite}
use Rattle.plan_app.specs.Judging.{IsJudged, said_of}
use Rattle.plan_app.specs.Merging.{IsPair}
use Rattle.plan_app.specs.Walking.{walked_text}
use Rattle.plan_app.specs.Endings.{said_by, Exchange, exchange, AnswersLine, AnswersJudged, AnswersWritten, AnswersSearch, AnswersSolve, AnswersPair, AnswersMerge, AnswersGraph, AnswersDraw, reported, Lacks, Answers, EndsBehind, Faults, MayEndRequest, HasService, MayEndWords}
use Rattle.plan_app.specs.Verdicts.{answers_to, IsAnswerTo}
use Rattle.plan_app.proofs.Exchanges.{stops_by_fault, take_rose}
use Rattle.plan_app.proofs.Judged.{IsOfCertificate, certificate_status, judged_stops}
use Rattle.plan_app.proofs.Pairing.{pair_stops}
use Rattle.plan_app.proofs.Verdict.{said_by_status, limit_status}

-- among the statuses l
module _ (l : List ℕ) where
  abbrev Among : Ending → Type 0
  Among e = Contains l (ending_status e)

  searched : Contains l 0 → Contains l 1 → (b : Bool) (text : List ℕ) (e : Ending) → Ok (said_by b text) ≡ e → Among e
  searched zero one b text e says =
      subst Among says
      (elim (said_by_status b text) [
        | inl is ↦ subst (Contains l) (sym is) zero
        | inr is ↦ subst (Contains l) (sym is) one
      ])

  module _ (five : Contains l 5) (six : Contains l 6) (eight : Contains l 8) where
    text_stop : (stop : Stop) → IsOfTexts stop → Among (Err stop)
    text_stop (Refused code file line) so = six
    text_stop (Limit code most) so = eight
    text_stop BadWords so = absurd so
    text_stop ReadFailed so = absurd so
    text_stop WriteFailed so = absurd so
    text_stop NoMemory so = absurd so
    text_stop (NotAccepted code row) so = absurd so
    text_stop (SecondNotAccepted code row) so = absurd so

    certificate_stop : Contains l 7 → (stop : Stop) → IsOfCertificate stop → Among (Err stop)
    certificate_stop seven stop so = elim (certificate_status stop so) [
      | inl is ↦ subst (Contains l) (sym is) seven
      | inr is ↦ subst (Contains l) (sym is) five
    ]

    texts_stop : TextsStopSo → (s : Sources) (stop : Stop) (e : Ending) → IsOfTexts stop → Err stop ≡ e → Among e
    texts_stop stops s stop e so says = subst Among says (text_stop stop so)

    judged : Contains l 0 → Contains l 7 → (g : Ground) (told : Told) (text : Content → List ℕ) (r : Result Content Stop) → IsJudged g told r
        → (e : Ending) → said_of text r ≡ e → Among e
    judged zero seven g told text (Ok c) is e says = subst Among says zero
    judged zero seven g told text (Err stop) is e says = subst Among says (certificate_stop seven stop (judged_stops g told stop is))

module _ {S I : Type 0} (held : S → List ℕ → Told) (reads writes : S → ℕ) (takes : I → ℕ) (old new : S) (from to : I) (stops : TextsStopSo)
    (lines : LineIsGrounded) where
  -- a certificate that is written
  written_answers : (l : List ℕ) → Contains l 0 → Contains l 1 → Contains l 8 → (name : List ℕ) (Is : Answer → Type 0) (Above : Stop → Type 0)
      → ((stop : Stop) → Above stop → status_of stop ≡ 8) → (e : Ending) → (Rose (writes old) (writes new) → ⊥)
      → AnswersWritten held writes old new name Is Above e → Among l e
  written_answers l zero one eight name Is Above so e no_rise (inl wrote) = searched l zero one wrote.answer.converged _ e wrote.says
  written_answers l zero one eight name Is Above so e no_rise (inr (inl (stop, above, says))) =
      subst (Among l) says (subst (Contains l) (sym (so stop above)) eight)
  written_answers l zero one eight name Is Above so e no_rise (inr (inr (says, rose))) = absurd (no_rise rose)

  -- a search has the same answers with a server and without
  search_answers : (s : Solving) (g : Ground) (Is : Answer → Type 0) (e : Ending) → (Rose (writes old) (writes new) → ⊥)
      → AnswersSearch held writes old new s g Is e → IsAnswerTo (to_solve s) (ending_status e)
  search_answers s g Is e no_rise answers =
      written_answers (answers_to (to_solve s)) (0, omega arith, refl) (1, omega arith, refl) (4, omega arith, refl) s.certificate Is
      (IsTooLong g s.effort s.sizes) (λ stop long. ap status_of long.stop_is) e no_rise answers

  solve_answers : (s : Solving) (r : Result Ground Stop) (e : Ending) → ((stop : Stop) → r ≡ Err stop → IsOfTexts stop)
      → (Rose (writes old) (writes new) → ⊥) → AnswersSolve held writes old new s r e → IsAnswerTo (to_solve s) (ending_status e)
  solve_answers s (Ok g) e so no_rise answers = search_answers s g (IsAnswerWith g s.effort s.sizes s.lower) e no_rise answers
  solve_answers s (Err stop) e so no_rise says =
      texts_stop (answers_to (to_solve s)) (2, omega arith, refl) (3, omega arith, refl) (4, omega arith, refl) stops s.sources stop e
      (so stop refl) says

  -- `merge`, `walk` and `draw` have the same statuses as `check`
  check_answers : (s : Sources) (name : List ℕ) (text : Ground → Content → List ℕ) (r : Result Ground Stop) (e : Ending)
      → ((stop : Stop) → r ≡ Err stop → IsOfTexts stop) → AnswersJudged (held old) name text r e → IsAnswerTo (to_check s name) (ending_status e)
  check_answers s name text (Ok g) e so (rc, is, says) =
      judged (answers_to (to_check s name)) (1, omega arith, refl) (2, omega arith, refl) (4, omega arith, refl)
      (0, omega arith, refl) (3, omega arith, refl) g (held old name) (text g) rc is e says
  check_answers s name text (Err stop) e so says =
      texts_stop (answers_to (to_check s name)) (1, omega arith, refl) (2, omega arith, refl) (4, omega arith, refl) stops s stop e
      (so stop refl) says

  -- what is written of two certificates has status 0
  pair_answers : (m : Merging) (g : Ground) (r : Result Pair Stop) → IsPair g (held old m.first) (held old m.second) r → (e : Ending)
      → (Rose (writes old) (writes new) → ⊥) → AnswersPair held writes old new m g r e → IsAnswerTo (to_merge m) (ending_status e)
  pair_answers m g (Ok p) pair e no_rise (inl wrote) =
      subst (Among (answers_to (to_merge m))) wrote.says
      (subst (λ b. Among (answers_to (to_merge m)) (Ok (said_by b wrote.answer.report))) (sym wrote.is_answer.converged) (0, omega arith, refl))
  pair_answers m g (Ok p) pair e no_rise (inr (inl (stop, above, says))) =
      subst (Among (answers_to (to_merge m))) says
      (subst (Contains (answers_to (to_merge m))) (sym (limit_status g p.first p.second stop above)) (4, omega arith, refl))
  pair_answers m g (Ok p) pair e no_rise (inr (inr (says, rose))) = absurd (no_rise rose)
  pair_answers m g (Err stop) pair e no_rise says =
      subst (Among (answers_to (to_merge m))) says
      (certificate_stop (answers_to (to_merge m)) (1, omega arith, refl) (2, omega arith, refl) (4, omega arith, refl) (3, omega arith, refl)
      stop (pair_stops g (held old m.first) (held old m.second) stop pair))

  merge_answers : (m : Merging) (r : Result Ground Stop) (e : Ending) → ((stop : Stop) → r ≡ Err stop → IsOfTexts stop)
      → (Rose (writes old) (writes new) → ⊥) → AnswersMerge held writes old new m r e → IsAnswerTo (to_merge m) (ending_status e)
  merge_answers m (Ok g) e so no_rise (r, pair, answers) = pair_answers m g r pair e no_rise answers
  merge_answers m (Err stop) e so no_rise says =
      texts_stop (answers_to (to_merge m)) (1, omega arith, refl) (2, omega arith, refl) (4, omega arith, refl) stops m.sources stop e
      (so stop refl) says

  -- and so has the text of a graph
  graph_answers : (d : Drawing) (g : Ground) (r : Result Content Stop) → IsJudged g (held old d.certificate) r → (e : Ending)
      → (Rose (writes old) (writes new) → ⊥) → AnswersGraph held writes old new d g r e → IsAnswerTo (to_draw d) (ending_status e)
  graph_answers d g (Ok c) judged e no_rise (inl wrote) =
      subst (Among (answers_to (to_draw d))) wrote.says
      (subst (λ b. Among (answers_to (to_draw d)) (Ok (said_by b wrote.answer.report))) (sym wrote.is_answer.converged) (0, omega arith, refl))
  graph_answers d g (Ok c) judged e no_rise (inr (inl (stop, none, says))) = absurd none
  graph_answers d g (Ok c) judged e no_rise (inr (inr (says, rose))) = absurd (no_rise rose)
  graph_answers d g (Err stop) judged e no_rise says =
      subst (Among (answers_to (to_draw d))) says
      (certificate_stop (answers_to (to_draw d)) (1, omega arith, refl) (2, omega arith, refl) (4, omega arith, refl) (3, omega arith, refl)
      stop (judged_stops g (held old d.certificate) stop judged))

  draw_answers : (d : Drawing) (r : Result Ground Stop) (e : Ending) → ((stop : Stop) → r ≡ Err stop → IsOfTexts stop)
      → (Rose (writes old) (writes new) → ⊥) → AnswersDraw held writes old new d r e → IsAnswerTo (to_draw d) (ending_status e)
  draw_answers d (Ok g) e so no_rise (r, judged, answers) = graph_answers d g r judged e no_rise answers
  draw_answers d (Err stop) e so no_rise says =
      texts_stop (answers_to (to_draw d)) (1, omega arith, refl) (2, omega arith, refl) (4, omega arith, refl) stops d.sources stop e
      (so stop refl) says

  ground_answers : (s : Sources) (r : Result Ground Stop) (e : Ending) → ((stop : Stop) → r ≡ Err stop → IsOfTexts stop)
      → reported (held old) r ≡ e → IsAnswerTo (to_ground s) (ending_status e)
  ground_answers s (Ok g) e so says = subst (λ e. IsAnswerTo (to_ground s) (ending_status e)) says (0, omega arith, refl)
  ground_answers s (Err stop) e so says =
      texts_stop (answers_to (to_ground s)) (1, omega arith, refl) (2, omega arith, refl) (3, omega arith, refl) stops s stop e
      (so stop refl) says

  line_answers : (places seed : ℕ) (r : Result Ground Stop) (e : Ending) → (g : Ground) × (r ≡ Ok g) → AnswersLine places seed r e
      → IsAnswerTo (to_bench places seed) (ending_status e)
  line_answers places seed (Ok g) e is measured =
      searched (answers_to (to_bench places seed)) (0, omega arith, refl) (1, omega arith, refl) measured.measured.converged _ e measured.says
  line_answers places seed (Err stop) e (g, is) says = absurd (cc is)

  so_stopped : (s : Sources) (t : _) (r : Result Ground Stop) → problem_of s t ≡ r → (stop : Stop) → r ≡ Err stop → IsOfTexts stop
  so_stopped s t r is stop says = stops s t stop (subst (λ x. problem_of s t ≡ x) says is)

  answers_among : (q : Asked) (e : Ending) → IsInRange q → Answers held writes old new q e
      → (Faults reads writes takes old new from to q → ⊥) → IsAnswerTo q (ending_status e)
  answers_among (to_solve s) e within (r, (t, are, is), rest) faults =
      solve_answers s r e (so_stopped s.sources t r is) (λ rose. faults (inr rose)) rest
  answers_among (to_check s name) e within (r, (t, are, is), rest) faults =
      check_answers s name (λ _. accepted_text) r e (so_stopped s t r is) rest
  answers_among (to_serve s) e within (stop, (t, are, is), says) faults =
      texts_stop (answers_to (to_serve s)) (2, omega arith, refl) (3, omega arith, refl) (4, omega arith, refl) stops s.sources stop e
      (stops s.sources t stop is) says
  answers_among (to_ground s) e within (r, (t, are, is), rest) faults = ground_answers s r e (so_stopped s t r is) rest
  answers_among (to_bench places seed) e within (r, is, rest) faults =
      let (g, grounded) = lines line_sources refl places seed within.0.0 within.0.1 in
      line_answers places seed r e (g, sym is ∙ grounded) rest
  answers_among (to_merge m) e within (r, (t, are, is), rest) faults =
      merge_answers m r e (so_stopped m.sources t r is) (λ rose. faults (inr rose)) rest
  answers_among (to_walk w) e within (r, (t, are, is), rest) faults =
      check_answers w.sources w.certificate (walked_text w) r e (so_stopped w.sources t r is) rest
  answers_among (to_draw d) e within (r, (t, are, is), rest) faults =
      draw_answers d r e (so_stopped d.sources t r is) (λ rose. faults (inr rose)) rest

  memory_among : (q : Asked) → IsAnswerTo q 5
  memory_among (to_solve s) = (2, omega arith, refl)
  memory_among (to_check s name) = (1, omega arith, refl)
  memory_among (to_serve s) = (2, omega arith, refl)
  memory_among (to_ground s) = (1, omega arith, refl)
  memory_among (to_bench places seed) = (2, omega arith, refl)
  memory_among (to_merge m) = (1, omega arith, refl)
  memory_among (to_walk w) = (1, omega arith, refl)
  memory_among (to_draw d) = (1, omega arith, refl)

  reads_rose : (q : Asked) → Rose (reads old) (reads new) → Faults reads writes takes old new from to q
  reads_rose (to_solve s) rose = inl rose
  reads_rose (to_check s name) rose = rose
  reads_rose (to_serve s) rose = inl rose
  reads_rose (to_ground s) rose = rose
  reads_rose (to_bench places seed) rose = rose
  reads_rose (to_merge m) rose = inl rose
  reads_rose (to_walk w) rose = rose
  reads_rose (to_draw d) rose = inl rose

  -- a request that met no fault has an answer
  answer_for : (q : Asked) (e : Ending) → IsInRange q → MayEndRequest held reads writes old new q e → (Lacks (held old) q → ⊥)
      → (Faults reads writes takes old new from to q → ⊥) → IsAnswerTo q (ending_status e)
  answer_for q (Ok report) within ends lacks faults = answers_among q (Ok report) within ends faults
  answer_for q (Err BadWords) within ends lacks faults = answers_among q (Err BadWords) within ends faults
  answer_for q (Err WriteFailed) within ends lacks faults = answers_among q (Err WriteFailed) within ends faults
  answer_for q (Err (Refused code file line)) within ends lacks faults = answers_among q (Err (Refused code file line)) within ends faults
  answer_for q (Err (NotAccepted code row)) within ends lacks faults = answers_among q (Err (NotAccepted code row)) within ends faults
  answer_for q (Err (SecondNotAccepted code row)) within ends lacks faults = answers_among q (Err (SecondNotAccepted code row)) within ends faults
  answer_for q (Err (Limit code most)) within ends lacks faults = answers_among q (Err (Limit code most)) within ends faults
  answer_for q (Err NoMemory) within ends lacks faults = memory_among q
  answer_for q (Err ReadFailed) within (inl missing) lacks faults = absurd (lacks missing)
  answer_for q (Err ReadFailed) within (inr rose) lacks faults = absurd (faults (reads_rose q rose))

  -- behind a server; 4 is the answer to a fault of the sink
  behind_answers : (s : Solving) (g : Ground) (replies : List Reply) (end : ServeEnd) (o : Option Stop) → stop_of end ≡ o → (e : Ending)
      → EndsBehind held writes old new s g replies o e → (o ≡ Some ReadFailed → ⊥) → ending_status e ≢ 4
      → (Rose (writes old) (writes new) → ⊥) → IsAnswerTo (to_serve s) (ending_status e)
  behind_answers s g replies end None is e ends takes_none written no_rise =
      search_answers s g (IsServiceOf g s.effort s.sizes replies) e no_rise ends
  behind_answers s g replies end (Some stop) is e says takes_none written no_rise = elim (stops_by_fault end stop is) [
    | inl three ↦ absurd (takes_none (ap Some three))
    | inr four ↦ absurd (written (sym (ap ending_status says) ∙ ap status_of four))
  ]

module _ {S I : Type 0} (held : S → List ℕ → Told) (reads writes : S → ℕ) (left : I → Option (List ℕ)) (ends takes : I → ℕ)
    (old new : S) (from to : I) (answers : List ℕ) (stops : TextsStopSo) (lines : LineIsGrounded) where
  abbrev x : Exchange
  x = exchange (input left ends takes from) (input left ends takes to) answers

  -- a request that started a server has an answer, where neither source nor sink failed
  service_answer : (s : Solving) (e : Ending) → HasService held reads writes old new x s e
      → (Faults reads writes takes old new from to (to_serve s) → ⊥) → ending_status e ≢ 4 → IsAnswerTo (to_serve s) (ending_status e)
  service_answer s e service faults written = elim service.ends [
    | inl none ↦ subst (IsAnswerTo (to_serve s)) (sym (ap ending_status none)) (2, omega arith, refl)
    | inr ends ↦ behind_answers held reads writes takes old new from to stops lines s service.g service.replies service.served.end
        (stop_of service.served.end) refl e ends (λ is. faults (inr (inr (take_rose service.answered is)))) written (λ rose. faults (inr (inl rose)))
  ]

  pub answer_with : (q : Asked) (e : Ending) → IsInRange q → MayEndWords held reads writes old new x (Some q) e → (Lacks (held old) q → ⊥)
      → (Faults reads writes takes old new from to q → ⊥) → ending_status e ≢ 4 → IsAnswerTo q (ending_status e)
  answer_with q e within (inl (silent, may_end)) lacks faults written =
      answer_for held reads writes takes old new from to stops lines q e within may_end lacks faults
  answer_with (to_serve s) e within (inr service) lacks faults written = service_answer s e service faults written
  answer_with (to_solve s) e within (inr service) lacks faults written = absurd service
  answer_with (to_check s name) e within (inr service) lacks faults written = absurd service
  answer_with (to_ground s) e within (inr service) lacks faults written = absurd service
  answer_with (to_bench places seed) e within (inr service) lacks faults written = absurd service
  answer_with (to_merge m) e within (inr service) lacks faults written = absurd service
  answer_with (to_walk w) e within (inr service) lacks faults written = absurd service
  answer_with (to_draw d) e within (inr service) lacks faults written = absurd service

-- a certificate that was not written is a fault of its request
pub write_rose : {S I : Type 0} (reads writes : S → ℕ) (takes : I → ℕ) (old new : S) (from to : I) (words : List (Bor (List ℕ)))
    (q : Asked) → Asks words q → AsksToWrite words → Rose (writes old) (writes new) → Faults reads writes takes old new from to q
write_rose reads writes takes old new from to words q asks (inl (s, inl solves)) rose =
    let same : to_solve s ≡ q = cc (asks, solves) in
    subst (Faults reads writes takes old new from to) same (inr rose)
write_rose reads writes takes old new from to words q asks (inl (s, inr serves)) rose =
    let same : to_serve s ≡ q = cc (asks, serves) in
    subst (Faults reads writes takes old new from to) same (inr (inl rose))
write_rose reads writes takes old new from to words q asks (inr (inl (m, merges))) rose =
    let same : to_merge m ≡ q = cc (asks, merges) in
    subst (Faults reads writes takes old new from to) same (inr rose)
write_rose reads writes takes old new from to words q asks (inr (inr (d, draws))) rose =
    let same : to_draw d ≡ q = cc (asks, draws) in
    subst (Faults reads writes takes old new from to) same (inr rose)
