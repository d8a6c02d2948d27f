-- The clauses of the top call, from how the words may end and what was put.
use Rattle.std.proofs.Common.{◌≡◌, ◌≢◌, ℕ, ◌⊎◌, inl, inr, List, [], refl, sym, ap, ◌∙◌, ◌++◌, subst, arith, Option, Some, None, Result, Ok, Err}
use Rattle.std.specs.Prelude.{◌↔◌}
use Rattle.std.specs.Borrow.{Bor}
use Rattle.std.specs.Io.KnownBytes.{Appends}
use Rattle.std.proofs.KnownBytes.{Appends-trans}
use Rattle.shelf_io.specs.Causes.{Rose}
use Rattle.shelf_io.specs.Shelf.{Told, Holds}
use Rattle.certificate.specs.Content.{Content}
use Rattle.certificate.specs.Laws.{TextsAreRead}
use Rattle.certificate_check.specs.Claims.{IsBalancedFor}
use Rattle.certificate_check.specs.Laws.{AcceptedIsBalanced}
use Rattle.ppddl_model.specs.Laws.{WellFormedSums}
use Rattle.ppddl_model.specs.declared.tree.Task.{Task}
use Rattle.ground_model.specs.Ground.{Ground}
use Rattle.plan_app.specs.certificates.Laws.{NamesAreCarried, BalanceIsCarried, TaskIsEnclosed, TaskPolicyEnds}
use Rattle.plan_request.specs.Asked.{Sources, Solving, Walking, Drawing, Asked, to_solve, to_check, to_serve, to_ground, to_bench, to_merge, to_walk, to_draw}
use Rattle.plan_request.specs.Laws.{AreTerms}
use Rattle.plan_request.specs.declared.stop.report.Report.TheVariants.{Done, GapLeft}
use Rattle.plan_request.specs.declared.stop.Stop.{Stop}
use Rattle.plan_request.specs.declared.stop.Stop.TheVariants.{BadWords, ReadFailed, WriteFailed, NoMemory, Refused, NotAccepted, SecondNotAccepted, Limit}
use Rattle.plan_request.specs.stop.Stop.{Ending, ending_status, ending_text, status_of}
use Rattle.plan_search.specs.Serving.{stop_of}
use Rattle.policy_server.specs.Replies.{Reply}
use Rattle.policy_server.specs.Serving.{Input}
use Rattle.plan_sources.specs.declared.texts.Texts.{Texts}
use Rattle.plan_sources.specs.Problems.{problem_of}
use Rattle.plan_sources.specs.Sources.{MayGiveProblem}
use Rattle.plan_sources.specs.Laws.{HoldsTexts, OneProblemIsTold, TextsStopSo, TextsAreRefusedSo, ProblemStands}
use Rattle.plan_app.specs.Asking.{asked_by, IsToServe, Asks, AsksNothing, AsksToServe}
use Rattle.plan_app.specs.Endings.{Exchange, exchange, Lacks, Answers, EndsBehind, MayEndRequest, HasService, ServiceFor, MayEndWords, MayEndAs}
use Rattle.plan_report.specs.Reports.{accepted_text}
use Rattle.plan_app.specs.Walking.{walked_text}
use Rattle.plan_app.specs.Verdicts.{sources_of, TellsTexts, TellsGround, TellsCheck, TellsWalk, TellsDraw, TellsJudged, HasVerdict, IsDecoded, IsRefused, IsLimited, IsGrounded, IsTooLongFor, IsAccepted, IsRejected, MayBeTooLong, PutsRefusal, PutsProblem, PutsReport, EndsSoon}
use Rattle.plan_app.specs.Putting.{PutsAnswers, PutsPart, IsSaid, SaysPut, SaysCutShort}
use Rattle.plan_app.proofs.Exchanges.{prefix_behind, take_rose}
use Rattle.plan_app.proofs.Named.{names_balanced, names_enclose, names_end}
use Rattle.plan_app.proofs.Verdict.{CheckEnds, IsReported, Leads, SaysOfTexts, WritesAlone, said_by_status, drawn_judged, leads, led_refused, service_led, answers_words, service_texts, service_words, unwritten, text_verdict, ground_verdict, ground_reported, check_verdict, check_reported}

-- ---- endings of requests

read_failed_stop : (stop : Stop) → status_of stop ≡ 3 → stop ≡ ReadFailed
read_failed_stop ReadFailed is = refl
read_failed_stop _ is = absurd (omega (arith, is))

module _ {S : Type 0} (held : S → List ℕ → Told) (reads writes : S → ℕ) (old new : S) where
  -- a request that has a verdict was answered by what the shelf held
  pub answered_so : (q : Asked) (e : Ending) → MayEndRequest held reads writes old new q e → HasVerdict (ending_status e)
      → Answers held writes old new q e
  answered_so q (Ok report) ends verdict = ends
  answered_so q (Err BadWords) ends verdict = ends
  answered_so q (Err WriteFailed) ends verdict = ends
  answered_so q (Err (Refused code file line)) ends verdict = ends
  answered_so q (Err (NotAccepted code row)) ends verdict = ends
  answered_so q (Err (SecondNotAccepted code row)) ends verdict = ends
  answered_so q (Err (Limit code most)) ends verdict = ends
  answered_so q (Err ReadFailed) ends verdict = absurd (verdict.no_read_fault refl)
  answered_so q (Err NoMemory) ends verdict = absurd (verdict.enough_memory refl)

  not_words : TextsStopSo → (q : Asked) (e : Ending) → MayEndRequest held reads writes old new q e → ending_status e ≢ 2
  not_words stops q (Ok report) ends is = answers_words held writes old new stops q (Ok report) ends is
  not_words stops q (Err BadWords) ends is = answers_words held writes old new stops q (Err BadWords) ends refl
  not_words stops q (Err ReadFailed) ends is = omega (arith, is)
  not_words stops q (Err _) ends is = omega (arith, is)

  read_failed_so : (q : Asked) (e : Ending) → MayEndRequest held reads writes old new q e → ending_status e ≡ 3
      → Lacks (held old) q ⊎ Rose (reads old) (reads new)
  read_failed_so q (Err ReadFailed) ends is = ends
  read_failed_so q (Ok (Done text)) ends is = absurd (omega (arith, is))
  read_failed_so q (Ok (GapLeft text)) ends is = absurd (omega (arith, is))
  read_failed_so q (Err _) ends is = absurd (omega (arith, is))

  -- a certificate that was not written
  write_failed_so : TextsStopSo → (q : Asked) (e : Ending) → e ≡ Err WriteFailed → MayEndRequest held reads writes old new q e
      → WritesAlone (Some q) × Rose (writes old) (writes new)
  write_failed_so stops q e is ends =
      unwritten held writes old new stops q (subst (λ e. MayEndRequest held reads writes old new q e) is ends)

-- ---- endings with a server or without

module _ {S : Type 0} (held : S → List ℕ → Told) (reads writes : S → ℕ) (old new : S) (x : Exchange) where
  bad_words_for : TextsStopSo → (asked : Option Asked) (e : Ending) → MayEndWords held reads writes old new x asked e → ending_status e ≢ 5
      → (ending_status e ≡ 2) ↔ (asked ≡ None)
  bad_words_for stops None e (silent, inl bad) enough = ((λ two. refl), (λ none. ap ending_status bad))
  bad_words_for stops None e (silent, inr memory) enough = absurd (enough (ap ending_status memory))
  bad_words_for stops (Some q) e (inl (silent, ends)) enough =
      ((λ two. absurd (not_words held reads writes old new stops q e ends two)), (λ none. absurd (cc none)))
  bad_words_for stops (Some q) e (inr service) enough =
      ((λ two. absurd (service_words held reads writes old new x q e service two)), (λ none. absurd (cc none)))

  -- what is read where a server failed
  behind_read_failed : (s : Solving) (g : Ground) (replies : List Reply) (o : Option Stop) (e : Ending)
      → EndsBehind held writes old new s g replies o e → ending_status e ≡ 3 → o ≡ Some ReadFailed
  behind_read_failed s g replies None e (inl wrote) three =
      absurd (elim (said_by_status wrote.answer.converged wrote.answer.report) [
        | inl zero ↦ omega (arith, zero, three, ap ending_status wrote.says)
        | inr one ↦ omega (arith, one, three, ap ending_status wrote.says)
      ])
  behind_read_failed s g replies None e (inr (inl (stop, long, says))) three =
      absurd (omega (arith, three, ap ending_status says, ap status_of long.stop_is))
  behind_read_failed s g replies None e (inr (inr (says, rose))) three = absurd (omega (arith, three, ap ending_status says))
  behind_read_failed s g replies (Some stop) e says three = ap Some (read_failed_stop stop (ap ending_status says ∙ three))

  service_read_failed : (s : Solving) (e : Ending) → HasService held reads writes old new x s e → ending_status e ≡ 3
      → Rose x.from.faults x.to.faults
  service_read_failed s e service three = elim service.ends [
    | inl none ↦ absurd (omega (arith, three, ap ending_status none))
    | inr ends ↦ take_rose service.answered (behind_read_failed s service.g service.replies (stop_of service.served.end) e ends three)
  ]

  service_to_serve : (q : Asked) (e : Ending) → ServiceFor held reads writes old new x q e
      → (s : Solving) × (q ≡ to_serve s) × HasService held reads writes old new x s e
  service_to_serve (to_serve s) e service = (s, refl, service)
  service_to_serve (to_solve s) e service = absurd service
  service_to_serve (to_check s name) e service = absurd service
  service_to_serve (to_ground s) e service = absurd service
  service_to_serve (to_bench places seed) e service = absurd service
  service_to_serve (to_merge m) e service = absurd service
  service_to_serve (to_walk w) e service = absurd service
  service_to_serve (to_draw d) e service = absurd service

  read_failed_for : (asked : Option Asked) (e : Ending) → MayEndWords held reads writes old new x asked e → ending_status e ≡ 3
      → ((q : Asked) × (asked ≡ Some q) × Lacks (held old) q)
      ⊎ (Rose (reads old) (reads new) ⊎ (IsToServe asked × Rose x.from.faults x.to.faults))
  read_failed_for None e (silent, inl bad) three = absurd (omega (arith, three, ap ending_status bad))
  read_failed_for None e (silent, inr memory) three = absurd (omega (arith, three, ap ending_status memory))
  read_failed_for (Some q) e (inl (silent, ends)) three =
      elim (read_failed_so held reads writes old new q e ends three) [ inl lacks ↦ inl (q, refl, lacks) | inr rose ↦ inr (inl rose) ]
  read_failed_for (Some q) e (inr service) three =
      let (s, is, has) = service_to_serve q e service in
      inr (inr ((s, ap Some is), service_read_failed s e has three))

  pub write_failed_for : TextsStopSo → (asked : Option Asked) (e : Ending) → e ≡ Err WriteFailed → MayEndWords held reads writes old new x asked e
      → IsToServe asked ⊎ (WritesAlone asked × Rose (writes old) (writes new))
  write_failed_for stops None e is (silent, inl bad) = absurd (cc (is, bad))
  write_failed_for stops None e is (silent, inr memory) = absurd (cc (is, memory))
  write_failed_for stops (Some q) e is (inl (silent, ends)) =
      inr (write_failed_so held reads writes old new stops q e is ends)
  write_failed_for stops (Some q) e is (inr service) =
      let so = service_to_serve q e service in
      inl (so.0, ap Some so.1)

  -- what is said in place of an ending may be said
  no_memory_for : (q : Asked) (e : Ending) → ServiceFor held reads writes old new x q e → ServiceFor held reads writes old new x q (Err NoMemory)
  no_memory_for (to_serve s) e service = record {
    g = service.g;
    problem = service.problem;
    served = service.served;
    replies = service.replies;
    answered = service.answered;
    ends = inl refl;
  }
  no_memory_for (to_solve s) e service = absurd service
  no_memory_for (to_check s name) e service = absurd service
  no_memory_for (to_ground s) e service = absurd service
  no_memory_for (to_bench places seed) e service = absurd service
  no_memory_for (to_merge m) e service = absurd service
  no_memory_for (to_walk w) e service = absurd service
  no_memory_for (to_draw d) e service = absurd service

  memory_may_end : (asked : Option Asked) (e : Ending) → MayEndWords held reads writes old new x asked e
      → MayEndWords held reads writes old new x asked (Err NoMemory)
  memory_may_end None e (silent, may_end) = (silent, inr refl)
  memory_may_end (Some q) e (inl (silent, may_end)) = inl (silent, tt)
  memory_may_end (Some q) e (inr service) = inr (no_memory_for q e service)

  said_may_end : (asked : Option Asked) (e said : Ending) → MayEndWords held reads writes old new x asked e → IsSaid e said
      → MayEndWords held reads writes old new x asked said
  said_may_end asked e said ends (inl same) = subst (MayEndWords held reads writes old new x asked) (sym same) ends
  said_may_end asked e said ends (inr none) = subst (MayEndWords held reads writes old new x asked) (sym none) (memory_may_end asked e ends)

-- ---- from what was put

module _ {S : Type 0} (held : S → List ℕ → Told) (reads writes : S → ℕ) (words : List (Bor (List ℕ))) (old new : S) (from to : Input)
    (before mid : Option (List ℕ)) (e : Ending) (puts : PutsAnswers held reads writes old new from to before mid (asked_by words) e) where
  abbrev said_ends : (said : Ending) → IsSaid e said → MayEndWords held reads writes old new (exchange from to puts.answers) (asked_by words) said
  said_ends said is_said = said_may_end held reads writes old new (exchange from to puts.answers) (asked_by words) e said puts.may_end is_said

  pub ended : (status : ℕ) (now : Option (List ℕ)) (says : SaysPut e status mid now)
      → MayEndAs held reads writes words old new from to status (puts.answers ++ ending_text says.said)
  ended status now says = record {
    answers = puts.answers;
    ending = says.said;
    may_end = said_ends says.said says.is_said;
    status_is = says.status_is;
    text_is = refl;
  }

  pub put_whole : (status : ℕ) (now : Option (List ℕ)) (says : SaysPut e status mid now)
      → Appends before now (puts.answers ++ ending_text says.said)
  put_whole status now says = Appends-trans before mid now puts.answers (ending_text says.said) puts.put says.put

  put_part : (status : ℕ) (text : List ℕ) (now : Option (List ℕ)) → PutsPart mid now status text
      → PutsPart before now status (puts.answers ++ text)
  put_part status text now (inl part) = inl (prefix_behind before mid now puts.answers text puts.put part)
  put_part status text now (inr (four, put)) = inr (four, Appends-trans before mid now puts.answers text puts.put put)

  pub cut : (now : Option (List ℕ)) (says : SaysCutShort e mid now)
      → (status : ℕ) × (text : List ℕ) × MayEndAs held reads writes words old new from to status text × PutsPart before now status text
  cut now says = (
    ending_status says.said,
    puts.answers ++ ending_text says.said,
    record {
      answers = puts.answers;
      ending = says.said;
      may_end = said_ends says.said says.is_said;
      status_is = refl;
      text_is = refl;
    },
    put_part (ending_status says.said) (ending_text says.said) now says.put,
  )

-- ---- the clauses of the top call

module _ {S : Type 0} {held : S → List ℕ → Told} {reads writes : S → ℕ} {words : List (Bor (List ℕ))} {old new : S} {from to : Input}
    {status : ℕ} {text : List ℕ} (ends : MayEndAs held reads writes words old new from to status text) where
  abbrev pub x : Exchange
  x = exchange from to ends.answers

  pub request_ends : (q : Asked) → Asks words q → MayEndWords held reads writes old new x (Some q) ends.ending
  request_ends q asks = subst (λ asked. MayEndWords held reads writes old new x asked ends.ending) asks ends.may_end

  pub verdict_of : HasVerdict status → HasVerdict (ending_status ends.ending)
  verdict_of verdict = subst HasVerdict ends.status_is verdict

  -- a request that starts no server has no answers but its ending
  pub answers_of : (q : Asked) → Asks words q → (ServiceFor held reads writes old new x q ends.ending → ⊥) → HasVerdict status
      → (text ≡ ending_text ends.ending) × Answers held writes old new q ends.ending
  answers_of q asks none verdict = elim (request_ends q asks) [
    | inl (silent, may_end) ↦ (
      ends.text_is ∙ ap (λ answers. answers ++ ending_text ends.ending) silent.nothing_put,
      answered_so held reads writes old new q ends.ending may_end (verdict_of verdict),
    )
    | inr service ↦ absurd (none service)
  ]

  -- where the texts lead
  led : TextsAreRead → AcceptedIsBalanced → (s : Sources) (q : Asked) → Asks words q → sources_of q ≡ Some s → HasVerdict status
      → (r : Result Ground Stop) × MayGiveProblem (held old) s r × Leads (IsTooLongFor q) r ends.ending
  led law balance s q asks is verdict = elim (request_ends q asks) [
    | inl (silent, may_end) ↦
        leads held writes old new law balance s q is ends.ending
        (answered_so held reads writes old new q ends.ending may_end (verdict_of verdict))
    | inr service ↦ service_led held reads writes old new x s q is ends.ending service
  ]

  -- what is exactly so of the status of the ending is so of the status
  pub exactly : (n : ℕ) (P : Type 0) → (ending_status ends.ending ≡ n) ↔ P → (status ≡ n) ↔ P
  exactly n P is = subst (λ m. (m ≡ n) ↔ P) (sym ends.status_is) is

  pub bad_words_exactly : TextsStopSo → status ≢ 5 → (status ≡ 2) ↔ AsksNothing words
  bad_words_exactly stops enough =
      exactly 2 (AsksNothing words)
      (bad_words_for held reads writes old new x stops (asked_by words) ends.ending ends.may_end (subst (λ m. m ≢ 5) ends.status_is enough))

  pub read_failed_only : status ≡ 3 → ((q : Asked) × Asks words q × Lacks (held old) q)
      ⊎ (Rose (reads old) (reads new) ⊎ (AsksToServe words × Rose from.faults to.faults))
  read_failed_only three =
      read_failed_for held reads writes old new x (asked_by words) ends.ending ends.may_end (sym ends.status_is ∙ three)

  pub zero_is_a_verdict : status ≡ 0 → HasVerdict status
  zero_is_a_verdict zero = record {
    no_read_fault = λ e. omega (arith, e, zero);
    no_write_fault = λ e. omega (arith, e, zero);
    enough_memory = λ e. omega (arith, e, zero);
  }

  six_is_a_verdict : status ≡ 6 → HasVerdict status
  six_is_a_verdict six = record {
    no_read_fault = λ e. omega (arith, e, six);
    no_write_fault = λ e. omega (arith, e, six);
    enough_memory = λ e. omega (arith, e, six);
  }

  eight_is_a_verdict : status ≡ 8 → HasVerdict status
  eight_is_a_verdict eight = record {
    no_read_fault = λ e. omega (arith, e, eight);
    no_write_fault = λ e. omega (arith, e, eight);
    enough_memory = λ e. omega (arith, e, eight);
  }

  module _ (told : OneProblemIsTold) (stops : TextsStopSo) (s : Sources) (t : Texts) where
    module _ (law : TextsAreRead) (balance : AcceptedIsBalanced) (tells : TellsTexts words (held old) s t) where
      says : HasVerdict status → SaysOfTexts s t (IsTooLongFor tells.request) (ending_status ends.ending)
      says verdict =
          text_verdict (held old) told stops s t tells.texts tells.request ends.ending
          (led law balance s tells.request tells.asks tells.sources verdict)

      pub refused_exactly : HasVerdict status → (status ≡ 6) ↔ IsRefused s t
      refused_exactly verdict = exactly 6 (IsRefused s t) (says verdict).refused

      -- no server was started
      nothing_before : status ≡ 6 → ends.answers ≡ []
      nothing_before six = elim (request_ends tells.request tells.asks) [
        | inl (silent, may_end) ↦ silent.nothing_put
        | inr service ↦
            absurd (service_texts held reads writes old new x tells.request ends.ending service (sym ends.status_is ∙ six))
      ]

      pub refusal_put : TextsAreRefusedSo → (before now : Option (List ℕ)) → status ≡ 6 → Appends before now text → PutsRefusal s t before now
      refusal_put refused before now six put =
          let found = led law balance s tells.request tells.asks tells.sources (six_is_a_verdict six) in
          let said = led_refused stops s t (IsTooLongFor tells.request) found.0 ends.ending (told (held old) s t tells.texts found.0 found.1)
          found.2 (sym ends.status_is ∙ six) in
          record {
            code = said.code;
            file = said.file;
            line = said.line;
            refused = said.refused;
            why = refused s t said.code said.file said.line said.refused;
            put = subst (Appends before now)
                (ends.text_is ∙ ap (λ answers. answers ++ ending_text ends.ending) (nothing_before six)
                ∙ ap (λ (e : Ending). ending_text e) said.says) put;
          }

      pub limited_so : HasVerdict status → IsLimited s t → status ≡ 8
      limited_so verdict limited = ends.status_is ∙ (says verdict).limited limited

      pub limited_by : status ≡ 8 → IsLimited s t ⊎ MayBeTooLong words s t
      limited_by eight = elim ((says (eight_is_a_verdict eight)).limited_only (sym ends.status_is ∙ eight)) [
        | inl limited ↦ inl limited
        | inr (g, problem, long) ↦ inr (record {
          request = tells.request;
          asks = tells.asks;
          sources = tells.sources;
          g = g;
          problem = problem;
          too_long = long;
        })
      ]

    pub grounded_exactly : TellsGround words (held old) s t → HasVerdict status → (status ≡ 0) ↔ IsGrounded s t
    grounded_exactly tells verdict =
        exactly 0 (IsGrounded s t)
        (ground_verdict (held old) told stops s t tells.texts ends.ending (answers_of (to_ground s) tells.asks (λ none. none) verdict).1)

    pub problem_put : ProblemStands → AreTerms s → TellsGround words (held old) s t → (before now : Option (List ℕ)) → status ≡ 0
        → Appends before now text → PutsProblem s t before now
    problem_put stands are tells before now zero put =
        let put_so = answers_of (to_ground s) tells.asks (λ none. none) (zero_is_a_verdict zero) in
        let found = ground_reported (held old) told stops s t tells.texts ends.ending
        put_so.1 (sym ends.status_is ∙ zero) in
        record {
          g = found.0;
          problem = found.1;
          of_task = stands s t found.0 are found.1;
          put = subst (Appends before now) (put_so.0 ∙ ap ending_text found.2) put;
        }

    module _ (law : TextsAreRead) (balance : AcceptedIsBalanced) (f : List ℕ) where
      -- how `check`, `walk` and `draw` end
      record IsEnded : Type 0 where
        pub texts : HoldsTexts (held old) s t
        pub name : List ℕ
        pub certificate : held old name ≡ Holds f
        pub report : Ground → Content → List ℕ
        pub text_is : text ≡ ending_text ends.ending
        pub answers : CheckEnds (held old) told stops s t texts law balance f name certificate report ends.ending

      abbrev check_ended : TellsCheck words (held old) s t f → HasVerdict status → IsEnded
      check_ended tells verdict =
          let answers = answers_of (to_check s tells.name) tells.asks (λ none. none) verdict in
          record {
            texts = tells.texts;
            name = tells.name;
            certificate = tells.certificate;
            report = λ _. accepted_text;
            text_is = answers.0;
            answers = answers.1;
          }

      abbrev walk_ended : (w : Walking) → w.sources ≡ s → TellsWalk words (held old) w t f → HasVerdict status → IsEnded
      walk_ended w same tells verdict =
          let answers = answers_of (to_walk w) tells.asks (λ none. none) verdict in
          record {
            texts = subst (λ (x : Sources). HoldsTexts (held old) x t) same tells.texts;
            name = w.certificate;
            certificate = tells.certificate;
            report = walked_text w;
            text_is = answers.0;
            answers = (
              answers.1.0,
              subst (λ (x : Sources). MayGiveProblem (held old) x answers.1.0) same answers.1.1,
              answers.1.2,
            );
          }

      abbrev draw_ended : (d : Drawing) → d.sources ≡ s → TellsDraw words (held old) d t f → HasVerdict status → IsEnded
      draw_ended d same tells verdict =
          let answers = answers_of (to_draw d) tells.asks (λ none. none) verdict in
          let judged = drawn_judged held writes old new d answers.1.0 ends.ending answers.1.2 (verdict_of verdict) in
          record {
            texts = subst (λ (x : Sources). HoldsTexts (held old) x t) same tells.texts;
            name = d.certificate;
            certificate = tells.certificate;
            report = λ (g : Ground) (c : Content). judged.0;
            text_is = answers.0;
            answers = (
              answers.1.0,
              subst (λ (x : Sources). MayGiveProblem (held old) x answers.1.0) same answers.1.1,
              judged.1,
            );
          }

      judged_ended : TellsJudged words (held old) s t f → HasVerdict status → IsEnded
      judged_ended (inl tells) verdict = check_ended tells verdict
      judged_ended (inr (inl (w, same, tells))) verdict = walk_ended w same tells verdict
      judged_ended (inr (inr (d, same, tells))) verdict = draw_ended d same tells verdict

      judged_verdict : (ended : IsEnded) → HasVerdict status
          → ((status ≡ 0) ↔ IsAccepted s t f) × ((status ≡ 7) ↔ IsRejected s t f)
      judged_verdict ended verdict =
          let so = check_verdict (held old) told stops s t ended.texts law balance f ended.name ended.certificate ended.report ends.ending
          ended.answers (verdict_of verdict) in
          (exactly 0 (IsAccepted s t f) so.0, exactly 7 (IsRejected s t f) so.1)

      pub accepted_exactly : TellsJudged words (held old) s t f → HasVerdict status → (status ≡ 0) ↔ IsAccepted s t f
      accepted_exactly tells verdict = (judged_verdict (judged_ended tells verdict) verdict).0

      pub rejected_exactly : TellsJudged words (held old) s t f → HasVerdict status → (status ≡ 7) ↔ IsRejected s t f
      rejected_exactly tells verdict = (judged_verdict (judged_ended tells verdict) verdict).1

      -- the certificate that was accepted, and what it says of the task
      found_by : (ended : IsEnded) → status ≡ 0
          → IsReported (held old) told stops s t ended.texts law balance f ended.name ended.certificate ended.report ends.ending
      found_by ended zero =
          check_reported (held old) told stops s t ended.texts law balance f ended.name ended.certificate ended.report ends.ending
          ended.answers (sym ends.status_is ∙ zero)

      -- the report of walks under the certificate that was accepted
      pub walks_put : (w : Walking) → w.sources ≡ s → TellsWalk words (held old) w t f → (before now : Option (List ℕ)) → status ≡ 0
          → Appends before now text
          → (g : Ground) × (c : Content) × (problem_of s t ≡ Ok g) × IsDecoded f c × IsBalancedFor g c × Appends before now (walked_text w g c)
      walks_put w same tells before now zero put =
          let ended = walk_ended w same tells (zero_is_a_verdict zero) in
          let found = found_by ended zero in
          (found.g, found.c, found.problem, found.decoded, found.balanced, subst (Appends before now) (ended.text_is ∙ ap ending_text found.says) put)

      module _ (stands : ProblemStands) (names : NamesAreCarried) (ending : TaskPolicyEnds) (sums : (task : Task) → WellFormedSums task) where
        pub policy_ends : AreTerms s → TellsJudged words (held old) s t f → status ≡ 0 → EndsSoon s t f
        policy_ends are tells zero =
            let found = found_by (judged_ended tells (zero_is_a_verdict zero)) zero in
            let of_task = stands s t found.g are found.problem in
            record {
              g = found.g;
              c = found.c;
              decoded = found.decoded;
              of_task = of_task;
              ends = names_end names found.g of_task.task of_task.charges of_task.stands found.c found.balanced ending
                  (sums of_task.task of_task.well_formed);
            }

        pub report_put : AreTerms s → BalanceIsCarried → TaskIsEnclosed → (tells : TellsCheck words (held old) s t f)
            → (before now : Option (List ℕ)) → status ≡ 0 → Appends before now text → PutsReport s t f before now
        report_put are carried enclosed tells before now zero put =
            let ended = check_ended tells (zero_is_a_verdict zero) in
            let found = found_by ended zero in
            let of_task = stands s t found.g are found.problem in
            record {
              g = found.g;
              c = found.c;
              problem = found.problem;
              decoded = found.decoded;
              balanced_for = found.balanced;
              put = subst (Appends before now) (ended.text_is ∙ ap ending_text found.says) put;
              of_task = of_task;
              balanced = names_balanced names found.g of_task.task of_task.charges of_task.stands found.c found.balanced carried;
              encloses = names_enclose names found.g of_task.task of_task.charges of_task.stands found.c found.balanced enclosed;
              ends = names_end names found.g of_task.task of_task.charges of_task.stands found.c found.balanced ending
                  (sums of_task.task of_task.well_formed);
            }
