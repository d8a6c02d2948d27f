-- From the parts of a command to how its request may end.
use Rattle.std.proofs.Common.{◌≡◌, ◌≢◌, ℕ, ◌+◌, ◌≤◌, ◌⊎◌, inl, inr, List, [], refl, sym, ap, ◌∙◌, subst, arith, Option, Some, None, Result, Ok, Err}
use Rattle.std.specs.Prelude.{IfOk, IfErr}
use Rattle.std.proofs.KnownBytes.{Appends-nil}
use Rattle.shelf_io.specs.Causes.{Rose, RisesByOneAtMost}
use Rattle.shelf_io.specs.Shelf.{Told, Missing, written}
use Rattle.certificate.specs.Content.{Content}
use Rattle.ground_model.specs.Ground.{Ground}
use Rattle.plan_request.specs.Asked.{Sources, Solving, Merging, Drawing, Asked, to_solve, to_check, to_serve, to_ground, to_bench, to_merge, to_walk, to_draw}
use Rattle.plan_search.specs.declared.answer.Answer.{Answer}
use Rattle.plan_search.specs.Answers.{IsAnswerOf, IsTooLong}
use Rattle.plan_search.specs.Under.{IsAnswerWith}
use Rattle.plan_search.specs.Serving.{stop_of, IsServiceOf, AnswersBehind, EndsServing}
use Rattle.policy_server.specs.declared.served.Served.{Served}
use Rattle.policy_server.specs.Replies.{Reply}
use Rattle.policy_server.specs.Serving.{Input, input}
use Rattle.plan_search.specs.service.Served.{Streams, streams, HasServed, IsUnserved}
use Rattle.plan_request.specs.declared.stop.report.Report.{Report}
use Rattle.plan_request.specs.declared.stop.Stop.{Stop}
use Rattle.plan_request.specs.declared.stop.report.Report.TheVariants.{Done}
use Rattle.plan_request.specs.declared.stop.Stop.TheVariants.{BadWords, ReadFailed, WriteFailed, NoMemory, Refused, NotAccepted, SecondNotAccepted, Limit}
use Rattle.plan_request.specs.stop.Stop.{Ending, status_of}
use Rattle.plan_sources.specs.Endings.{MayEnd, IsFault, OnlyRead}
use Rattle.plan_sources.specs.Problems.{text_count}
use Rattle.plan_sources.specs.Sources.{LacksText, MayGiveProblem}
use Rattle.plan_sources.specs.Laws.{TextsStopSo}
use Rattle.plan_sources.proofs.Taking.{stops_whole, ends_whole, fault_since, fault_before}
use Rattle.plan_app.specs.declared.pair.Pair.{Pair}
use Rattle.plan_app.specs.Judging.{IsJudged}
use Rattle.plan_app.specs.Merging.{IsPair, LacksOne, IsAboveLimit, IsMergeAnswer}
use Rattle.plan_app.specs.Drawing.{IsDrawAnswer}
use Rattle.plan_app.specs.Endings.{said_by, AnswersBench, AnswersJudged, HasProblem, LacksBehind, Lacks, AnswersWritten, AnswersSearch, Answers, EndsBehind, MayEndRequest, IsHeld, IsMergeHeld, IsDrawHeld, OnlyWrites, LeavesForWords, CallsBehind}
use Rattle.plan_app.specs.Putting.{PutsAnswers}
use Rattle.plan_app.proofs.Exchanges.{has_put, put_rose}

-- one reading after another
pub read_on : {S : Type 0} (held : S → List ℕ → Told) (reads writes : S → ℕ) (old mid new : S) → OnlyRead held reads writes old mid
    → OnlyRead held reads writes mid new → OnlyRead held reads writes old new
read_on held reads writes old mid new first second =
    let before = first.later in
    let behind = second.later in
    record {
      held_same = second.held_same ∙ first.held_same;
      later = omega (arith, before, behind);
      no_write_fault = second.no_write_fault ∙ first.no_write_fault;
    }

-- ---- a certificate that is written

-- an ending that is no failed read
stop_ends : (fault : Type 0) (gives : Ending → Type 0) (stop : Stop) → stop ≢ ReadFailed → gives (Err stop) → MayEnd fault gives (Err stop)
stop_ends fault gives ReadFailed other given = absurd (other refl)
stop_ends fault gives NoMemory other given = tt
stop_ends fault gives BadWords other given = given
stop_ends fault gives WriteFailed other given = given
stop_ends fault gives (Refused code file line) other given = given
stop_ends fault gives (NotAccepted code row) other given = given
stop_ends fault gives (SecondNotAccepted code row) other given = given
stop_ends fault gives (Limit code most) other given = given

module _ {S : Type 0} (held : S → List ℕ → Told) (writes : S → ℕ) (old new : S) (name : List ℕ) (Is : Answer → Type 0) (Above : Stop → Type 0) where
  -- behind an answer that is written an ending is one that a request gives
  pub written_ends : (fault : Type 0) (gives : Ending → Type 0)
      → ((e : Ending) → AnswersWritten held writes old new name Is Above e → gives e) → ((stop : Stop) → Above stop → stop ≢ ReadFailed)
      → (e : Ending) → (e ≡ Err NoMemory) ⊎ AnswersWritten held writes old new name Is Above e → MayEnd fault gives e
  written_ends fault gives so no_read e (inl none) = subst (MayEnd fault gives) (sym none) tt
  written_ends fault gives so no_read e (inr (inl wrote)) =
      let a = wrote.answer in
      let there : MayEnd fault gives (Ok (said_by a.converged a.report)) =
      so (Ok (said_by a.converged a.report)) (inl (record { answer = a; is_answer = wrote.is_answer; holds = wrote.holds; says = refl })) in
      subst (MayEnd fault gives) wrote.says there
  written_ends fault gives so no_read e (inr (inr (inl (stop, above, says)))) =
      subst (MayEnd fault gives) says
      (stop_ends fault gives stop (no_read stop above) (so (Err stop) (inr (inl (stop, above, refl)))))
  written_ends fault gives so no_read e (inr (inr (inr (says, rose)))) =
      let there : MayEnd fault gives (Err WriteFailed) = so (Err WriteFailed) (inr (inr (refl, rose))) in
      subst (MayEnd fault gives) says there

  abbrev stopped_by : Stop → Ending
  stopped_by e = Err e

  -- an answer that is above its limit is not written
  pub above_stops : (e : Stop) → (e ≡ NoMemory) ⊎ Above e
      → (stopped_by e ≡ Err NoMemory) ⊎ AnswersWritten held writes old new name Is Above (stopped_by e)
  above_stops e (inl none) = inl (ap Err none)
  above_stops e (inr above) = inr (inr (inl (e, above, refl)))

module _ {S : Type 0} (held : S → List ℕ → Told) (reads writes : S → ℕ) (old mid new : S) (same : held mid ≡ held old) (name : List ℕ)
    (answer : Answer) where
  abbrev written_since : held new name ≡ written (held mid name) answer.certificate
      → held new name ≡ written (held old name) answer.certificate
  written_since is = is ∙ ap (λ h. written (h name) answer.certificate) same

  pub wrote : (Is : Answer → Type 0) (Above : Stop → Type 0) → Is answer → (r : Result Report Stop) → writes mid ≡ writes old
      → IfOk r (λ report. report ≡ said_by answer.converged answer.report)
      → IfOk r (λ _. held new name ≡ written (held mid name) answer.certificate)
      → IfErr r (λ stop. (stop ≡ NoMemory) ⊎ ((stop ≡ WriteFailed) × Rose (writes mid) (writes new)))
      → (r ≡ Err NoMemory) ⊎ AnswersWritten held writes old new name Is Above r
  wrote Is Above it (Ok report) steady said holds stops =
      inr (inl (record { answer = answer; is_answer = it; holds = written_since holds; says = ap Ok (sym said) }))
  wrote Is Above it (Err e) steady said holds stops = elim stops [
    | inl none ↦ inl (ap Err none)
    | inr failed ↦ inr (inr (inr (ap Err (sym failed.0), subst (λ n. Rose n (writes new)) steady failed.1)))
  ]

  abbrev Under : Type 0
  Under = (held new name ≡ held mid name)
      ⊎ ((held new name ≡ written (held mid name) answer.certificate) ⊎ Rose (writes mid) (writes new))

  pub under_name : (r : Result Report Stop)
      → IfOk r (λ _. held new name ≡ written (held mid name) answer.certificate)
      → IfErr r (λ stop. (stop ≡ NoMemory) ⊎ ((stop ≡ WriteFailed) × Rose (writes mid) (writes new)))
      → IfErr r (λ stop. stop ≡ NoMemory → held new ≡ held mid) → Under
  under_name (Ok report) holds stops memory = inr (inl holds)
  under_name (Err e) holds stops memory = elim stops [
    | inl none ↦ inl (ap (λ h. h name) (memory none))
    | inr failed ↦ inr (inr failed.1)
  ]

  -- what is held once the certificate was written, or was not
  pub leaves : (IsHeld : Type 0) → (held new name ≡ written (held old name) answer.certificate → IsHeld)
      → OnlyRead held reads writes old mid → Under
      → ((other : List ℕ) → other ≢ name → held new other ≡ held mid other)
      → reads new ≡ reads mid → RisesByOneAtMost (writes mid) (writes new)
      → OnlyWrites held reads writes old new name IsHeld
  leaves IsHeld so read under others steady once = record {
    certificate = elim under [
      | inl stays ↦ inl (stays ∙ ap (λ h. h name) same)
      | inr (inl holds) ↦ inr (inl (so (written_since holds)))
      | inr (inr rose) ↦ inr (inr (subst (λ n. Rose n (writes new)) read.no_write_fault rose))
    ];
    others = λ other differs. others other differs ∙ ap (λ h. h other) same;
    later = subst (λ n. reads old ≤ n) (sym steady) read.later;
    writes_once = subst (λ n. RisesByOneAtMost n (writes new)) read.no_write_fault once;
  }

-- what is held where nothing was written
pub nothing_written : {S : Type 0} (held : S → List ℕ → Told) (reads writes : S → ℕ) (old new : S) (name : List ℕ) (IsHeld : Type 0)
    → OnlyRead held reads writes old new → OnlyWrites held reads writes old new name IsHeld
nothing_written held reads writes old new name IsHeld read = record {
  certificate = inl (ap (λ h. h name) read.held_same);
  others = λ other _. ap (λ h. h other) read.held_same;
  later = read.later;
  writes_once = record { later = subst (λ n. writes old ≤ n) (sym read.no_write_fault) (omega arith); once = inl read.no_write_fault };
}

module _ {S : Type 0} (held : S → List ℕ → Told) (reads writes : S → ℕ) (old : S) where
  module _ (s : Sources) where
    -- ---- `ground`

    pub ground_stops : (new : S) (e : Stop)
        → MayEnd (IsFault reads old new (LacksText (held old) s)) (MayGiveProblem (held old) s) (Err e)
        → MayEndRequest held reads writes old new (to_ground s) (Err e)
    ground_stops new e ends =
        stops_whole (IsFault reads old new (LacksText (held old) s)) (IsFault reads old new (Lacks (held old) (to_ground s)))
        (MayGiveProblem (held old) s) (Answers held writes old new (to_ground s))
        (λ same. same) (λ stop given. (Err stop, given, refl)) e ends

    -- ---- `check` and `walk`

    module _ (name : List ℕ) (text : Ground → Content → List ℕ) where
      abbrev JudgedEnds : Ending → Type 0
      JudgedEnds e = (r : Result Ground Stop) × MayGiveProblem (held old) s r × AnswersJudged (held old) name text r e

      abbrev pub MayEndJudged : S → Ending → Type 0
      MayEndJudged new e = MayEnd (IsFault reads old new (LacksBehind (held old) s name)) JudgedEnds e

      pub texts_stop : (new : S) (e : Stop)
          → MayEnd (IsFault reads old new (LacksText (held old) s)) (MayGiveProblem (held old) s) (Err e) → MayEndJudged new (Err e)
      texts_stop new e ends =
          stops_whole (IsFault reads old new (LacksText (held old) s)) (IsFault reads old new (LacksBehind (held old) s name))
          (MayGiveProblem (held old) s) JudgedEnds
          (fault_before reads old new new (LacksText (held old) s) (LacksBehind (held old) s name) (omega arith) inl)
          (λ stop given. (Err stop, given, refl)) e ends

      module _ (g : Ground) (given : MayGiveProblem (held old) s (Ok g)) (mid : S) (same : held mid ≡ held old) where
        abbrev told_same : held mid name ≡ held old name
        told_same = ap (λ h. h name) same

        abbrev judged_since : (r : Result Content Stop) → IsJudged g (held mid name) r → IsJudged g (held old name) r
        judged_since r judged = subst (λ told. IsJudged g told r) told_same judged

        pub certificate_stops : (new : S) → reads old ≤ reads mid → (e : Stop)
            → MayEnd (IsFault reads mid new (held mid name ≡ Missing)) (IsJudged g (held mid name)) (Err e) → MayEndJudged new (Err e)
        certificate_stops new later e ends =
            stops_whole (IsFault reads mid new (held mid name ≡ Missing)) (IsFault reads old new (LacksBehind (held old) s name))
            (IsJudged g (held mid name)) JudgedEnds
            (fault_since reads old mid new (held mid name ≡ Missing) (LacksBehind (held old) s name) later
            (λ missing. inr (subst (λ told. told ≡ Missing) told_same missing, (g, given))))
            (λ stop judged. (Ok g, given, (Err stop, judged_since (Err stop) judged, refl))) e ends

        pub said : (c : Content) → IsJudged g (held mid name) (Ok c) → (new : S) (report : List ℕ) → report ≡ text g c
            → MayEndJudged new (Ok (Done report))
        said c judged new report is =
            (Ok g, given, (Ok c, judged_since (Ok c) judged, ap (λ (l : List ℕ). Ok (Done l)) (sym is)))

  -- ---- `solve`

  module _ (s : Solving) where
    pub solve_stops : (new : S) (e : Stop)
        → MayEnd (IsFault reads old new (LacksText (held old) s.sources)) (MayGiveProblem (held old) s.sources) (Err e)
        → MayEndRequest held reads writes old new (to_solve s) (Err e)
    solve_stops new e ends =
        stops_whole (IsFault reads old new (LacksText (held old) s.sources)) (IsFault reads old new (Lacks (held old) (to_solve s)))
        (MayGiveProblem (held old) s.sources) (Answers held writes old new (to_solve s))
        (λ same. same) (λ stop given. (Err stop, given, refl)) e ends

    module _ (g : Ground) (given : MayGiveProblem (held old) s.sources (Ok g)) where
      pub solve_ends : (new : S) (e : Ending)
          → (e ≡ Err NoMemory) ⊎ AnswersSearch held writes old new s g (IsAnswerWith g s.effort s.sizes s.lower) e
          → MayEndRequest held reads writes old new (to_solve s) e
      solve_ends new e ends =
          written_ends held writes old new s.certificate (IsAnswerWith g s.effort s.sizes s.lower) (IsTooLong g s.effort s.sizes)
          (IsFault reads old new (Lacks (held old) (to_solve s))) (Answers held writes old new (to_solve s))
          (λ e answers. (Ok g, given, answers)) (λ stop long is. omega (arith, ap status_of is, ap status_of long.stop_is)) e ends

      pub search_stops : (new : S) (e : Stop) → (e ≡ NoMemory) ⊎ IsTooLong g s.effort s.sizes e
          → MayEndRequest held reads writes old new (to_solve s) (Err e)
      search_stops new e stops =
          solve_ends new (Err e)
          (above_stops held writes old new s.certificate (IsAnswerWith g s.effort s.sizes s.lower) (IsTooLong g s.effort s.sizes) e stops)

      pub search_held : (answer : Answer) → IsAnswerOf g s.effort s.sizes answer → (new : S)
          → held new s.certificate ≡ written (held old s.certificate) answer.certificate → IsHeld held reads writes old new s
      search_held answer is_answer new holds =
          record { g = g; problem = given; answer = answer; is_answer = is_answer; holds = holds }

  -- ---- `merge`

  module _ (m : Merging) where
    pub merge_stops : (new : S) (e : Stop)
        → MayEnd (IsFault reads old new (LacksText (held old) m.sources)) (MayGiveProblem (held old) m.sources) (Err e)
        → MayEndRequest held reads writes old new (to_merge m) (Err e)
    merge_stops new e ends =
        stops_whole (IsFault reads old new (LacksText (held old) m.sources)) (IsFault reads old new (Lacks (held old) (to_merge m)))
        (MayGiveProblem (held old) m.sources) (Answers held writes old new (to_merge m))
        (fault_before reads old new new (LacksText (held old) m.sources) (Lacks (held old) (to_merge m)) (omega arith) inl)
        (λ stop given. (Err stop, given, refl)) e ends

    module _ (g : Ground) (given : MayGiveProblem (held old) m.sources (Ok g)) where
      module _ (mid : S) (same : held mid ≡ held old) where
        pub pair_since : (r : Result Pair Stop) → IsPair g (held mid m.first) (held mid m.second) r
            → IsPair g (held old m.first) (held old m.second) r
        pair_since r pair = subst (λ (h : List ℕ → Told). IsPair g (h m.first) (h m.second) r) same pair

        lacks_since : LacksOne g (held mid m.first) (held mid m.second) → Lacks (held old) (to_merge m)
        lacks_since lacks = inr (g, given, subst (λ (h : List ℕ → Told). LacksOne g (h m.first) (h m.second)) same lacks)

        pub pair_stops : (new : S) → reads old ≤ reads mid → (e : Stop)
            → MayEnd (IsFault reads mid new (LacksOne g (held mid m.first) (held mid m.second)))
            (IsPair g (held mid m.first) (held mid m.second)) (Err e)
            → MayEndRequest held reads writes old new (to_merge m) (Err e)
        pair_stops new later e ends =
            stops_whole (IsFault reads mid new (LacksOne g (held mid m.first) (held mid m.second)))
            (IsFault reads old new (Lacks (held old) (to_merge m)))
            (IsPair g (held mid m.first) (held mid m.second)) (Answers held writes old new (to_merge m))
            (fault_since reads old mid new (LacksOne g (held mid m.first) (held mid m.second)) (Lacks (held old) (to_merge m)) later lacks_since)
            (λ stop pair. (Ok g, given, (Err stop, pair_since (Err stop) pair, refl))) e ends

      module _ (p : Pair) (is_pair : IsPair g (held old m.first) (held old m.second) (Ok p)) where
        abbrev Is : Answer → Type 0
        Is = IsMergeAnswer g p.first p.second

        abbrev Above : Stop → Type 0
        Above = IsAboveLimit g p.first p.second

        limit_is_no_read : (stop : Stop) → Above stop → stop ≢ ReadFailed
        limit_is_no_read stop (inl (is, more)) = λ e. omega (arith, ap status_of e, ap status_of is)
        limit_is_no_read stop (inr (is, long)) = λ e. omega (arith, ap status_of e, ap status_of is)

        pub merge_ends : (new : S) (e : Ending) → (e ≡ Err NoMemory) ⊎ AnswersWritten held writes old new m.into Is Above e
            → MayEndRequest held reads writes old new (to_merge m) e
        merge_ends new e ends =
            written_ends held writes old new m.into Is Above
            (IsFault reads old new (Lacks (held old) (to_merge m))) (Answers held writes old new (to_merge m))
            (λ e answers. (Ok g, given, (Ok p, is_pair, answers))) limit_is_no_read e ends

        pub limit_stops : (new : S) (e : Stop) → (e ≡ NoMemory) ⊎ Above e → MayEndRequest held reads writes old new (to_merge m) (Err e)
        limit_stops new e stops = merge_ends new (Err e) (above_stops held writes old new m.into Is Above e stops)

        pub merge_held : (answer : Answer) → Is answer → (new : S)
            → held new m.into ≡ written (held old m.into) answer.certificate → IsMergeHeld held reads writes old new m
        merge_held answer is_answer new holds = record {
          g = g;
          problem = given;
          pair = p;
          is_pair = is_pair;
          answer = answer;
          is_answer = is_answer;
          holds = holds;
        }

  -- ---- `draw`

  module _ (d : Drawing) where
    pub draw_stops : (new : S) (e : Stop)
        → MayEnd (IsFault reads old new (LacksText (held old) d.sources)) (MayGiveProblem (held old) d.sources) (Err e)
        → MayEndRequest held reads writes old new (to_draw d) (Err e)
    draw_stops new e ends =
        stops_whole (IsFault reads old new (LacksText (held old) d.sources)) (IsFault reads old new (Lacks (held old) (to_draw d)))
        (MayGiveProblem (held old) d.sources) (Answers held writes old new (to_draw d))
        (fault_before reads old new new (LacksText (held old) d.sources) (Lacks (held old) (to_draw d)) (omega arith) inl)
        (λ stop given. (Err stop, given, refl)) e ends

    module _ (g : Ground) (given : MayGiveProblem (held old) d.sources (Ok g)) where
      module _ (mid : S) (same : held mid ≡ held old) where
        pub drawn_since : (r : Result Content Stop) → IsJudged g (held mid d.certificate) r → IsJudged g (held old d.certificate) r
        drawn_since r judged = subst (λ (h : List ℕ → Told). IsJudged g (h d.certificate) r) same judged

        pub undrawn_stops : (new : S) → reads old ≤ reads mid → (e : Stop)
            → MayEnd (IsFault reads mid new (held mid d.certificate ≡ Missing)) (IsJudged g (held mid d.certificate)) (Err e)
            → MayEndRequest held reads writes old new (to_draw d) (Err e)
        undrawn_stops new later e ends =
            stops_whole (IsFault reads mid new (held mid d.certificate ≡ Missing)) (IsFault reads old new (Lacks (held old) (to_draw d)))
            (IsJudged g (held mid d.certificate)) (Answers held writes old new (to_draw d))
            (fault_since reads old mid new (held mid d.certificate ≡ Missing) (Lacks (held old) (to_draw d)) later
            (λ missing. inr (subst (λ (h : List ℕ → Told). h d.certificate ≡ Missing) same missing, (g, given))))
            (λ stop judged. (Ok g, given, (Err stop, drawn_since (Err stop) judged, refl))) e ends

      module _ (c : Content) (judged : IsJudged g (held old d.certificate) (Ok c)) where
        pub draw_ends : (new : S) (e : Ending)
            → (e ≡ Err NoMemory) ⊎ AnswersWritten held writes old new d.into (IsDrawAnswer g c d.states) (λ stop. ⊥) e
            → MayEndRequest held reads writes old new (to_draw d) e
        draw_ends new e ends =
            written_ends held writes old new d.into (IsDrawAnswer g c d.states) (λ stop. ⊥)
            (IsFault reads old new (Lacks (held old) (to_draw d))) (Answers held writes old new (to_draw d))
            (λ e answers. (Ok g, given, (Ok c, judged, answers))) (λ stop none. absurd none) e ends

        pub draw_held : (answer : Answer) → IsDrawAnswer g c d.states answer → (new : S)
            → held new d.into ≡ written (held old d.into) answer.certificate → IsDrawHeld held reads writes old new d
        draw_held answer is_answer new holds = record {
          g = g;
          problem = given;
          c = c;
          is_judged = judged;
          answer = answer;
          is_answer = is_answer;
          holds = holds;
        }

  -- ---- `serve`

  module _ (s : Solving) where
    -- behind texts that have no problem no server is started
    pub serve_stops : (new : S) (e : Stop)
        → MayEnd (IsFault reads old new (LacksText (held old) s.sources)) (MayGiveProblem (held old) s.sources) (Err e)
        → MayEndRequest held reads writes old new (to_serve s) (Err e)
    serve_stops new e ends =
        stops_whole (IsFault reads old new (LacksText (held old) s.sources)) (IsFault reads old new (Lacks (held old) (to_serve s)))
        (MayGiveProblem (held old) s.sources) (Answers held writes old new (to_serve s))
        (λ same. same) (λ stop given. (stop, given, refl)) e ends

    module _ (g : Ground) (given : MayGiveProblem (held old) s.sources (Ok g)) (from to : Streams) where
      -- the answers that were put, and an ending behind the server
      behind : (new : S) (served : Served) (replies : List Reply) → HasServed g s.sizes.sweep_states from to served replies → (e : Ending)
          → (e ≡ Err NoMemory) ⊎ EndsBehind held writes old new s g replies (stop_of served.end) e
          → PutsAnswers held reads writes old new from.source to.source from.taken to.taken (Some (to_serve s)) e
      behind new served replies has e ends =
          let put = has_put g s.sizes.sweep_states from to served replies has in
          record {
            answers = put.answers;
            put = put.put;
            may_end = inr (record {
              g = g;
              problem = given;
              served = served;
              replies = replies;
              answered = put.answered;
              ends = ends;
            });
          }

      -- a search that has no answer
      stops_behind : (new : S) (replies : List Reply) (o : Option Stop) (e : Stop) → AnswersBehind g s.effort s.sizes o replies (Err e)
          → EndsBehind held writes old new s g replies o (Err e)
      stops_behind new replies None e long = inr (inl (e, long, refl))
      stops_behind new replies (Some stop) e is = sym (cc is)

      served_stops : (new : S) (e : Stop) → EndsServing g s.effort s.sizes from to (Err e)
          → PutsAnswers held reads writes old new from.source to.source from.taken to.taken (Some (to_serve s)) (Err e)
      served_stops new e serving = behind new serving.served serving.replies serving.has (Err e) (elim serving.ends [
        | inl none ↦ inl (cc none)
        | inr ends ↦ inr (stops_behind new serving.replies (stop_of serving.served.end) e ends)
      ])

      -- a search that has one
      of_service : (replies : List Reply) (o : Option Stop) (a : Answer) → AnswersBehind g s.effort s.sizes o replies (Ok a)
          → (o ≡ None) × IsServiceOf g s.effort s.sizes replies a
      of_service replies None a service = (refl, service)
      of_service replies (Some stop) a is = absurd (cc is)

      served_answer : (a : Answer) (serving : EndsServing g s.effort s.sizes from to (Ok a))
          → (stop_of serving.served.end ≡ None) × IsServiceOf g s.effort s.sizes serving.replies a
      served_answer a serving = elim serving.ends [
        | inl none ↦ absurd (cc none)
        | inr ends ↦ of_service serving.replies (stop_of serving.served.end) a ends
      ]

      pub answer_of_service : (a : Answer) → EndsServing g s.effort s.sizes from to (Ok a) → IsAnswerOf g s.effort s.sizes a
      answer_of_service a serving = (served_answer a serving).1.is_answer

      pub served_writes : (mid new : S) (same : held mid ≡ held old) (a : Answer) → EndsServing g s.effort s.sizes from to (Ok a)
          → (r : Result Report Stop) → writes mid ≡ writes old
          → IfOk r (λ report. report ≡ said_by a.converged a.report)
          → IfOk r (λ _. held new s.certificate ≡ written (held mid s.certificate) a.certificate)
          → IfErr r (λ stop. (stop ≡ NoMemory) ⊎ ((stop ≡ WriteFailed) × Rose (writes mid) (writes new)))
          → PutsAnswers held reads writes old new from.source to.source from.taken to.taken (Some (to_serve s)) r
      served_writes mid new same a serving r steady said holds stops =
          let service = served_answer a serving in
          behind new serving.served serving.replies serving.has r
          (subst (λ o. (r ≡ Err NoMemory) ⊎ EndsBehind held writes old new s g serving.replies o r) (sym service.0)
          (wrote held reads writes old mid new same s.certificate a (IsServiceOf g s.effort s.sizes serving.replies)
          (IsTooLong g s.effort s.sizes) service.1 r steady said holds stops))

      -- where the sink failed its count rose
      put_failed : (replies : List Reply) (o : Option Stop) (e : Stop) → AnswersBehind g s.effort s.sizes o replies (Err e) → e ≡ WriteFailed
          → o ≡ Some WriteFailed
      put_failed replies None e long is = absurd (omega (arith, ap status_of is, ap status_of long.stop_is))
      put_failed replies (Some stop) e same is = ap Some (cc (same, is))

      pub served_rose : (e : Stop) → EndsServing g s.effort s.sizes from to (Err e) → e ≡ WriteFailed → Rose from.faults to.faults
      served_rose e serving is = elim serving.ends [
        | inl none ↦ absurd (cc (none, is))
        | inr ends ↦ put_rose serving.has (put_failed serving.replies (stop_of serving.served.end) e ends is)
      ]

  -- a request that starts no server
  pub puts_nothing : (new : S) (at : Input) (taken : Option (List ℕ)) (q : Asked) (e : Ending) → MayEndRequest held reads writes old new q e
      → PutsAnswers held reads writes old new at at taken taken (Some q) e
  puts_nothing new at taken q e ends = record {
    answers = [];
    put = Appends-nil taken;
    may_end = inl (record { nothing_taken = refl; nothing_put = refl }, ends);
  }

  -- one that starts none for want of memory
  unserved : {I O : Type 0} (left : I → Option (List ℕ)) (ends takes : I → ℕ) (taken : O → Option (List ℕ)) (i j : I) (o p : O) (new : S)
      (q : Asked) (e : Stop) → e ≡ NoMemory → IsUnserved i j o p
      → PutsAnswers held reads writes old new (input left ends takes i) (input left ends takes j) (taken o) (taken p) (Some q) (Err e)
  unserved left ends takes taken i j o p new q e is same =
      subst (λ j. PutsAnswers held reads writes old new (input left ends takes i) (input left ends takes j) (taken o) (taken p) (Some q) (Err e))
      (sym same.0)
      (subst (λ p. PutsAnswers held reads writes old new (input left ends takes i) (input left ends takes i) (taken o) (taken p) (Some q) (Err e))
      (sym same.1)
      (puts_nothing new (input left ends takes i) (taken o) q (Err e)
      (subst (λ e. MayEndRequest held reads writes old new q (Err e)) (sym is) tt)))

  -- a search that has no answer, with a server or without
  pub no_answer : (s : Solving) (g : Ground) → MayGiveProblem (held old) s.sources (Ok g)
      → {I O : Type 0} (left : I → Option (List ℕ)) (ends takes : I → ℕ) (taken : O → Option (List ℕ)) (puts : O → ℕ) (i j : I) (o p : O)
      (new : S) (r : Result Answer Stop) (e : Stop) → r ≡ Err e
      → EndsServing g s.effort s.sizes (streams left ends takes taken puts i o) (streams left ends takes taken puts j p) r
      ⊎ ((r ≡ Err NoMemory) × IsUnserved i j o p)
      → PutsAnswers held reads writes old new (input left ends takes i) (input left ends takes j) (taken o) (taken p)
      (Some (to_serve s)) (Err e)
  no_answer s g given left ends takes taken puts i j o p new r e is (inl serving) =
      served_stops s g given (streams left ends takes taken puts i o) (streams left ends takes taken puts j p) new e
      (subst (EndsServing g s.effort s.sizes (streams left ends takes taken puts i o) (streams left ends takes taken puts j p)) is serving)
  no_answer s g given left ends takes taken puts i j o p new r e is (inr (none, same)) =
      unserved left ends takes taken i j o p new (to_serve s) e (cc (is, none)) same

  -- ---- `bench`

  pub measured : (new : S) (places seed : ℕ) (e : Ending) → MayEnd ⊥ (AnswersBench places seed) e
      → MayEndRequest held reads writes old new (to_bench places seed) e
  measured new places seed e ends =
      ends_whole ⊥ (IsFault reads old new (Lacks (held old) (to_bench places seed))) (AnswersBench places seed)
      (Answers held writes old new (to_bench places seed)) (λ never. absurd never) (λ r is. is) e ends

-- the shelf is asked so often more behind texts that have a problem
pub calls_behind : {S : Type 0} (held : S → List ℕ → Told) (calls : S → ℕ) (old mid new : S) (more : ℕ) (s : Sources) → HasProblem (held old) s
    → calls mid ≤ calls old + text_count s → calls new ≤ calls mid + more → CallsBehind held calls old new more s
calls_behind held calls old mid new more s has first second = record {
  most = omega (arith, first, second);
  texts_alone = λ none. absurd (none has);
}

pub calls_alone : {S : Type 0} (held : S → List ℕ → Told) (calls : S → ℕ) (old new : S) (more : ℕ) (s : Sources)
    → calls new ≤ calls old + text_count s → CallsBehind held calls old new more s
calls_alone held calls old new more s few = record { most = omega (arith, few); texts_alone = λ none. few }

-- a shelf that is left alone is left as it may be
pub unchanged : {S : Type 0} (held : S → List ℕ → Told) (reads writes : S → ℕ) (shelf : S) (asked : Option Asked)
    → LeavesForWords held reads writes shelf shelf asked
unchanged held reads writes shelf asked = by_request asked
  where
    only_read : OnlyRead held reads writes shelf shelf
    only_read = record { held_same = refl; later = omega arith; no_write_fault = refl }

    by_request : (asked : Option Asked) → LeavesForWords held reads writes shelf shelf asked
    by_request None = only_read
    by_request (Some (to_solve s)) = nothing_written held reads writes shelf shelf s.certificate (IsHeld held reads writes shelf shelf s) only_read
    by_request (Some (to_check s name)) = only_read
    by_request (Some (to_serve s)) = nothing_written held reads writes shelf shelf s.certificate (IsHeld held reads writes shelf shelf s) only_read
    by_request (Some (to_ground s)) = only_read
    by_request (Some (to_bench places seed)) = refl
    by_request (Some (to_merge m)) = nothing_written held reads writes shelf shelf m.into (IsMergeHeld held reads writes shelf shelf m) only_read
    by_request (Some (to_walk w)) = only_read
    by_request (Some (to_draw d)) = nothing_written held reads writes shelf shelf d.into (IsDrawHeld held reads writes shelf shelf d) only_read

-- ---- faults of writes

-- texts are not written
pub texts_write : TextsStopSo → (held : List ℕ → Told) (s : Sources) (fault : Type 0) (e : Stop)
    → MayEnd fault (MayGiveProblem held s) (Err e) → e ≡ WriteFailed → ⊥
texts_write stops held s fault e ends is =
    let (t, may, gives) = subst (λ e. MayEnd fault (MayGiveProblem held s) (Err e)) is ends in
    stops s t WriteFailed gives

-- a certificate that was not written raised its count
pub unwritten_rose : {S : Type 0} (writes : S → ℕ) (old mid new : S) → writes mid ≡ writes old → (r : Result Report Stop)
    → IfErr r (λ stop. (stop ≡ NoMemory) ⊎ ((stop ≡ WriteFailed) × Rose (writes mid) (writes new))) → r ≡ Err WriteFailed
    → Rose (writes old) (writes new)
unwritten_rose writes old mid new steady (Ok report) stops is = absurd (cc is)
unwritten_rose writes old mid new steady (Err e) (inl none) is = absurd (cc (none, is))
unwritten_rose writes old mid new steady (Err e) (inr (failed, rose)) is = subst (λ n. Rose n (writes new)) steady rose
