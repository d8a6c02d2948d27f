-- What the status of `merge` says of two certificates that a shelf tells, and what it put.
use Rattle.std.proofs.Common.{true, ◌≡◌, ◌≢◌, ℕ, ◌≤◌, ◌<◌, ◌⊎◌, inl, inr, List, length, refl, sym, ap, ◌∙◌, subst, arith, Option, Result, Ok, Err}
use Rattle.std.specs.Prelude.{◌↔◌}
use Rattle.std.specs.Borrow.{Bor}
use Rattle.std.specs.Io.KnownBytes.{Appends}
use Rattle.shelf_io.specs.Shelf.{Told, Holds}
use Rattle.certificate.specs.declared.limits.TheConstants.{MOST_COUNT}
use Rattle.certificate.specs.Content.{Content, text_of, most_bytes}
use Rattle.certificate.specs.Laws.{TextsAreRead}
use Rattle.certificate_check.specs.Claims.{IsBalancedFor}
use Rattle.certificate_check.specs.Laws.{AcceptedIsBalanced}
use Rattle.cert_merge.specs.Merged.{HasMoreStates, IsMergeOf, MergeIsOne}
use Rattle.ppddl_model.specs.Laws.{WellFormedSums}
use Rattle.ppddl_model.specs.declared.tree.Task.{Task}
use Rattle.ground_model.specs.Ground.{Ground}
use Rattle.plan_request.specs.Asked.{Sources, Merging, to_merge}
use Rattle.plan_request.specs.Laws.{AreTerms}
use Rattle.plan_request.specs.declared.stop.Stop.{Stop}
use Rattle.plan_request.specs.declared.stop.Stop.TheVariants.{BadWords, ReadFailed, WriteFailed, NoMemory, Refused, NotAccepted, SecondNotAccepted, Limit}
use Rattle.plan_request.specs.stop.Stop.{Ending, ending_status, ending_text, status_of}
use Rattle.plan_report.specs.Reports.{merged_text}
use Rattle.plan_search.specs.declared.answer.Answer.{Answer}
use Rattle.policy_server.specs.Serving.{Input}
use Rattle.plan_sources.specs.declared.texts.Texts.{Texts}
use Rattle.plan_sources.specs.Problems.{problem_of}
use Rattle.plan_sources.specs.Laws.{HoldsTexts, OneProblemIsTold, TextsStopSo, ProblemStands}
use Rattle.plan_app.specs.declared.pair.Pair.{Pair}
use Rattle.plan_app.specs.certificates.Laws.{NamesAreCarried, BalanceIsCarried, TaskIsEnclosed, TaskPolicyEnds}
use Rattle.plan_app.specs.Judging.{IsJudged}
use Rattle.plan_app.specs.Merging.{second_stop, pair, paired, IsPairBehind, IsAboveLimit, IsMergeAnswer}
use Rattle.plan_app.specs.Endings.{said_by, IsWritten, AnswersPair, AnswersMerge, MayEndAs}
use Rattle.plan_app.specs.Verdicts.{HasVerdict, IsDecoded, IsAccepted}
use Rattle.plan_app.specs.Merged.{TellsMerge, AreMerged, IsMerged, IsUnmerged, PutsMerged}
use Rattle.plan_app.proofs.Judged.{one_decoded, IsNone, IsSoOf, judged_so}
use Rattle.plan_app.proofs.Named.{names_balanced, names_enclose, names_end}
use Rattle.plan_app.proofs.Solved.{said_text, told_written}
use Rattle.plan_app.proofs.Statuses.{answers_of, verdict_of, exactly, zero_is_a_verdict}
use Rattle.plan_app.proofs.Verdict.{SaysSeven, yes, no, limit_status, accepted_by_bytes, rejected_by_bytes, not_rejected, not_accepted, stop_is_not_zero}

module _ (held : List ℕ → Told) (told : OneProblemIsTold) (stops : TextsStopSo) (s : Sources) (t : Texts) (texts : HoldsTexts held s t)
    (law : TextsAreRead) (balance : AcceptedIsBalanced) (one : MergeIsOne) (f f' : List ℕ) where
  abbrev ByMerge : Ending → Type 0
  ByMerge e = ((ending_status e ≡ 0) ↔ IsMerged s t f f') × ((ending_status e ≡ 7) ↔ IsUnmerged s t f f')

  first_accepted : IsMerged s t f f' → IsAccepted s t f
  first_accepted merged = let m = merged.are in (m.g, m.first, m.problem, m.first_decoded, m.first_balanced)

  second_accepted : IsMerged s t f f' → IsAccepted s t f'
  second_accepted merged = let m = merged.are in (m.g, m.second, m.problem, m.second_decoded, m.second_balanced)

  -- a certificate is not accepted
  unmerged : (IsUnmerged s t f f') → (IsMerged s t f f' → ⊥) → SaysSeven (IsMerged s t f f') (IsUnmerged s t f f')
  unmerged is none = (no 7 0 (IsMerged s t f f') (λ e. omega (arith, e)) none, yes 7 (IsUnmerged s t f f') is)

  module _ (g : Ground) (is : problem_of s t ≡ Ok g) where
    first_none : IsNone law f g → SaysSeven (IsMerged s t f f') (IsUnmerged s t f f')
    first_none none =
        unmerged (inl (rejected_by_bytes held told stops s t texts law balance f g is none))
        (λ merged. not_accepted held told stops s t texts law balance f g is none (first_accepted merged))

    module _ (c : Content) (first : IsDecoded f c × IsBalancedFor g c) where
      second_none : IsNone law f' g → SaysSeven (IsMerged s t f f') (IsUnmerged s t f f')
      second_none none =
          unmerged
          (inr (
            accepted_by_bytes held told stops s t texts law balance f g is c first.0 first.1,
            rejected_by_bytes held told stops s t texts law balance f' g is none,
          ))
          (λ merged. not_accepted held told stops s t texts law balance f' g is none (second_accepted merged))

      module _ (d : Content) (second : IsDecoded f' d × IsBalancedFor g d) where
        not_unmerged : IsUnmerged s t f f' → ⊥
        not_unmerged (inl rejected) = not_rejected held told stops s t texts law balance f g is c first.0 first.1 rejected
        not_unmerged (inr (accepted, rejected)) = not_rejected held told stops s t texts law balance f' g is d second.0 second.1 rejected

        -- the certificates of the bytes are these
        module _ (are : AreMerged s t f f') where
          same_problem : are.g ≡ g
          same_problem = cc (is, are.problem)

          same_first : are.first ≡ c
          same_first = one_decoded law f are.first c are.first_decoded first.0

          same_second : are.second ≡ d
          same_second = one_decoded law f' are.second d are.second_decoded second.0

          merge_here : IsMergeOf g c d are.merged
          merge_here = subst (λ (x : Content). IsMergeOf g c x are.merged) same_second
              (subst (λ (x : Content). IsMergeOf g x are.second are.merged) same_first
              (subst (λ (h : Ground). IsMergeOf h are.first are.second are.merged) same_problem are.is_merge))

          merge_short : length (text_of are.merged) ≤ most_bytes 2
          merge_short = subst (λ v. length (text_of are.merged) ≤ most_bytes v) are.is_merge.version are.merged_decoded.within

        more_here : (merged : IsMerged s t f f') → HasMoreStates MOST_COUNT g c d → ⊥
        more_here merged more =
            let are = merged.are in
            merged.few (subst (λ (x : Content). HasMoreStates MOST_COUNT are.g are.first x) (sym (same_second are))
            (subst (λ (x : Content). HasMoreStates MOST_COUNT are.g x d) (sym (same_first are))
            (subst (λ (h : Ground). HasMoreStates MOST_COUNT h c d) (sym (same_problem are)) more)))

        above_unmerged : (stop : Stop) → IsAboveLimit g c d stop → IsMerged s t f f' → ⊥
        above_unmerged stop (inl (limit, more)) merged = more_here merged more
        above_unmerged stop (inr (limit, long)) merged =
            let are = merged.are in
            let same : long.content ≡ are.merged = one g c d long.content are.merged long.merged (merge_here are) in
            let above : most_bytes 2 < length (text_of are.merged) = subst (λ (x : Content). most_bytes 2 < length (text_of x)) same long.long in
            let below = merge_short are in
            omega (arith, above, below)

        abbrev are_merged : (a : Answer) → IsMergeAnswer g c d a → AreMerged s t f f'
        are_merged a its = record {
          g = g;
          first = c;
          second = d;
          merged = its.content;
          problem = is;
          first_decoded = first.0;
          second_decoded = second.0;
          first_balanced = first.1;
          second_balanced = second.1;
          is_merge = its.merged;
          merged_decoded = record {
            text = (its.merged.form, refl);
            within = subst (λ v. length (text_of its.content) ≤ most_bytes v) (sym its.merged.version)
                (subst (λ l. length l ≤ most_bytes 2) its.text its.short);
          };
        }

  module _ {S : Type 0} (held_of : S → List ℕ → Told) (writes : S → ℕ) (old new : S) (m : Merging)
      (also : held_of old m.first ≡ Holds f) (also' : held_of old m.second ≡ Holds f') where
    -- the merged certificate was written
    record HasMerged (e : Ending) : Type 0 where
      pub g : Ground
      pub is : problem_of s t ≡ Ok g
      pub pair : Pair
      pub first : IsDecoded f pair.first × IsBalancedFor g pair.first
      pub second : IsDecoded f' pair.second × IsBalancedFor g pair.second
      pub wrote : IsWritten held_of writes old new m.into (IsMergeAnswer g pair.first pair.second) e

    -- it was, or the run was stopped, as it was said
    abbrev Outcome : Ending → Type 0
    Outcome e = HasMerged e ⊎ (ByMerge e × (ending_status e ≢ 0))

    module _ (g : Ground) (is : problem_of s t ≡ Ok g) where
      written_outcome : (p : Pair) → IsDecoded f p.first × IsBalancedFor g p.first → IsDecoded f' p.second × IsBalancedFor g p.second
          → (e : Ending) → AnswersPair held_of writes old new m g (Ok p) e → HasVerdict (ending_status e) → Outcome e
      written_outcome p first second e (inl wrote) verdict =
          inl (record { g = g; is = is; pair = p; first = first; second = second; wrote = wrote })
      written_outcome p first second e (inr (inl (stop, above, says))) verdict =
          let eight = limit_status g p.first p.second stop above in
          let limit : Outcome (Err stop) = inr (
            (
              no (status_of stop) 0 (IsMerged s t f f') (λ e. omega (arith, e, eight)) (above_unmerged g is p.first first p.second second stop above),
              no (status_of stop) 7 (IsUnmerged s t f f') (λ e. omega (arith, e, eight)) (not_unmerged g is p.first first p.second second),
            ),
            λ e. omega (arith, e, eight),
          ) in
          subst Outcome says limit
      written_outcome p first second e (inr (inr (says, rose))) verdict = absurd (verdict.no_write_fault (sym (ap ending_status says)))

      -- what stops the run at the second
      second_outcome : (c : Content) → IsDecoded f c × IsBalancedFor g c → (stop : Stop) → IsSoOf law f' g (Err stop)
          → HasVerdict (status_of (second_stop stop)) → Outcome (Err (second_stop stop))
      second_outcome c first (NotAccepted code row) so verdict = inr (second_none g is c first so, λ e. omega (arith, e))
      second_outcome c first (SecondNotAccepted code row) so verdict = inr (second_none g is c first so, λ e. omega (arith, e))
      second_outcome c first NoMemory so verdict = absurd (verdict.enough_memory refl)
      second_outcome c first (Refused code file line) so verdict = absurd so
      second_outcome c first (Limit code most) so verdict = absurd so
      second_outcome c first BadWords so verdict = absurd so
      second_outcome c first ReadFailed so verdict = absurd so
      second_outcome c first WriteFailed so verdict = absurd so

      behind_outcome : (c : Content) → IsDecoded f c × IsBalancedFor g c → (second : Result Content Stop) → IsJudged g (held_of old m.second) second
          → (r : Result Pair Stop) → paired c second ≡ r → (e : Ending) → AnswersPair held_of writes old new m g r e
          → HasVerdict (ending_status e) → Outcome e
      behind_outcome c first (Ok d) judged r is_r e answers verdict =
          written_outcome (pair c d) first (judged_so law f' g balance (held_of old m.second) also' (Ok d) judged) e
          (subst (λ (x : Result Pair Stop). AnswersPair held_of writes old new m g x e) (sym is_r) answers) verdict
      behind_outcome c first (Err stop) judged r is_r e answers verdict =
          let says : Err (second_stop stop) ≡ e
          = subst (λ (x : Result Pair Stop). AnswersPair held_of writes old new m g x e) (sym is_r) answers in
          subst Outcome says
          (second_outcome c first stop (judged_so law f' g balance (held_of old m.second) also' (Err stop) judged)
          (subst (λ e. HasVerdict (ending_status e)) (sym says) verdict))

      -- and at the first
      first_outcome : (stop : Stop) → IsSoOf law f g (Err stop) → HasVerdict (status_of stop) → Outcome (Err stop)
      first_outcome (NotAccepted code row) so verdict = inr (first_none g is so, λ e. omega (arith, e))
      first_outcome (SecondNotAccepted code row) so verdict = inr (first_none g is so, λ e. omega (arith, e))
      first_outcome NoMemory so verdict = absurd (verdict.enough_memory refl)
      first_outcome (Refused code file line) so verdict = absurd so
      first_outcome (Limit code most) so verdict = absurd so
      first_outcome BadWords so verdict = absurd so
      first_outcome ReadFailed so verdict = absurd so
      first_outcome WriteFailed so verdict = absurd so

      pair_outcome : (first : Result Content Stop) → IsJudged g (held_of old m.first) first
          → (r : Result Pair Stop) → IsPairBehind g (held_of old m.first) (held_of old m.second) first r
          → (e : Ending) → AnswersPair held_of writes old new m g r e → HasVerdict (ending_status e) → Outcome e
      pair_outcome (Ok c) judged r (second, judged', is_r) e answers verdict =
          behind_outcome c (judged_so law f g balance (held_of old m.first) also (Ok c) judged) second judged' r is_r e answers verdict
      pair_outcome (Err stop) judged r is_r e answers verdict =
          let says : Err stop ≡ e = subst (λ (x : Result Pair Stop). AnswersPair held_of writes old new m g x e) (sym is_r) answers in
          subst Outcome says
          (first_outcome stop (judged_so law f g balance (held_of old m.first) also (Err stop) judged)
          (subst (λ e. HasVerdict (ending_status e)) (sym says) verdict))

    outcome : (r : Result Ground Stop) → problem_of s t ≡ r → (e : Ending) → AnswersMerge held_of writes old new m r e
        → HasVerdict (ending_status e) → Outcome e
    outcome (Ok g) is e (r, (first, judged, behind), answers) verdict = pair_outcome g is first judged r behind e answers verdict
    outcome (Err stop) is e says verdict =
        let not_so = stop_is_not_zero held told stops s t texts stop (stops s t stop is) in
        let stopped : Outcome (Err stop) = inr (
          (
            no (status_of stop) 0 (IsMerged s t f f') not_so.0 (λ merged. cc (is, merged.are.problem)),
            no (status_of stop) 7 (IsUnmerged s t f f') not_so.1 (λ unmerged. elim unmerged [
              | inl rejected ↦ cc (is, rejected.1)
              | inr (accepted, rejected) ↦ cc (is, rejected.1)
            ]),
          ),
          not_so.0,
        ) in
        subst Outcome says stopped

    merged_so : (e : Ending) → HasMerged e → ByMerge e
    merged_so e has =
        let a = has.wrote.answer in
        let its = has.wrote.is_answer in
        let done : ByMerge (Ok (said_by true a.report)) = (
          yes 0 (IsMerged s t f f')
              (record { are = are_merged has.g has.is has.pair.first has.first has.pair.second has.second a its; few = its.few }),
          no 0 7 (IsUnmerged s t f f') (λ e. omega (arith, e)) (not_unmerged has.g has.is has.pair.first has.first has.pair.second has.second),
        ) in
        subst ByMerge has.wrote.says (subst (λ b. ByMerge (Ok (said_by b a.report))) (sym its.converged) done)

    by_outcome : (e : Ending) → Outcome e → ByMerge e
    by_outcome e (inl has) = merged_so e has
    by_outcome e (inr stopped) = stopped.0

    has_outcome : (e : Ending) → Outcome e → ending_status e ≡ 0 → HasMerged e
    has_outcome e (inl has) zero = has
    has_outcome e (inr stopped) zero = absurd (stopped.1 zero)

-- ---- the clauses of the top call

module _ {S : Type 0} {held : S → List ℕ → Told} {reads writes : S → ℕ} {words : List (Bor (List ℕ))} {old new : S} {from to : Input}
    {status : ℕ} {text : List ℕ} (ends : MayEndAs held reads writes words old new from to status text)
    (told : OneProblemIsTold) (stops : TextsStopSo) (law : TextsAreRead) (balance : AcceptedIsBalanced) (one : MergeIsOne)
    (m : Merging) (t : Texts) (f f' : List ℕ) (tells : TellsMerge words (held old) m t f f') where
  merge_outcome : HasVerdict status
      → Outcome (held old) told stops m.sources t tells.texts law balance one f f' held writes old new m tells.first tells.second ends.ending
  merge_outcome verdict =
      let answers = (answers_of ends (to_merge m) tells.asks (λ none. none) verdict).1 in
      outcome (held old) told stops m.sources t tells.texts law balance one f f' held writes old new m tells.first tells.second answers.0
      (told (held old) m.sources t tells.texts answers.0 answers.1) ends.ending answers.2 (verdict_of ends verdict)

  merge_verdict : HasVerdict status → ByMerge (held old) told stops m.sources t tells.texts law balance one f f' ends.ending
  merge_verdict verdict =
      by_outcome (held old) told stops m.sources t tells.texts law balance one f f' held writes old new m tells.first tells.second ends.ending
      (merge_outcome verdict)

  pub merged_exactly : HasVerdict status → (status ≡ 0) ↔ IsMerged m.sources t f f'
  merged_exactly verdict = exactly ends 0 (IsMerged m.sources t f f') (merge_verdict verdict).0

  pub unmerged_exactly : HasVerdict status → (status ≡ 7) ↔ IsUnmerged m.sources t f f'
  unmerged_exactly verdict = exactly ends 7 (IsUnmerged m.sources t f f') (merge_verdict verdict).1

  -- the certificate that was written, the report that was put, and what the certificate says of the task
  pub merge_put : ProblemStands → AreTerms m.sources → NamesAreCarried → BalanceIsCarried → TaskIsEnclosed → TaskPolicyEnds
      → ((task : Task) → WellFormedSums task) → (before now : Option (List ℕ)) → status ≡ 0 → Appends before now text
      → PutsMerged m.sources t f f' (held new m.into) before now
  merge_put stands terms names carried enclosed ending sums before now zero put =
      let verdict = zero_is_a_verdict ends zero in
      let has = has_outcome (held old) told stops m.sources t tells.texts law balance one f f' held writes old new m tells.first tells.second
      ends.ending (merge_outcome verdict) (sym ends.status_is ∙ zero) in
      let a = has.wrote.answer in
      let its = has.wrote.is_answer in
      let c = its.content in
      let are = are_merged (held old) told stops m.sources t tells.texts law balance one f f' has.g has.is has.pair.first has.first
      has.pair.second has.second a its in
      let of_task = stands m.sources t has.g terms has.is in
      let says : text ≡ merged_text c
      = (answers_of ends (to_merge m) tells.asks (λ none. none) verdict).0 ∙ sym (ap ending_text has.wrote.says)
      ∙ said_text a.converged a.report ∙ its.report in
      record {
        are = are;
        holds = has.wrote.holds ∙ told_written (held old m.into) a.certificate tells.into ∙ ap Holds its.text;
        accepted = (has.g, c, has.is, are.merged_decoded, its.merged.balanced);
        put = subst (Appends before now) says put;
        in_first = its.merged.in_first;
        in_second = its.merged.in_second;
        of_task = of_task;
        balanced = names_balanced names has.g of_task.task of_task.charges of_task.stands c its.merged.balanced carried;
        encloses = names_enclose names has.g of_task.task of_task.charges of_task.stands c its.merged.balanced enclosed;
        ends = names_end names has.g of_task.task of_task.charges of_task.stands c its.merged.balanced ending (sums of_task.task of_task.well_formed);
      }
