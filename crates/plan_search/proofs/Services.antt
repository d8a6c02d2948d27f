-- How a search ends behind a server, from what the solver left.
use Rattle.std.proofs.Common.{◌≡◌, ◌⊎◌, inl, inr, List, [], ◌∷◌, None, Result, Ok, Err, ◌≤◌, sym, ap, subst}
use Rattle.std.specs.Prelude.{IfOk, IfErr}
use Rattle.std.specs.List.{AllByRecursion}
use Rattle.bound_core.specs.declared.image.ImageRow.{ImageRow}
use Rattle.plan_search.specs.declared.solver.closing.Closing.{Closing}
use Rattle.certificate.specs.Content.{Content}
use Rattle.certificate_check.specs.Claims.{ground_certificate}
use Rattle.bound_core.specs.ends.Closing.{closing_rows}
use Rattle.plan_report.specs.certificates.Certificates.{IsCertificateOf}
use Rattle.ground_model.specs.Ground.{Ground}
use Rattle.plan_request.specs.declared.effort.Effort.{Effort}
use Rattle.plan_request.specs.declared.sizes.Sizes.{Sizes}
use Rattle.plan_request.specs.declared.stop.Stop.{Stop}
use Rattle.plan_request.specs.declared.stop.Stop.TheVariants.{NoMemory}
use Rattle.policy_server.specs.Replies.{Reply, NoQuery, NoAtom, Unvisited, Found}
use Rattle.policy_server.specs.declared.served.Served.{Served}
use Rattle.plan_search.specs.service.Served.{Streams, IsServed, IsKept}
use Rattle.plan_search.specs.declared.answer.Answer.{Answer}
use Rattle.plan_search.specs.Answers.{IsTooLong}
use Rattle.plan_search.specs.Solving.{solver_sizes, IsAnswerLeft}
use Rattle.plan_search.specs.declared.solver.sizes.Sizes as solver
use Rattle.plan_search.specs.Serving.{stop_of, KeepsEach, AnswersBehind, EndsServing}

module _ (g : Ground) where
  -- what rows say of a state, the certificate of the rows says
  kept_reply : (rows : List ImageRow) (c : Content) → IsCertificateOf g rows c → (r : Reply) → IsKept g (closing_rows rows) r
      → IsKept g (ground_certificate g c).rows r
  kept_reply rows c is NoQuery kept = kept
  kept_reply rows c is NoAtom kept = kept
  kept_reply rows c is (Unvisited s) kept = kept
  kept_reply rows c is (Found s id i) kept = record {
    lower = subst (λ n. i.lower ≤ n) (sym (is.readings s).low_same) kept.lower;
    upper = subst (λ n. n ≤ i.upper) (sym (is.readings s).high_same) kept.upper;
  }

  kept_each : (rows : List ImageRow) (c : Content) → IsCertificateOf g rows c → (replies : List Reply)
      → AllByRecursion (IsKept g (closing_rows rows)) replies → KeepsEach g c replies
  kept_each rows c is [] kept = kept
  kept_each rows c is (r ∷ rs) kept = (kept_reply rows c is r kept.0, kept_each rows c is rs kept.1)

  module _ (effort : Effort) (sizes : Sizes) where
    module _ (left : Closing) (replies : List Reply) (kept : AllByRecursion (IsKept g (closing_rows left.image.rows)) replies) where
      answers : (r : Result Answer Stop) → IfOk r (IsAnswerLeft g effort sizes left)
          → IfErr r (λ stop. (stop ≡ NoMemory) ⊎ IsTooLong g effort sizes stop)
          → (r ≡ Err NoMemory) ⊎ AnswersBehind g effort sizes None replies r
      answers (Ok a) is stops = inr (record {
        is_answer = is.is_answer;
        kept = kept_each left.image.rows is.is_answer.content is.certified replies kept;
      })
      answers (Err e) is stops = elim stops [
        | inl none ↦ inl (ap Err none)
        | inr long ↦ inr long
      ]

    module _ (old new : Streams) (left : Closing) (served : Served) (table : solver.Sizes) (is_table : table ≡ solver_sizes sizes)
        (by_table : IsServed g table.sweep_states (closing_rows left.image.rows) old new served) where
      by : IsServed g sizes.sweep_states (closing_rows left.image.rows) old new served
      by = subst (λ (z : solver.Sizes). IsServed g z.sweep_states (closing_rows left.image.rows) old new served) is_table by_table

      -- behind a server that no fault stopped
      pub ends_answering : stop_of served.end ≡ None → (r : Result Answer Stop) → IfOk r (IsAnswerLeft g effort sizes left)
          → IfErr r (λ stop. (stop ≡ NoMemory) ⊎ IsTooLong g effort sizes stop) → EndsServing g effort sizes old new r
      ends_answering whole r is stops = record {
        served = served;
        replies = by.replies;
        has = by.has;
        ends = subst (λ stop. (r ≡ Err NoMemory) ⊎ AnswersBehind g effort sizes stop by.replies r) (sym whole)
            (answers left by.replies by.kept r is stops);
      }
