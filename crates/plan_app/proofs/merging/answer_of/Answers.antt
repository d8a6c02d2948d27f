-- The text of the merged certificate is above its limit.
use Rattle.std.proofs.Common.{◌≡◌, ◌<◌, ◌⊎◌, ◌∙◌, inl, inr, length, sym, ap, subst, Result, Err}
use Rattle.std.specs.Prelude.{IfErr}
use Rattle.std.proofs.lemmas.Result.{err_from_is_err_and}
use Rattle.certificate.specs.Content.{Content, text_of, most_bytes}
use Rattle.ground_model.specs.Ground.{Ground}
use Rattle.cert_merge.specs.Merged.{IsMergeOf}
use Rattle.plan_request.specs.declared.stop.Stop.{Stop}
use Rattle.plan_request.specs.declared.stop.Stop.TheVariants.{NoMemory, Limit}
use Rattle.plan_search.specs.declared.answer.Answer.{Answer}
use Rattle.plan_app.specs.Merging.{IsAboveLimit}
use Rattle.plan_app.proofs.merging.answer_of.Goals as goal

text_stops : (g : Ground) (c d m : Content) → IsMergeOf g c d m → (e : Stop)
    → (e ≡ NoMemory) ⊎ ((e ≡ Limit 33 268435456) × (most_bytes 2 < length (text_of m))) → (e ≡ NoMemory) ⊎ IsAboveLimit g c d e
text_stops g c d m merged e (inl none) = inl none
text_stops g c d m merged e (inr (is, long)) = inr (inr (is, record { content = m; merged = merged; long = long }))

pub returns-in_err-certificate-clause-stops : goal.returns-in_err-certificate-clause-stops
returns-in_err-certificate-clause-stops c =
    let g = c.args.problem.now in let pair = c.args.pair in
    let p = err_from_is_err_and c.from_residual-in_err-certificate.result c.from_residual-in_err-certificate.ensures.1 in
    subst (λ (r : Result Answer Stop). IfErr r (λ stop. (stop ≡ NoMemory) ⊎ IsAboveLimit g pair.first pair.second stop)) (sym (p.1 ∙ ap Err p.2))
    (text_stops g pair.first pair.second c.in_ok-merged.merged c.in_ok-merged.ensures.merged
    c.in_err-certificate.field-0.0 c.in_err-certificate.ensures.stops)
