-- What is told from below, by a rule that is asked, by the rows and by the certificate.
use Rattle.std.proofs.Common.{◌≡◌, ◌++◌, ◌∙◌, List, Option, Some, None, sym}
use Rattle.std.specs.Prelude.{ℕ}
use Rattle.decision_process.specs.under.Under.{under_mean}
use Rattle.ground_model.specs.Packed.{State}
use Rattle.ground_model.specs.Ground.{Ground}
use Rattle.ground_model.specs.Steps.{ground_starts}
use Rattle.bound_core.specs.declared.image.ImageRow.{ImageRow}
use Rattle.bound_core.specs.ends.Closing.{closing_rows}
use Rattle.certificate.specs.Content.{Content}
use Rattle.certificate_check.specs.Claims.{ground_certificate}
use Rattle.lower_seed.specs.Means.{AnswersOnly, IsUnderMean}
use Rattle.plan_report.specs.certificates.Certificates.{IsCertificateOf}
use Rattle.plan_request.specs.declared.effort.Effort.{Effort}
use Rattle.plan_request.specs.declared.sizes.Sizes.{Sizes}
use Rattle.plan_request.specs.declared.lower.Lower.{Lower}
use Rattle.plan_search.specs.declared.answer.Answer.{Answer}
use Rattle.plan_search.specs.declared.solver.closing.Closing.{Closing}
use Rattle.plan_search.specs.Solving.{IsAnswerLeft}
use Rattle.plan_search.specs.Under.{IsKnown, IsUnderBy, IsTold, under_lines, with_report, IsAnswerWith}

-- where a rule answers what is known of each state and nothing else
pub by_rule : (lower : Lower) (g : Ground) (rows : List ImageRow) (answers : State → ℕ → Type 0) (l : ℕ) → IsUnderMean answers g rows l
    → (value : State → ℕ) → ((s : State) → IsKnown lower g s (value s)) → AnswersOnly answers g value → IsUnderBy lower g (closing_rows rows) l
by_rule lower g rows answers l is value known only = record { value = value; known = known; mean = is.determined value only }

told_by_certificate : (g : Ground) (rows : List ImageRow) (c : Content) → IsCertificateOf g rows c → (lower : Lower) (told : Option ℕ)
    → IsTold lower g (closing_rows rows) told → IsTold lower g (ground_certificate g c).rows told
told_by_certificate g rows c is lower None told = told
told_by_certificate g rows c is lower (Some l) told = record {
  value = told.value;
  known = told.known;
  mean = told.mean ∙ (λ j. under_mean (λ s. sym (is.readings s).low_same j) told.value (ground_starts g) g.start_den);
}

pub answer_below : (g : Ground) (effort : Effort) (sizes : Sizes) (lower : Lower) (left : Closing) (a : Answer) → IsAnswerLeft g effort sizes left a
    → (told : Option ℕ) → IsTold lower g (closing_rows left.image.rows) told
    → (report : List ℕ) → report ≡ a.report ++ under_lines told → IsAnswerWith g effort sizes lower (with_report a report)
answer_below g effort sizes lower left a is told is_told report report_is = record {
  plain = a.report;
  is_answer = is.is_answer;
  told = told;
  is_told = told_by_certificate g left.image.rows is.is_answer.content is.certified lower told is_told;
  behind = report_is;
}
