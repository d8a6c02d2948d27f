-- Replies by what was found.
use Rattle.std.proofs.Common.{◌≡◌, ◌↔◌, ◌⊎◌, ℕ, ◌+◌, ◌≤◌, ◌<◌, Bool, refl, sym, ap, subst, inl, inr, length, List}
use Rattle.std.specs.Prelude.{IsTrue, Ok, Err}
use Rattle.plain_list.specs.declared.Bytes.{Bytes}
use Rattle.ground_model.specs.Ground.{Ground}
use Rattle.certificate.specs.Content.{Content, IsCertificate, text_of, most_bytes}
use Rattle.certificate.specs.Answers.{Writes}
use Rattle.certificate.specs.declared.refusal.WriteRefusal.TheVariants as unwritten
use Rattle.certificate_check.specs.Claims.{ground_certificate}
use Rattle.plan_search.specs.declared.solver.closing.Closing.{Closing}
use Rattle.bound_core.specs.ends.Closing.{closing_rows}
use Rattle.plan_report.specs.certificates.Certificates.{IsCertificateOf}
use Rattle.plan_request.specs.declared.effort.Effort.{Effort}
use Rattle.plan_request.specs.declared.sizes.Sizes.{Sizes}
use Rattle.plan_report.specs.Solved.{solve_text}
use Rattle.plan_report.specs.Laws.{ReportsAgree}
use Rattle.plan_request.specs.declared.stop.Stop.{Stop}
use Rattle.plan_request.specs.declared.stop.Stop.TheVariants.{NoMemory, Limit}
use Rattle.plan_search.specs.declared.found.Found.{Found}
use Rattle.plan_search.specs.Found.{IsFound}
use Rattle.plan_search.specs.Answers.{IsReport, IsAnswerOf, IsMeasuredOf, IsTooLong}
use Rattle.plan_search.specs.Solving.{told_of, IsFoundBy, IsAnswerLeft, IsUnwritten}
use Rattle.plan_search.proofs.Findings.{found_is}

module _ (c : Content) (version : c.version ≡ 2) where
  pub written : (text : Bytes) → Writes (most_bytes c.version) (text_of c) (Ok text) → (text ≡ text_of c) × (length text ≤ most_bytes 2)
  written text is = (is.0, subst (λ (t : List ℕ). length t ≤ most_bytes 2) (sym is.0) (subst (λ v. length (text_of c) ≤ most_bytes v) version is.1))

  pub too_long : Writes (most_bytes c.version) (text_of c) (Err unwritten.TooLong) → IsUnwritten c (Limit 33 268435456)
  too_long is = inr (subst (λ v. most_bytes v < length (text_of c)) version is, refl)

module _ (g : Ground) (effort : Effort) (sizes : Sizes) (f : Found) (by : IsFoundBy g effort sizes f) where
  -- the report by the rows is the report by the certificate
  pub one_report : ReportsAgree → solve_text g (closing_rows f.closing.image.rows) (told_of g effort sizes f.closing)
      ≡ solve_text g (ground_certificate g f.certificate).rows (told_of g effort sizes f.closing)
  one_report agree =
      sym (agree g (ground_certificate g f.certificate).rows (closing_rows f.closing.image.rows) (λ x _.
      let alike = by.certified.readings x.state in
      record { low_same = alike.low_same; high_same = alike.high_same; act_same = alike.act_same })
      (told_of g effort sizes f.closing))

  module _ (is : IsCertificate f.certificate) where
    found : IsFound g effort sizes f.certificate (told_of g effort sizes f.closing)
    found = found_is g effort sizes f.closing f.certificate by.solved by.certified is

    module _ (report : List ℕ) (converged : Bool)
        (text : report ≡ solve_text g (ground_certificate g f.certificate).rows (told_of g effort sizes f.closing))
        (within : IsTrue converged ↔ (f.certificate.upper ≤ f.certificate.lower + effort.gap)) where
      reported : IsReport g f.certificate (told_of g effort sizes f.closing) report converged
      reported = record { text = text; converged_is = (λ on. found.converged.1 (within.0 on), λ e. within.1 (found.converged.0 e)) }

      answered : (certificate : List ℕ) → certificate ≡ text_of f.certificate → length certificate ≤ most_bytes 2
          → IsAnswerOf g effort sizes (record { certificate = certificate; report = report; converged = converged })
      answered certificate is_text short = record {
        content = f.certificate;
        solved = told_of g effort sizes f.closing;
        found = found;
        text = is_text;
        short = short;
        report = reported;
      }

      -- what a solver left is behind the answer
      pub answered_by : (left : Closing) → f.closing ≡ left → (certificate : List ℕ) → certificate ≡ text_of f.certificate
          → length certificate ≤ most_bytes 2
          → IsAnswerLeft g effort sizes left (record { certificate = certificate; report = report; converged = converged })
      unfolding answered
      answered_by left is_left certificate is_text short = record {
        is_answer = answered certificate is_text short;
        certified = subst (λ (l : Closing). IsCertificateOf g l.image.rows f.certificate) is_left by.certified;
        same = ap (told_of g effort sizes) is_left;
      }

      pub measured : IsMeasuredOf g effort sizes (record { report = report; converged = converged })
      measured = record { content = f.certificate; solved = told_of g effort sizes f.closing; found = found; report = reported }

    pub stopped : (stop : Stop) → IsUnwritten f.certificate stop → (stop ≡ NoMemory) ⊎ IsTooLong g effort sizes stop
    stopped stop (inl memory) = inl memory
    stopped stop (inr long) = inr (record {
      content = f.certificate;
      solved = told_of g effort sizes f.closing;
      found = found;
      long = long.0;
      stop_is = long.1;
    })
