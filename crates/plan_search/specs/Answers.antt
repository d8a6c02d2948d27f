-- What is answered of a search.
--     IsReport g c s report converged
--                                    the report of a search, and whether it converged
--     IsAnswerOf g effort sizes a    a search found this certificate and tells this
--     IsMeasuredOf g effort sizes m  the same where the certificate is not asked for
--     IsTooLong g effort sizes stop  a search found a certificate whose text is above its greatest length
use Rattle.std.specs.Prelude.{◌≡◌, ◌↔◌, ℕ, ◌<◌, ◌≤◌, List, length, Bool, IsTrue}
use Rattle.ground_model.specs.Ground.{Ground}
use Rattle.certificate.specs.Content.{Content, text_of, most_bytes}
use Rattle.certificate_check.specs.Claims.{ground_certificate}
use Rattle.plan_request.specs.declared.effort.Effort.{Effort}
use Rattle.plan_request.specs.declared.sizes.Sizes.{Sizes}
use Rattle.plan_report.specs.declared.ending.Ending.TheVariants.{Converged}
use Rattle.plan_report.specs.Solved.{Solved, solve_text}
use Rattle.plan_request.specs.declared.stop.Stop.{Stop}
use Rattle.plan_request.specs.declared.stop.Stop.TheVariants.{Limit}
use Rattle.plan_search.specs.declared.answer.Answer.{Answer}
use Rattle.plan_search.specs.declared.measured.Measured.{Measured}
use Rattle.plan_search.specs.Found.{IsFound}

pub record IsReport (g : Ground) (c : Content) (s : Solved) (report : List ℕ) (converged : Bool) : Type 0 where
  pub text : report ≡ solve_text g (ground_certificate g c).rows s
  pub converged_is : IsTrue converged ↔ (s.ending ≡ Converged)

pub record IsAnswerOf (g : Ground) (effort : Effort) (sizes : Sizes) (a : Answer) : Type 0 where
  pub content : Content
  pub solved : Solved
  pub found : IsFound g effort sizes content solved
  pub text : a.certificate ≡ text_of content
  pub short : length a.certificate ≤ most_bytes 2
  pub report : IsReport g content solved a.report a.converged

pub record IsMeasuredOf (g : Ground) (effort : Effort) (sizes : Sizes) (m : Measured) : Type 0 where
  pub content : Content
  pub solved : Solved
  pub found : IsFound g effort sizes content solved
  pub report : IsReport g content solved m.report m.converged

pub record IsTooLong (g : Ground) (effort : Effort) (sizes : Sizes) (stop : Stop) : Type 0 where
  pub content : Content
  pub solved : Solved
  pub found : IsFound g effort sizes content solved
  pub long : most_bytes 2 < length (text_of content)
  pub stop_is : stop ≡ Limit 33 268435456
