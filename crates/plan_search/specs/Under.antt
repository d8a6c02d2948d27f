-- What is told of the cost from below behind the report of a search.
--     IsKnown lower g s v        v is what is known of the state by what is asked for: by the least cost of a choice, or its greatest
--                                relaxed cost
--     KnownIsUnder               what is known of a state so is known from below of it
--     IsUnderBy lower g rows l   l is the mean over the starts, rounded down, of the greater of what the rows say from below and of what
--                                is known so
--     IsTold lower g rows told   this is told, if anything is asked for
--     under_lines told           its line
--     with_report a report       the answer with another report
--     IsAnswerWith g effort sizes lower a
--                                without the line behind its report, this is an answer of a search; the line says what the certificate
--                                and what is asked for do
-- Source: admissible heuristics (Hart, Nilsson and Raphael 1968).
use Rattle.std.specs.Prelude.{◌≡◌, ℕ, List, [], ◌++◌, Option, Some, None}
use Rattle.decision_process.specs.Readings.{Row, low}
use Rattle.decision_process.specs.under.Under.{IsUnder, under_mean}
use Rattle.ground_model.specs.Packed.{State, same_state}
use Rattle.ground_model.specs.Ground.{Ground}
use Rattle.ground_model.specs.Invariant.{IsGroundProblem}
use Rattle.ground_model.specs.Steps.{ground_process, ground_starts}
use Rattle.lower_seed.specs.Costs.{cost_value}
use Rattle.relaxed_seed.specs.Potential.{IsRelaxed}
use Rattle.certificate_check.specs.Claims.{ground_certificate}
use Rattle.plan_request.specs.declared.effort.Effort.{Effort}
use Rattle.plan_request.specs.declared.sizes.Sizes.{Sizes}
use Rattle.plan_request.specs.declared.lower.Lower.{Lower}
use Rattle.plan_request.specs.declared.lower.Lower.TheVariants as lowers
use Rattle.plan_report.specs.Reports.{under_line}
use Rattle.plan_search.specs.declared.answer.Answer.{Answer}
use Rattle.plan_search.specs.Answers.{IsAnswerOf}

-- nothing is known where nothing is asked for
abbrev pub IsKnown : Lower → Ground → State → ℕ → Type 0
IsKnown lowers.None g s v = ⊥
IsKnown lowers.Cost g s v = v ≡ cost_value g s
IsKnown lowers.Relaxed g s v = IsRelaxed g s v

abbrev pub KnownIsUnder : Type 0
KnownIsUnder = (lower : Lower) (g : Ground) → IsGroundProblem g
    → (s : State) (v : ℕ) → IsKnown lower g s v → IsUnder (ground_process g) v s

pub record IsUnderBy (lower : Lower) (g : Ground) (rows : List (Row State ℕ)) (l : ℕ) : Type 0 where
  pub value : State → ℕ
  pub known : (s : State) → IsKnown lower g s (value s)
  pub mean : l ≡ under_mean (low same_state rows) value (ground_starts g) g.start_den

abbrev pub IsTold : Lower → Ground → List (Row State ℕ) → Option ℕ → Type 0
IsTold lower g rows None = lower ≡ lowers.None
IsTold lower g rows (Some l) = IsUnderBy lower g rows l

abbrev pub under_lines : Option ℕ → List ℕ
under_lines None = []
under_lines (Some l) = under_line l

abbrev pub with_report : Answer → List ℕ → Answer
with_report a report = record { certificate = a.certificate; report = report; converged = a.converged }

pub record IsAnswerWith (g : Ground) (effort : Effort) (sizes : Sizes) (lower : Lower) (a : Answer) : Type 0 where
  pub plain : List ℕ
  pub is_answer : IsAnswerOf g effort sizes (with_report a plain)
  pub told : Option ℕ
  pub is_told : IsTold lower g (ground_certificate g is_answer.content).rows told
  pub behind : a.report ≡ plain ++ under_lines told
