-- Which values the tests of a certificate allow, as statements.
--     LowerIsUpTo            the lower value of a row follows exactly where it is at most the greatest that does
--     UpperIsFrom            the upper value of a row whose act is right follows exactly where it is at least the least that does, and
--                            at a goal is this
--     LowerFailsAbove        a row fails for its lower value exactly where the problem has its atoms, its act is right, and the value is
--                            above the greatest that follows
--     UpperFailsWithout      a row fails for its upper value exactly where the problem has its atoms, its act is right, its lower value
--                            is at most the greatest that follows, and the upper value is not within
--     EndsAreMeans           the interval is that of the starts exactly where its ends are their means
use Rattle.std.specs.Prelude.{◌≡◌, ◌↔◌, ℕ, ◌<◌, ◌≤◌}
use Rattle.certificate.specs.Rows.{Row}
use Rattle.certificate.specs.Content.{Content}
use Rattle.ground_model.specs.Ground.{Ground}
use Rattle.ground_model.specs.Invariant.{IsGroundProblem}
use Rattle.ground_model.specs.Steps.{ground_process}
use Rattle.certificate_check.specs.declared.verdict.Verdict.{Verdict}
use Rattle.certificate_check.specs.declared.verdict.Verdict.TheVariants.{Lower, Upper}
use Rattle.certificate_check.specs.row_check.Sides.{UpperIsWithin}
use Rattle.certificate_check.specs.Claims.{row_state, low_in, high_in}
use Rattle.certificate_check.specs.Sides.{greatest_lower, least_upper, lower_mean, upper_mean}
use Rattle.certificate_check.specs.Verdicts as verdicts
use Rattle.certificate_check.specs.Verdicts.{IsKnown}

module _ (g : Ground) (c : Content) where
  abbrev pub ActIsRight : Row → Type 0
  ActIsRight r = verdicts.ActIsRight g c (low_in g c) (high_in g c) r

  abbrev pub LowerFollows : Row → Type 0
  LowerFollows r = verdicts.LowerFollows g c (low_in g c) (high_in g c) r

  abbrev pub UpperFollows : Row → Type 0
  UpperFollows r = verdicts.UpperFollows g c (low_in g c) (high_in g c) r

  abbrev pub UpperIsIn : Row → Type 0
  UpperIsIn r = UpperIsWithin (ground_process g) (row_state g c r) (least_upper g c r) r.upper

  abbrev pub FailsBy : Row → ℕ → Verdict → Type 0
  FailsBy r k v = verdicts.Fails g c (low_in g c) (high_in g c) r k v

abbrev pub LowerIsUpTo : Type 0
LowerIsUpTo = (g : Ground) → IsGroundProblem g → (c : Content) (r : Row)
    → LowerFollows g c r ↔ (r.lower ≤ greatest_lower g c r)

abbrev pub UpperIsFrom : Type 0
UpperIsFrom = (g : Ground) → IsGroundProblem g → (c : Content) (r : Row) → ActIsRight g c r
    → UpperFollows g c r ↔ UpperIsIn g c r

abbrev pub LowerFailsAbove : Type 0
LowerFailsAbove = (g : Ground) → IsGroundProblem g → (c : Content) (r : Row) (k : ℕ)
    → FailsBy g c r k (Lower k)
    ↔ (IsKnown g c (low_in g c) (high_in g c) r × ActIsRight g c r × (greatest_lower g c r < r.lower))

abbrev pub UpperFailsWithout : Type 0
UpperFailsWithout = (g : Ground) → IsGroundProblem g → (c : Content) (r : Row) (k : ℕ)
    → FailsBy g c r k (Upper k)
    ↔ (IsKnown g c (low_in g c) (high_in g c) r × ActIsRight g c r
    × (r.lower ≤ greatest_lower g c r) × (UpperIsIn g c r → ⊥))

abbrev pub EndsAreMeans : Type 0
EndsAreMeans = (g : Ground) (c : Content) → verdicts.IsIntervalOf g c (low_in g c) (high_in g c)
    ↔ ((c.lower ≡ lower_mean g c) × (c.upper ≡ upper_mean g c))
