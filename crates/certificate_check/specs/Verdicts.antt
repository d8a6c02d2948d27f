-- The verdict on a certificate: the first condition that fails.
--     ActIsRight, LowerFollows, UpperFollows g c low high r
--                              the act of a row, its lower and its upper value are right, by readings of all states
--     verdict_of k fault       what a fault says of row k
--     IsSound g c low high r   so is all of the row, and the problem has its atoms
--     Fails g c low high r k v what the verdict v on row k says of it, beside that those before are sound
--     IsFirstFailure ..        row k is the first that is not sound, and v says why
--     IsVerdict g c v          the penalty is that of the problem, each row is sound, the interval is that of the starts; or v names
--                              the first of these that fails, in this order
use Rattle.std.specs.Prelude.{◌≡◌, ◌≢◌, ℕ, ◌+◌, ◌<◌, Option, Some, None, IsTrue}
use Rattle.std.specs.List.{slice_get}
use Rattle.certificate.specs.Rows.{Row}
use Rattle.certificate.specs.Content.{Content}
use Rattle.decision_process.specs.Balanced.{IsInterval}
use Rattle.decision_process.specs.Following.{IsLowerFrom}
use Rattle.ground_model.specs.Packed.{State}
use Rattle.ground_model.specs.Ground.{Ground}
use Rattle.ground_model.specs.Steps.{ground_process, ground_starts}
use Rattle.certificate_check.specs.declared.row_check.act.Act.{Act}
use Rattle.certificate_check.specs.declared.row_check.fault.Fault.{Fault}
use Rattle.certificate_check.specs.declared.row_check.fault.Fault.TheVariants as fault
use Rattle.certificate_check.specs.row_check.Faults as faults
use Rattle.certificate_check.specs.row_check.Faults.{IsRight}
use Rattle.certificate_check.specs.declared.verdict.Verdict.{Verdict}
use Rattle.certificate_check.specs.declared.verdict.Verdict.TheVariants as verdict
use Rattle.certificate_check.specs.Claims.{knows, row_state, act_of, low_in, high_in}

abbrev pub verdict_of : ℕ → Fault → Verdict
verdict_of k fault.Act = verdict.Act k
verdict_of k fault.Lower = verdict.Lower k
verdict_of k fault.Upper = verdict.Upper k

module _ (g : Ground) (c : Content) (low high : State → ℕ) where
  abbrev pub IsRightIn : State → Option Act → Type 0
  IsRightIn s None = ⊥
  IsRightIn s (Some act) = IsRight (ground_process g) s act

  abbrev pub UpperFollowsIn : State → ℕ → Option Act → Type 0
  UpperFollowsIn s value None = ⊥
  UpperFollowsIn s value (Some act) = faults.UpperFollows (ground_process g) high s act value

  abbrev pub IsKnown : Row → Type 0
  IsKnown r = IsTrue (knows g c r)

  abbrev pub ActIsRight : Row → Type 0
  ActIsRight r = IsRightIn (row_state g c r) (act_of g c r.act)

  abbrev pub LowerFollows : Row → Type 0
  LowerFollows r = IsLowerFrom (ground_process g) low (row_state g c r) r.lower

  abbrev pub UpperFollows : Row → Type 0
  UpperFollows r = UpperFollowsIn (row_state g c r) r.upper (act_of g c r.act)

  pub record IsSound (r : Row) : Type 0 where
    pub known : IsKnown r
    pub act : ActIsRight r
    pub lower : LowerFollows r
    pub upper : UpperFollows r

  abbrev pub Fails : Row → ℕ → Verdict → Type 0
  Fails r k (verdict.UnknownAtom j) = (j ≡ k) × (IsKnown r → ⊥)
  Fails r k (verdict.Act j) = (j ≡ k) × IsKnown r × (ActIsRight r → ⊥)
  Fails r k (verdict.Lower j) = (j ≡ k) × IsKnown r × ActIsRight r × (LowerFollows r → ⊥)
  Fails r k (verdict.Upper j) = (j ≡ k) × IsKnown r × ActIsRight r × LowerFollows r × (UpperFollows r → ⊥)
  Fails r k verdict.Penalty = ⊥
  Fails r k verdict.Ends = ⊥
  Fails r k verdict.Accepted = ⊥

  -- of row k: that it is sound, or what fails
  abbrev pub IsRowVerdict : Row → ℕ → Option Verdict → Type 0
  IsRowVerdict r k None = IsSound r
  IsRowVerdict r k (Some v) = Fails r k v

  abbrev pub AreSoundBefore : ℕ → Type 0
  AreSoundBefore place = (i : ℕ) (r : Row) → i < place → slice_get c.rows i ≡ Some r → IsSound r

  abbrev pub AreSound : Type 0
  AreSound = (i : ℕ) (r : Row) → slice_get c.rows i ≡ Some r → IsSound r

  pub record IsFirstFailure (v : Verdict) : Type 0 where
    pub place : ℕ
    pub row : Row
    pub at : slice_get c.rows place ≡ Some row
    pub before : AreSoundBefore place
    pub fails : Fails row (place + 1) v

  -- of all rows
  abbrev pub AreRowsVerdict : Option Verdict → Type 0
  AreRowsVerdict None = AreSound
  AreRowsVerdict (Some v) = IsFirstFailure v

  abbrev pub IsIntervalOf : Type 0
  IsIntervalOf = IsInterval low high (ground_starts g) g.start_den c.lower c.upper

  abbrev pub IsVerdictBy : Verdict → Type 0
  IsVerdictBy verdict.Penalty = c.penalty ≢ g.penalty
  IsVerdictBy (verdict.UnknownAtom j) = (c.penalty ≡ g.penalty) × IsFirstFailure (verdict.UnknownAtom j)
  IsVerdictBy (verdict.Act j) = (c.penalty ≡ g.penalty) × IsFirstFailure (verdict.Act j)
  IsVerdictBy (verdict.Lower j) = (c.penalty ≡ g.penalty) × IsFirstFailure (verdict.Lower j)
  IsVerdictBy (verdict.Upper j) = (c.penalty ≡ g.penalty) × IsFirstFailure (verdict.Upper j)
  IsVerdictBy verdict.Ends = (c.penalty ≡ g.penalty) × AreSound × (IsIntervalOf → ⊥)
  IsVerdictBy verdict.Accepted = (c.penalty ≡ g.penalty) × AreSound × IsIntervalOf

abbrev pub IsVerdict : Ground → Content → Verdict → Type 0
IsVerdict g c v = IsVerdictBy g c (low_in g c) (high_in g c) v
