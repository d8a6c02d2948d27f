-- What one of two certificates, or both, say of a state, by their tables of acts.
--     untold_claim penalty      what is known off goals of a state without a row
--     first_claim, second_claim r
--                               what a row of the first says, or of the second
--     meet_claims a b           the greater lower and the smaller upper value, with the act of the smaller
--     IsClaimOf c d o claim     the claim says what the row says that is made of these places
use Rattle.std.specs.Prelude.{◌≡◌, ℕ, max, min, nat_le, cond}
use Rattle.certificate.specs.Rows.{Row}
use Rattle.certificate.specs.Content.{Content}
use Rattle.cert_merge.specs.declared.claim.Claim.{Claim}
use Rattle.cert_merge.specs.declared.joint_act.JointAct.TheVariants.{GiveUp}
use Rattle.cert_merge.specs.declared.origin.Origin.{Origin}
use Rattle.cert_merge.specs.Tables.{from_first, from_second, named_joint, IsJoint}
use Rattle.cert_merge.specs.Pairs.{row_of}

abbrev pub untold_claim : ℕ → Claim
untold_claim penalty = record { lower = 0; upper = penalty; act = GiveUp }

abbrev pub first_claim : Row → Claim
first_claim r = record { lower = r.lower; upper = r.upper; act = from_first r.act }

abbrev pub second_claim : Row → Claim
second_claim r = record { lower = r.lower; upper = r.upper; act = from_second r.act }

abbrev pub meet_claims : Claim → Claim → Claim
meet_claims a b = record {
  lower = max a.lower b.lower;
  upper = min a.upper b.upper;
  act = cond (nat_le a.upper b.upper) a.act b.act;
}

pub record IsClaimOf (c d : Content) (o : Origin) (claim : Claim) : Type 0 where
  pub lower : claim.lower ≡ (row_of c d o).lower
  pub upper : claim.upper ≡ (row_of c d o).upper
  pub act : named_joint c d claim.act ≡ (row_of c d o).act
  pub joint : IsJoint c d claim.act
