-- What two rows say together is what the row says that is made of them.
use Rattle.std.proofs.Common.{◌≡◌, ℕ, true, false, cond, Bool, Some, refl, sym, subst, ◌∙◌}
use Rattle.std.specs.Prelude.{length, max, min, nat_le}
use Rattle.std.specs.List.{slice_get}
use Rattle.certificate.specs.declared.act.Act.{Act}
use Rattle.certificate.specs.declared.act.Act.TheVariants as acts
use Rattle.certificate.specs.declared.named.NamedRow.{NamedRow}
use Rattle.certificate.specs.Rows.{Row}
use Rattle.certificate.specs.Content.{Content, IsCertificate, IsAct, named_act, named_rows}
use Rattle.cert_merge.specs.declared.claim.Claim.{Claim}
use Rattle.cert_merge.specs.declared.origin.Origin.TheVariants.{First, Second, Both}
use Rattle.cert_merge.specs.Tables.{from_first, from_second, named_joint, IsJoint}
use Rattle.cert_merge.specs.Claims.{untold_claim, first_claim, second_claim, meet_claims, IsClaimOf}
use Rattle.cert_merge.specs.Pairs.{untold, meet, row_in}
use Rattle.cert_merge.proofs.NextRow.{named_at, row_form}

module _ (c d : Content) where
  -- a claim says what a row of names says
  record Says (claim : Claim) (r : NamedRow) : Type 0 where
    lower : claim.lower ≡ r.lower
    upper : claim.upper ≡ r.upper
    act : named_joint c d claim.act ≡ r.act
    joint : IsJoint c d claim.act

  named_first : (act : Act) → named_joint c d (from_first act) ≡ named_act c.acts act
  named_first acts.GiveUp = refl
  named_first acts.Goal = refl
  named_first (acts.Do n) = refl

  named_second : (act : Act) → named_joint c d (from_second act) ≡ named_act d.acts act
  named_second acts.GiveUp = refl
  named_second acts.Goal = refl
  named_second (acts.Do n) = refl

  joint_first : (act : Act) → IsAct (length c.acts) act → IsJoint c d (from_first act)
  joint_first acts.GiveUp is = tt
  joint_first acts.Goal is = tt
  joint_first (acts.Do n) is = is

  joint_second : (act : Act) → IsAct (length d.acts) act → IsJoint c d (from_second act)
  joint_second acts.GiveUp is = tt
  joint_second acts.Goal is = tt
  joint_second (acts.Do n) is = is

  meets : (a b : Claim) (r s : NamedRow) → Says a r → Says b s → Says (meet_claims a b) (meet r s)
  meets a b r s first second = record {
    lower = λ k. max (first.lower k) (second.lower k);
    upper = λ k. min (first.upper k) (second.upper k);
    act = chosen (nat_le a.upper b.upper)
        ∙ (λ k. cond (nat_le (first.upper k) (second.upper k)) (first.act k) (second.act k));
    joint = either (nat_le a.upper b.upper);
  }
    where
      chosen : (t : Bool) → named_joint c d (cond t a.act b.act) ≡ cond t (named_joint c d a.act) (named_joint c d b.act)
      chosen true = refl
      chosen false = refl

      either : (t : Bool) → IsJoint c d (cond t a.act b.act)
      either true = first.joint
      either false = second.joint

  says_first : IsCertificate c → (i : ℕ) (r : Row) → slice_get c.rows i ≡ Some r → Says (first_claim r) (row_in (named_rows c) i)
  says_first is i r at =
      subst (Says (first_claim r)) (sym (named_at c i r at))
      (record { lower = refl; upper = refl; act = named_first r.act; joint = joint_first r.act (row_form c is i r at).act })

  says_second : IsCertificate d → (j : ℕ) (s : Row) → slice_get d.rows j ≡ Some s → Says (second_claim s) (row_in (named_rows d) j)
  says_second is j s at =
      subst (Says (second_claim s)) (sym (named_at d j s at))
      (record { lower = refl; upper = refl; act = named_second s.act; joint = joint_second s.act (row_form d is j s at).act })

  says_untold : (r : NamedRow) → Says (untold_claim c.penalty) (untold c.penalty r.atoms)
  says_untold r = record { lower = refl; upper = refl; act = refl; joint = tt }

  pub first_alone_claims : IsCertificate c → (i : ℕ) (r : Row) → slice_get c.rows i ≡ Some r
      → IsClaimOf c d (First i) (meet_claims (first_claim r) (untold_claim c.penalty))
  first_alone_claims is i r at =
      let row = row_in (named_rows c) i in
      let says = meets (first_claim r) (untold_claim c.penalty) row (untold c.penalty row.atoms) (says_first is i r at) (says_untold row) in
      record { lower = says.lower; upper = says.upper; act = says.act; joint = says.joint }

  pub second_alone_claims : IsCertificate d → (j : ℕ) (s : Row) → slice_get d.rows j ≡ Some s
      → IsClaimOf c d (Second j) (meet_claims (untold_claim c.penalty) (second_claim s))
  second_alone_claims is j s at =
      let row = row_in (named_rows d) j in
      let says = meets (untold_claim c.penalty) (second_claim s) (untold c.penalty row.atoms) row (says_untold row) (says_second is j s at) in
      record { lower = says.lower; upper = says.upper; act = says.act; joint = says.joint }

  pub both_claim : IsCertificate c → IsCertificate d → (i j : ℕ) (r s : Row) → slice_get c.rows i ≡ Some r → slice_get d.rows j ≡ Some s
      → IsClaimOf c d (Both i j) (meet_claims (first_claim r) (second_claim s))
  both_claim is is' i j r s at at' =
      let says = meets (first_claim r) (second_claim s) (row_in (named_rows c) i) (row_in (named_rows d) j) (says_first is i r at) (says_second is' j s at') in
      record { lower = says.lower; upper = says.upper; act = says.act; joint = says.joint }
