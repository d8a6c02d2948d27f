-- What stands on the one side of a homomorphism for a plan or a certificate on the other.
--     IsAsGood p plan s q plan' t   plan' fits t in q, is no deeper than plan and costs in t no more than plan in s, whatever the number of
--                                   steps from the depth of plan on
--     IsRowActOf m act act'         both give up, both end at a goal, or the second's action is that for which the first's stands
--     IsRowOf m row row'            the row of a valid state and that of the state for which it stands say the same
--     IsCertificateOf m c c'        so do the certificates, row by row
use Rattle.std.specs.Prelude.{◌≡◌, ℕ, ◌*◌, ◌^◌, ◌≤◌, Some}
use Rattle.std.specs.List.{AllZip}
use Rattle.decision_process.specs.Process.{Process}
use Rattle.decision_process.specs.Plans.{Plan, depth, Fits, cost}
use Rattle.decision_process.specs.Readings.{RowAct, GivesUp, AtGoal, Takes, Row, Certificate}
use Rattle.decision_process.specs.homomorphism.Homomorphism.{Mapping, IsValid}

module _ {S A T B : Type 0} (p : Process S A) (plan : Plan A) (s : S) (q : Process T B) where
  pub record IsAsGood (plan' : Plan B) (t : T) : Type 0 where
    pub fits : Fits q plan' t
    pub no_deeper : depth plan' ≤ depth plan
    pub no_dearer : (n : ℕ) → depth plan ≤ n
        → cost q plan' n t * p.den ^ n ≤ cost p plan n s * q.den ^ n

module _ {S T A B : Type 0} (m : Mapping S T A B) where
  abbrev pub IsRowActOf : RowAct A → RowAct B → Type 0
  IsRowActOf GivesUp GivesUp = Unit {0}
  IsRowActOf AtGoal AtGoal = Unit {0}
  IsRowActOf (Takes a) (Takes b) = m.action a ≡ Some b
  IsRowActOf _ _ = ⊥

  pub record IsRowOf (row : Row S A) (row' : Row T B) : Type 0 where
    pub valid : IsValid m row.state
    pub state : m.state row.state ≡ row'.state
    pub lower : row.lower ≡ row'.lower
    pub upper : row.upper ≡ row'.upper
    pub act : IsRowActOf row.act row'.act

  pub record IsCertificateOf (c : Certificate S A) (c' : Certificate T B) : Type 0 where
    pub penalty : c.penalty ≡ c'.penalty
    pub rows : AllZip IsRowOf c.rows c'.rows
    pub lower : c.lower ≡ c'.lower
    pub upper : c.upper ≡ c'.upper
