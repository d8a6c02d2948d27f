-- The sides of a row in its place, by its state and its act.
use Rattle.std.proofs.Common.{◌≡◌, ℕ, true, false, Option, Some, None, sym, subst, ◌∙◌, true≢false}
use Rattle.std.specs.Prelude.{is_some, unwrap_or}
use Rattle.std.specs.List.{slice_get}
use Rattle.std.proofs.lemmas.Option.{same_Some}
use Rattle.certificate.specs.Rows.{Row}
use Rattle.certificate.specs.Content.{Content}
use Rattle.ground_model.specs.Packed.{State}
use Rattle.ground_model.specs.Ground.{Ground}
use Rattle.ground_model.specs.Steps.{ground_process}
use Rattle.certificate_check.specs.declared.row_check.act.Act.{Act}
use Rattle.certificate_check.specs.declared.row_check.act.Act.TheVariants.{GiveUp}
use Rattle.certificate_check.specs.declared.row_check.sides.Sides.{Sides}
use Rattle.certificate_check.specs.row_check.Sides.{IsLeastUpper, AreSides}
use Rattle.certificate_check.specs.Claims.{row_state, act_of, low_in, high_in}
use Rattle.certificate_check.specs.Sides.{IsLeastUpperIn, AreRowSides}
use Rattle.certificate_check.specs.GroundRows.{Claimed}
use Rattle.certificate_check.specs.Sides.{AreSidesIn}

module _ (g : Ground) (c : Content) (s : State) where
  by_right : (act : Act) (o : Option ℕ) → IsLeastUpper (ground_process g) (high_in g c) s act o → IsLeastUpperIn g c s (Some act) o
  by_right act None found = found
  by_right act (Some n) found = found

  by_act : (claimed : Option Act) (act : Act) (o : Option ℕ) → is_some claimed ≡ true → act ≡ unwrap_or claimed GiveUp
      → IsLeastUpper (ground_process g) (high_in g c) s act o → IsLeastUpperIn g c s claimed o
  by_act None act o some is found = absurd (true≢false (sym some))
  by_act (Some a) act o some is found = by_right a o (subst (λ b. IsLeastUpper (ground_process g) (high_in g c) s b o) is found)

  by_none : (claimed : Option Act) → is_some claimed ≡ false → IsLeastUpperIn g c s claimed None
  by_none None none = λ right. right
  by_none (Some a) none = absurd (true≢false none)

module _ (i g : Ground) (c : Content) (mine r : Row) (k : ℕ) (claimed : Option Act) (act : Act) (s : State) (sides : Sides) (problem : i ≡ g)
    (at : slice_get c.rows k ≡ Some mine) (at' : slice_get c.rows k ≡ Some r) (named : claimed ≡ act_of g c mine.act)
    (state : s ≡ row_state g c mine) (are : AreSides (ground_process i) (low_in g c) (high_in g c) s act sides) where
  here : AreSides (ground_process g) (low_in g c) (high_in g c) (row_state g c mine) act sides
  here =
      subst (λ x. AreSides (ground_process x) (low_in g c) (high_in g c) (row_state g c mine) act sides) problem
      (subst (λ x. AreSides (ground_process i) (low_in g c) (high_in g c) x act sides) state are)

  pub sides_of_row : is_some claimed ≡ true → act ≡ unwrap_or claimed GiveUp → AreRowSides g c r sides
  sides_of_row some is =
      subst (λ x. AreRowSides g c x sides) (same_Some mine r (sym at ∙ at'))
      (record {
        greatest_lower = here.greatest_lower;
        least_upper = subst (λ a. IsLeastUpperIn g c (row_state g c mine) a sides.least_upper) named
            (by_act g c (row_state g c mine) claimed act sides.least_upper some is here.least_upper);
      })

  pub sides_without_act : is_some claimed ≡ false
      → AreRowSides g c r (record { greatest_lower = sides.greatest_lower; least_upper = None })
  sides_without_act none =
      subst (λ x. AreRowSides g c x (record { greatest_lower = sides.greatest_lower; least_upper = None })) (same_Some mine r (sym at ∙ at'))
      (record {
        greatest_lower = here.greatest_lower;
        least_upper = subst (λ a. IsLeastUpperIn g c (row_state g c mine) a None) named (by_none g c (row_state g c mine) claimed none);
      })

-- by the table, which names the problem and the certificate as they are kept
pub told_sides : (x t : Claimed) (g : Ground) (q : Content) → t ≡ x → x.problem ≡ g → x.certificate ≡ q → (place : ℕ) (sides : Sides)
    → AreSidesIn t.problem t.certificate place sides → AreSidesIn g q place sides
told_sides x t g q same problem certificate place sides are =
    subst (λ (y : Claimed). AreSidesIn y.problem y.certificate place sides)
    (same ∙ (λ j. record { problem = problem j; certificate = certificate j })) are
