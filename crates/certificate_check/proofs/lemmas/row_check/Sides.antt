-- What the tests of a row compare its values with, and what these tests say.
use Rattle.std.proofs.Common.{◌≡◌, ℕ, ◌*◌, ◌<◌, ◌≤◌, Bool, true, false, Option, Some, sym, subst, refl, ◌∙◌, arith, eqb-true, eq-eqb, true≢false}
use Rattle.std.specs.Prelude.{◌↔◌, Contains, IsTrue, nat_le}
use Rattle.std.proofs.Math.Nat.{mul-le-mul_right}
use Rattle.std.proofs.lemmas.Bool.{le-leb, leb-true}
use Rattle.decision_process.specs.Process.{Process}
use Rattle.decision_process.specs.Backup.{action_value, lower_backup}
use Rattle.decision_process.specs.Following.{IsLowerFrom}
use Rattle.decision_process.proofs.Backups.{lower_backup_follows, lower_backup_is_greatest}
use Rattle.decision_process.proofs.Rounding.{ceiling_is_least}
use Rattle.ground_model.specs.Packed.{State}
use Rattle.certificate_check.specs.declared.row_check.act.Act.{Act}
use Rattle.certificate_check.specs.declared.row_check.act.Act.TheVariants.{GiveUp, Goal, Do}
use Rattle.certificate_check.specs.row_check.Faults.{IsRight, UpperFollows}
use Rattle.certificate_check.specs.row_check.Sides.{least_upper, IsLeastUpper, UpperIsWithin, has_upper_within}

module _ (p : Process State ℕ) (positive : 0 < p.den) where
  pub lower_law : (low : State → ℕ) (s : State) (value : ℕ) → IsLowerFrom p low s value ↔ (value ≤ lower_backup p low s)
  lower_law low s value = (
    lower_backup_is_greatest p positive low s value,
    (λ within.
        let follows = lower_backup_follows p low s in
        record {
          at_goal = λ on. omega (arith, within, follows.at_goal on);
          within_quit = λ off. omega (arith, within, follows.within_quit off);
          within_step = λ a off is_open. omega (arith, mul-le-mul_right p.den within, follows.within_step a off is_open);
        }),
  )

  module _ (high : State → ℕ) (s : State) (value : ℕ) where
    upper_given_up : p.goal s ≡ false → UpperFollows p high s GiveUp value ↔ UpperIsWithin p s p.penalty value
    upper_given_up off = (
      (λ all. record { above = all.follows.covers_quit off refl; at_goal = λ on. absurd (true≢false (sym on ∙ off)) }),
      (λ within. record {
        at_goal = λ on. absurd (true≢false (sym on ∙ off));
        follows = record {
          covers_quit = λ _ _. within.above;
          is_open = λ k _ is. absurd cc;
          covers_step = λ k _ is. absurd cc;
        };
      }),
    )

    upper_ended : p.goal s ≡ true → UpperFollows p high s Goal value ↔ UpperIsWithin p s 0 value
    upper_ended on = (
      (λ all. record { above = omega arith; at_goal = all.at_goal }),
      (λ within. record {
        at_goal = within.at_goal;
        follows = record {
          covers_quit = λ off _. absurd (true≢false (sym on ∙ off));
          is_open = λ k _ is. absurd cc;
          covers_step = λ k _ is. absurd cc;
        };
      }),
    )

    upper_taken : (k : ℕ) → IsRight p s (Do k) → UpperFollows p high s (Do k) value ↔ UpperIsWithin p s (least_upper p high s (Do k)) value
    upper_taken k right = (
      (λ all. record {
        above = (ceiling_is_least value (action_value p high k s) p.den positive).1 (all.follows.covers_step k right.0 refl);
        at_goal = λ on. absurd (true≢false (sym on ∙ right.0));
      }),
      (λ within. record {
        at_goal = λ on. absurd (true≢false (sym on ∙ right.0));
        follows = record {
          covers_quit = λ _ none. absurd cc;
          is_open = λ j _ is. subst (Contains (p.choices s)) (cc is) right.1;
          covers_step = λ j _ is.
              subst (λ i. action_value p high i s ≤ value * p.den) (cc is)
              ((ceiling_is_least value (action_value p high k s) p.den positive).0 within.above);
        };
      }),
    )

    pub upper_law : (act : Act) → IsRight p s act → UpperFollows p high s act value ↔ UpperIsWithin p s (least_upper p high s act) value
    upper_law GiveUp right = upper_given_up right
    upper_law Goal right = upper_ended right
    upper_law (Do k) right = upper_taken k right

  -- ---- the test of the upper value

  within_tested : (s : State) (least value : ℕ) → p.goal s ≡ false → IsTrue (nat_le least value) ↔ UpperIsWithin p s least value
  within_tested s least value off = (
    (λ test. record { above = leb-true least value test; at_goal = λ on. absurd (true≢false (sym on ∙ off)) }),
    (λ within. le-leb least value within.above),
  )

  pub upper_tested : (s : State) (act : Act) (least value : ℕ) → IsRight p s act
      → IsTrue (has_upper_within act value least) ↔ UpperIsWithin p s least value
  upper_tested s GiveUp least value right = within_tested s least value right
  upper_tested s (Do k) least value right = within_tested s least value right.0
  upper_tested s Goal least value right = (
    (λ test. let same : value ≡ least = eqb-true value least test in record { above = omega (arith, same); at_goal = λ _. same }),
    (λ within. eq-eqb value least (within.at_goal right)),
  )

-- ---- by a least upper value that is found

module _ (p : Process State ℕ) where
  pub right_by : (high : State → ℕ) (s : State) (act : Act) (o : Option ℕ) (least : ℕ) → o ≡ Some least → IsLeastUpper p high s act o
      → IsRight p s act
  right_by high s act o least is found = (subst (IsLeastUpper p high s act) is found).0

  pub upper_by : 0 < p.den → (high : State → ℕ) (s : State) (act : Act) (value : ℕ) (o : Option ℕ) (least : ℕ) (test : Bool) → o ≡ Some least
      → IsLeastUpper p high s act o → test ≡ has_upper_within act value least → IsTrue test ↔ UpperFollows p high s act value
  upper_by positive high s act value o least test is found tests =
      let here = subst (IsLeastUpper p high s act) is found in
      let tested = upper_tested p positive s act least value here.0 in
      let law = upper_law p positive high s value act here.0 in (
        (λ holds. law.1 (subst (λ n. UpperIsWithin p s n value) here.1 (tested.0 (sym tests ∙ holds)))),
        (λ follows. tests ∙ tested.1 (subst (λ n. UpperIsWithin p s n value) (sym here.1) (law.0 follows))),
      )
