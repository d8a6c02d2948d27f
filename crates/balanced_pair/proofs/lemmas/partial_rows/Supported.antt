-- The upper values of partial rows follow from those of the next states.
use Rattle.std.proofs.Common.{◌≡◌, ℕ, zero, suc, ◌+◌, ◌*◌, ◌<◌, ◌≤◌, true, false, cond, List, [], ◌∷◌, Option, None, Some, sym, ap, subst, inl, inr, ◌∙◌, arith}
use Rattle.std.specs.Prelude.{Contains}
use Rattle.std.proofs.lemmas.Bool.{cases_Bool}
use Rattle.std.proofs.Math.Nat.{mul-le-mul_left}
use Rattle.decision_process.specs.Process.{Process, Outcome, expected}
use Rattle.decision_process.specs.Following.{IsUpperFrom}
use Rattle.decision_process.specs.Readings.{RowAct, GivesUp, AtGoal, Takes, action_of}
use Rattle.balanced_pair.specs.Pairs.{IsSuperSolution}
use Rattle.balanced_pair.specs.partial_rows.PartialRows.{PartialRow, value_of, counted, LeadsTo, Leads, best_row, Covers, IsSupportedBy, IsSupported, partial_high, partial_act}
use Rattle.balanced_pair.specs.partial_rows.Laws as laws
use Rattle.balanced_pair.proofs.Halves.{upper_at_goal, quit_follows, acts_or_quits, off_or_on}
use Rattle.balanced_pair.proofs.lemmas.partial_rows.Best.{best_cases, best-le_quit, best-le_row}

same_action : {A : Type 0} (a b : A) → Some a ≡ Some b → a ≡ b
same_action a b e = cc

module _ {S A : Type 0} (p : Process S A) (rows : List (PartialRow S A)) where
  high_at_goal : (s : S) → p.goal s ≡ true → partial_high p rows s ≡ 0
  high_at_goal s on = ap (λ b. cond b 0 (value_of p.penalty (best_row p.penalty rows s))) on

  high_is : (s : S) → p.goal s ≡ false → partial_high p rows s ≡ value_of p.penalty (best_row p.penalty rows s)
  high_is s off = ap (λ b. cond b 0 (value_of p.penalty (best_row p.penalty rows s))) off

  -- the least value is at most what a name counts
  high-le_named_off : (name : Option (PartialRow S A)) (s : S) → LeadsTo rows name s → p.goal s ≡ false
      → partial_high p rows s ≤ value_of p.penalty name
  high-le_named_off None s leads off = omega (arith, high_is s off, best-le_quit p.penalty rows s)
  high-le_named_off (Some row) s leads off = omega (arith, high_is s off, best-le_row p.penalty rows s row leads.0 leads.1)

  high-le_named : (name : Option (PartialRow S A)) (s : S) → LeadsTo rows name s → partial_high p rows s ≤ value_of p.penalty name
  high-le_named name s leads = elim (cases_Bool (p.goal s)) [
    | inl on ↦ omega (arith, high_at_goal s on)
    | inr off ↦ high-le_named_off name s leads off
  ]

  outcome-le_counted : (weight cost high value : ℕ) → (0 < weight → high ≤ value) → weight * (cost + high) ≤ weight * (cost + value)
  outcome-le_counted zero cost high value within = omega arith
  outcome-le_counted (suc w) cost high value within = mul-le-mul_left (suc w) (omega (arith, within (omega arith)))

  expected-le_counted : (names : List (Option (PartialRow S A))) (outcomes : List (Outcome S)) → Leads rows names outcomes
      → expected (λ o. o.cost + partial_high p rows o.next) outcomes ≤ counted p.penalty names outcomes
  expected-le_counted [] [] leads = omega arith
  expected-le_counted [] (o ∷ outcomes) leads = absurd leads
  expected-le_counted (name ∷ names) [] leads = absurd leads
  expected-le_counted (name ∷ names) (o ∷ outcomes) leads =
      let here : o.weight * (o.cost + partial_high p rows o.next) ≤ o.weight * (o.cost + value_of p.penalty name)
      = outcome-le_counted o.weight o.cost (partial_high p rows o.next) (value_of p.penalty name)
      (λ positive. high-le_named name o.next (leads.0 positive)) in
      omega (arith, here, expected-le_counted names outcomes leads.1)

  -- the value of a row that holds a state follows there, with its act
  row_follows : (act : RowAct A) (row : PartialRow S A) (s : S) → IsSupportedBy p rows act row → row.holds s ≡ true → p.goal s ≡ false
      → IsUpperFrom p (partial_high p rows) s (action_of act) row.upper
  row_follows GivesUp row s supported holds off = quit_follows p (partial_high p rows) s row.upper (λ _. supported)
  row_follows AtGoal row s supported holds off = off_or_on (p.goal s) (supported s holds) off
  row_follows (Takes b) row s supported holds off =
      let covers : Covers p rows b row.upper s = supported s holds off in
      record {
        covers_quit = λ _ none. absurd (acts_or_quits b (sym none));
        is_open = λ a _ some. subst (λ c. Contains (p.choices s) c) (same_action b a some) covers.is_open;
        covers_step = λ a _ some.
            subst (λ c. expected (λ o. o.cost + partial_high p rows o.next) (p.step c s) ≤ row.upper * p.den) (same_action b a some)
            (omega (arith, covers.covers, expected-le_counted covers.names (p.step b s) covers.leads));
      }

  found_follows : (s : S) (found : Option (PartialRow S A)) → best_row p.penalty rows s ≡ found → p.goal s ≡ false
      → IsUpperFrom p (partial_high p rows) s (elim found [ None ↦ None | Some row ↦ action_of row.act ]) (value_of p.penalty found)
      → IsUpperFrom p (partial_high p rows) s (partial_act p rows s) (partial_high p rows s)
  found_follows s found e off follows =
      let value : partial_high p rows s ≡ value_of p.penalty found = high_is s off ∙ ap (value_of p.penalty) e in
      let act : partial_act p rows s ≡ elim found [ None ↦ None | Some row ↦ action_of row.act ]
      = ap (λ (o : Option (PartialRow S A)). elim o [ None ↦ None | Some row ↦ action_of row.act ]) e in
      subst (λ n. IsUpperFrom p (partial_high p rows) s (partial_act p rows s) n) (sym value)
      (subst (λ b. IsUpperFrom p (partial_high p rows) s b (value_of p.penalty found)) (sym act) follows)

  partial_is_upper : ((row : PartialRow S A) → Contains rows row → IsSupported p rows row)
      → IsSuperSolution p (partial_high p rows) (partial_act p rows)
  partial_is_upper supported = record {
    at_goal = high_at_goal;
    follows = λ s. elim (cases_Bool (p.goal s)) [
      | inl on ↦ upper_at_goal p (partial_high p rows) s (partial_act p rows s) (partial_high p rows s) on
      | inr off ↦ elim (best_cases p.penalty rows s) [
        | inl none ↦ found_follows s None none off (quit_follows p (partial_high p rows) s p.penalty (λ _. omega arith))
        | inr found ↦ found_follows s (Some found.0) found.3 off (row_follows found.0.act found.0 s (supported found.0 found.1) found.2 off)
      ]
    ];
  }

  least_value : (s : S) → p.goal s ≡ false → laws.IsLeastUpper p rows s
  least_value s off = record {
    within_penalty = omega (arith, high_is s off, best-le_quit p.penalty rows s);
    within_row = λ row inside holds. omega (arith, high_is s off, best-le_row p.penalty rows s row inside holds);
    one_of_them = elim (best_cases p.penalty rows s) [
      | inl none ↦ inl (high_is s off ∙ ap (value_of p.penalty) none)
      | inr found ↦ inr (found.0, found.1, found.2, high_is s off ∙ ap (value_of p.penalty) found.3)
    ];
  }

module _ {S A : Type 0} (p : Process S A) where
  pub partial_rows_are_super_solution : laws.PartialRowsAreSuperSolution p
  partial_rows_are_super_solution rows supported = partial_is_upper p rows supported

  pub partial_high_is_least : laws.PartialHighIsLeast p
  partial_high_is_least rows s off = least_value p rows s off
