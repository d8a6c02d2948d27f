-- Rows over a balanced pair.
--     low_of, high_of, act_of    the readings of a state, by its row if there is one
use Rattle.std.proofs.Common.{◌≡◌, ◌⊎◌, ℕ, ◌≤◌, min, max, Bool, true, false, cond, leb, List, [], ◌∷◌, Option, None, Some, refl, sym, ap, subst, inl, inr, ◌∙◌, arith}
use Rattle.std.specs.Prelude.{Contains}
use Rattle.std.proofs.lemmas.Bool.{cases_Bool}
use Rattle.plain_list.specs.weighted.Chances.{IsExact}
use Rattle.plain_list.proofs.Members.{Contains-first, Contains-later}
use Rattle.decision_process.specs.Process.{Process}
use Rattle.decision_process.specs.Following.{IsLowerFrom, IsUpperFrom}
use Rattle.decision_process.specs.Readings.{Row, action_of, row_at}
use Rattle.decision_process.proofs.Backups.{lower_still_follows, upper_still_follows}
use Rattle.decision_process.proofs.Balance.{balanced_interval_encloses}
use Rattle.balanced_pair.specs.Pairs.{Pair, IsSubSolution, IsSuperSolution, IsBalancedPair, low_over, high_over, act_over, read, IsRowFrom}
use Rattle.balanced_pair.specs.Laws as laws
use Rattle.balanced_pair.proofs.Halves.{greater_follows, upper_at_goal, halves_are_balanced}

module _ {S A : Type 0} (same : S → S → Bool) where
  -- a state has no row, or reads one of its own
  pub row_cases : IsExact same → (rows : List (Row S A)) (s : S)
      → (row_at same rows s ≡ None) ⊎ ((row : Row S A) × Contains rows row × (row.state ≡ s) × (row_at same rows s ≡ Some row))
  row_cases exact [] s = inl refl
  row_cases exact (row ∷ rows) s = elim (cases_Bool (same row.state s)) [
    | inl on ↦
        inr (row, Contains-first row rows, (exact row.state s).0 on, ap (λ b. elim b [ true ↦ Some row | false ↦ row_at same rows s ]) on)
    | inr off ↦
        let later : row_at same (row ∷ rows) s ≡ row_at same rows s
        = ap (λ b. elim b [ true ↦ Some row | false ↦ row_at same rows s ]) off in
        elim (row_cases exact rows s) [
          | inl none ↦ inl (later ∙ none)
          | inr found ↦ inr (found.0, Contains-later row rows found.0 found.1, found.2, later ∙ found.3)
        ]
  ]

module _ {S A : Type 0} (p : Process S A) where
  module _ (same : S → S → Bool) (exact : IsExact same) (pair : Pair S A) (balanced : IsBalancedPair p pair) (rows : List (Row S A)) where
    low_of : Option (Row S A) → S → ℕ
    low_of found s = elim found [ None ↦ pair.low s | Some row ↦ max row.lower (pair.low s) ]

    high_of : Option (Row S A) → S → ℕ
    high_of found s = elim found [ None ↦ pair.high s | Some row ↦ min row.upper (pair.high s) ]

    act_of : Option (Row S A) → S → Option A
    act_of found s = elim found [ None ↦ pair.act s | Some row ↦ cond (leb row.upper (pair.high s)) (action_of row.act) (pair.act s) ]

    low_is : (s : S) (found : Option (Row S A)) → row_at same rows s ≡ found → low_over p same pair rows s ≡ low_of found s
    unfolding low_of
    low_is s found e = ap (λ (o : Option (Row S A)). elim o [ None ↦ pair.low s | Some row ↦ max row.lower (pair.low s) ]) e

    act_is : (s : S) (found : Option (Row S A)) → row_at same rows s ≡ found → act_over p same pair rows s ≡ act_of found s
    unfolding act_of
    act_is s found e =
        ap (λ (o : Option (Row S A)). elim o [ None ↦ pair.act s | Some row ↦ cond (leb row.upper (pair.high s)) (action_of row.act) (pair.act s) ]) e

    high_is : (s : S) (found : Option (Row S A)) → row_at same rows s ≡ found → p.goal s ≡ false
        → high_over p same pair rows s ≡ high_of found s
    unfolding high_of
    high_is s found e off =
        ap (λ b. cond b 0 (elim (row_at same rows s) [ None ↦ pair.high s | Some row ↦ min row.upper (pair.high s) ])) off
        ∙ ap (λ (o : Option (Row S A)). elim o [ None ↦ pair.high s | Some row ↦ min row.upper (pair.high s) ]) e

    high_at_goal : (s : S) → p.goal s ≡ true → high_over p same pair rows s ≡ 0
    high_at_goal s on = ap (λ b. cond b 0 (elim (row_at same rows s) [ None ↦ pair.high s | Some row ↦ min row.upper (pair.high s) ])) on

    -- the readings are no wider than the pair's
    low_rises : (s : S) → pair.low s ≤ low_over p same pair rows s
    unfolding low_of
    low_rises s = elim (row_cases same exact rows s) [
      | inl none ↦ omega (arith, low_is s None none)
      | inr found ↦ omega (arith, low_is s (Some found.0) found.3)
    ]

    high_falls : (s : S) → high_over p same pair rows s ≤ pair.high s
    unfolding high_of
    high_falls s = elim (cases_Bool (p.goal s)) [
      | inl on ↦ omega (arith, high_at_goal s on)
      | inr off ↦ elim (row_cases same exact rows s) [
        | inl none ↦ omega (arith, high_is s None none off)
        | inr found ↦ omega (arith, high_is s (Some found.0) found.3 off)
      ]
    ]

    -- what the pair says follows from the readings over it
    pair_low_follows : (s : S) → IsLowerFrom p (low_over p same pair rows) s (pair.low s)
    pair_low_follows s =
        lower_still_follows p pair.low (low_over p same pair rows) s (pair.low s) ((balanced s).low_follows) (λ _ a _ o _. low_rises o.next)

    pair_high_follows : (s : S) → IsUpperFrom p (high_over p same pair rows) s (pair.act s) (pair.high s)
    pair_high_follows s =
        upper_still_follows p pair.high (high_over p same pair rows) s (pair.act s) (pair.high s) ((balanced s).high_follows)
        (λ _ a _ o _. high_falls o.next)

    module _ (each : (row : Row S A) → Contains rows row → IsRowFrom p (read p same pair rows) row) where
      lower_half : IsSubSolution p (low_over p same pair rows)
      unfolding low_of
      lower_half s = elim (row_cases same exact rows s) [
        | inl none ↦
            subst (λ value. IsLowerFrom p (low_over p same pair rows) s value) (sym (low_is s None none)) (pair_low_follows s)
        | inr found ↦
            let row : Row S A = found.0 in
            let own : IsLowerFrom p (low_over p same pair rows) s row.lower
            = subst (λ t. IsLowerFrom p (low_over p same pair rows) t row.lower) found.2 (each row found.1).lower in
            subst (λ value. IsLowerFrom p (low_over p same pair rows) s value) (sym (low_is s (Some row) found.3))
            (greater_follows p (low_over p same pair rows) s row.lower (pair.low s) own (pair_low_follows s))
      ]

      -- the smaller of two upper values follows, with its act
      smaller_follows : (s : S) (row : Row S A) → IsUpperFrom p (high_over p same pair rows) s (action_of row.act) row.upper
          → IsUpperFrom p (high_over p same pair rows) s (act_of (Some row) s) (high_of (Some row) s)
      unfolding act_of high_of
      smaller_follows s row own = elim (cases_Bool (leb row.upper (pair.high s))) [
        | inl on ↦
            let takes : cond (leb row.upper (pair.high s)) (action_of row.act) (pair.act s) ≡ action_of row.act
            = ap (λ b. cond b (action_of row.act) (pair.act s)) on in
            let value : min row.upper (pair.high s) ≡ row.upper = grind arith in
            rw takes (rw value own)
        | inr off ↦
            let takes : cond (leb row.upper (pair.high s)) (action_of row.act) (pair.act s) ≡ pair.act s
            = ap (λ b. cond b (action_of row.act) (pair.act s)) off in
            let value : min row.upper (pair.high s) ≡ pair.high s = grind arith in
            rw takes (rw value (pair_high_follows s))
      ]

      upper_follows : (s : S) (found : Option (Row S A)) → row_at same rows s ≡ found
          → IsUpperFrom p (high_over p same pair rows) s (act_of found s) (high_of found s)
          → IsUpperFrom p (high_over p same pair rows) s (act_over p same pair rows s) (high_over p same pair rows s)
      upper_follows s found e follows = elim (cases_Bool (p.goal s)) [
        | inl on ↦ upper_at_goal p (high_over p same pair rows) s (act_over p same pair rows s) (high_over p same pair rows s) on
        | inr off ↦
            subst (λ value. IsUpperFrom p (high_over p same pair rows) s (act_over p same pair rows s) value) (sym (high_is s found e off))
            (subst (λ act. IsUpperFrom p (high_over p same pair rows) s act (high_of found s)) (sym (act_is s found e)) follows)
      ]

      upper_half : IsSuperSolution p (high_over p same pair rows) (act_over p same pair rows)
      unfolding act_of high_of
      upper_half = record {
        at_goal = high_at_goal;
        follows = λ s. elim (row_cases same exact rows s) [
          | inl none ↦ upper_follows s None none (pair_high_follows s)
          | inr found ↦
              let row : Row S A = found.0 in
              upper_follows s (Some row) found.3
              (smaller_follows s row
              (subst (λ t. IsUpperFrom p (high_over p same pair rows) t (action_of row.act) row.upper) found.2 (each row found.1).upper))
        ];
      }

  pub rows_are_balanced : laws.RowsOverPairAreBalanced p
  rows_are_balanced same exact pair balanced rows each =
      (halves_are_balanced p (low_over p same pair rows) (high_over p same pair rows) (act_over p same pair rows)).1 (
        lower_half same exact pair balanced rows each,
        upper_half same exact pair balanced rows each,
      )

  pub certificate_encloses : laws.CertificateOverEncloses p
  certificate_encloses same exact pair balanced starts start_den positive c over =
      balanced_interval_encloses p (low_over p same pair c.rows) (high_over p same pair c.rows) (act_over p same pair c.rows)
      (rows_are_balanced same exact pair balanced c.rows over.rows)
      starts start_den c.lower c.upper positive over.interval
