-- A round of backups brings one more round of plain rounded iteration.
use Rattle.std.proofs.Common.{◌≡◌, ℕ, suc, ◌-◌, ◌*◌, ◌<◌, ◌≤◌, min, Option, Some, None, List, refl, sym, subst, arith, inl, inr, ◌⊎◌}
use Rattle.std.specs.Prelude.{Contains}
use Rattle.std.proofs.lemmas.Bool.{cases_lt}
use Rattle.std.proofs.Math.Nat.{mul-le-mul_left}
use Rattle.plain_list.proofs.Members.{Contains-map}
use Rattle.plain_list.proofs.lemmas.weighted.Totals.{total-le}
use Rattle.decision_process.specs.Process.{Process, Start, at_starts, EachOutcome}
use Rattle.decision_process.specs.Backup.{floor, ceiling}
use Rattle.decision_process.specs.Rounded.{down, up}
use Rattle.decision_process.specs.Levels.{near}
use Rattle.decision_process.proofs.Backups.{lower_backup_rises, upper_backup_rises}
use Rattle.decision_process.proofs.Rounding.{floor_is_greatest, ceiling_is_least}
use Rattle.decision_process.specs.sweeps.Sweeps.{IsFirst, IsWithin, rounds_at, HasRounds, IsNear}
use Rattle.decision_process.specs.sweeps.Laws as laws
use Rattle.decision_process.proofs.lemmas.sweeps.Near.{outcome_is_successor, start_is_near, successor_is_near, near_grows}

-- of suc r rounds at j, all but the last were there at j + 1, or there was only one
more_at : (depth : Option ℕ) (r j : ℕ) → IsWithin depth j
    → (k : ℕ) × (rounds_at depth (suc r) j ≡ suc k) × ((IsWithin depth (suc j) × (rounds_at depth r (suc j) ≡ k)) ⊎ (k ≡ 0))
more_at None r j within = (r, refl, inl (tt, refl))
more_at (Some d) r j within = (
  min r (d - j),
  omega arith,
  elim (cases_lt j d) [ inl before ↦ inl (omega arith, omega arith) | inr past ↦ inr (omega arith) ],
)

rounds_zero : (depth : Option ℕ) (j : ℕ) → rounds_at depth 0 j ≡ 0
rounds_zero None j = refl
rounds_zero (Some d) j = omega arith

-- quotients rise with what is divided
floor_rises : (x y d : ℕ) → 0 < d → x ≤ y → floor x d ≤ floor y d
floor_rises x y d positive below =
    (floor_is_greatest (floor x d) y d positive).1 (omega (arith, (floor_is_greatest (floor x d) x d positive).0 (omega arith)))

ceiling_rises : (x y d : ℕ) → 0 < d → x ≤ y → ceiling x d ≤ ceiling y d
ceiling_rises x y d positive below =
    (ceiling_is_least (ceiling y d) x d positive).1 (omega (arith, (ceiling_is_least (ceiling y d) y d positive).0 (omega arith)))

module _ {S A : Type 0} (p : Process S A) where
  pub wider_is_backed_up : laws.WiderIsBackedUp p
  wider_is_backed_up low high low' high' wide_low wide_high narrow_low narrow_high lower upper lower' upper' s b = record {
    lower = omega (arith, lower_backup_rises p wide_low low s (λ _ a _ o _. lower o.next), b.lower, lower' s);
    upper = omega (arith, upper_backup_rises p high wide_high s (λ _ a _ o _. upper o.next), b.upper, upper' s);
  }

  module _ (starts : List (Start S)) where
    near_is_swept : (depth : Option ℕ) (j : ℕ) → IsWithin depth j → (s : S) → Contains (near p starts j) s → IsNear p starts depth s
    near_is_swept None j within s inside = (j, inside)
    near_is_swept (Some d) j within s inside = near_grows p starts j d within s inside

    pub narrower_has_rounds : laws.NarrowerHasRounds p starts
    narrower_has_rounds depth r low high low' high' has lower upper = record {
      lower = λ j within s inside. omega (arith, has.lower j within s inside, lower s);
      upper = λ j within s inside. omega (arith, has.upper j within s inside, upper s);
    }

    pub rounds_begin : laws.RoundsBegin p starts
    rounds_begin depth low high first = record {
      lower = λ j within s inside. subst (λ n. down p n s ≤ low s) (sym (rounds_zero depth j)) (omega arith);
      upper = λ j within s inside. subst (λ n. high s ≤ up p n s) (sym (rounds_zero depth j)) (first s);
    }

    -- at the successors of a state of near j there were k rounds before
    module _ (depth : Option ℕ) (r j k : ℕ) (low high : S → ℕ) (first : IsFirst p high) (has : HasRounds p starts depth r low high)
        (before : (IsWithin depth (suc j) × (rounds_at depth r (suc j) ≡ k)) ⊎ (k ≡ 0)) (s : S) (inside : Contains (near p starts j) s) where
      lower_there : EachOutcome p s (λ o. down p k o.next ≤ low o.next)
      lower_there off a is_open o one = elim before [
        | inl on ↦ subst (λ n. down p n o.next ≤ low o.next) on.1
            (has.lower (suc j) on.0 o.next (successor_is_near p starts j s o.next inside (outcome_is_successor p s off a is_open o one)))
        | inr none ↦ subst (λ n. down p n o.next ≤ low o.next) (sym none) (omega arith)
      ]

      upper_there : EachOutcome p s (λ o. high o.next ≤ up p k o.next)
      upper_there off a is_open o one = elim before [
        | inl on ↦ subst (λ n. high o.next ≤ up p n o.next) on.1
            (has.upper (suc j) on.0 o.next (successor_is_near p starts j s o.next inside (outcome_is_successor p s off a is_open o one)))
        | inr none ↦ subst (λ n. high o.next ≤ up p n o.next) (sym none) (first o.next)
      ]

    pub round_goes_on : laws.RoundGoesOn p starts
    round_goes_on depth swept are r low high low' high' first has done = record {
      lower = λ j within s inside.
          let m = more_at depth r j within in
          let b = done s ((are s).1 (near_is_swept depth j within s inside)) in
          subst (λ n. down p n s ≤ low' s) (sym m.1)
          (omega (arith, lower_backup_rises p (down p m.0) low s (lower_there depth r j m.0 low high first has m.2 s inside), b.lower));
      upper = λ j within s inside.
          let m = more_at depth r j within in
          let b = done s ((are s).1 (near_is_swept depth j within s inside)) in
          subst (λ n. high' s ≤ up p n s) (sym m.1)
          (omega (arith, upper_backup_rises p high (up p m.0) s (upper_there depth r j m.0 low high first has m.2 s inside), b.upper));
    }

    pub starts_have_rounds : laws.StartsHaveRounds p starts
    starts_have_rounds depth r low high within has s inside = (
      has.lower 1 within s (start_is_near p starts s inside),
      has.upper 1 within s (start_is_near p starts s inside),
    )

    at_starts_rises : (f g : S → ℕ) → ((s : S) → Contains (laws.states_of starts) s → f s ≤ g s) → at_starts f starts ≤ at_starts g starts
    at_starts_rises f g each =
        total-le (λ (x : Start S). x.weight * f x.state) (λ x. x.weight * g x.state) starts
        (λ x inside. mul-le-mul_left x.weight (each x.state (Contains-map (λ (x : Start S). x.state) starts x inside)))

    pub means_have_rounds : laws.MeansHaveRounds p starts
    means_have_rounds depth r den low high within positive has =
        let k : ℕ = rounds_at depth r 1 in (
          floor_rises (at_starts (down p k) starts) (at_starts low starts) den positive
              (at_starts_rises (down p k) low (λ s inside. (starts_have_rounds depth r low high within has s inside).0)),
          ceiling_rises (at_starts high starts) (at_starts (up p k) starts) den positive
              (at_starts_rises high (up p k) (λ s inside. (starts_have_rounds depth r low high within has s inside).1)),
        )
