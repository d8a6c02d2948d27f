-- What follows from readings is carried, and so are backups, plain rounded iteration and balance at a state.
use Rattle.std.proofs.Common.{◌≡◌, ℕ, suc, zero, ◌*◌, ◌≤◌, true, false, cond, Option, None, Some, refl, sym, ap, subst, inl, inr, ◌∙◌, arith}
use Rattle.std.specs.Prelude.{Contains}
use Rattle.std.proofs.lemmas.Bool.{cases_Bool}
use Rattle.std.proofs.Math.Nat.{le_antisymm}
use Rattle.decision_process.specs.Process.{Process}
use Rattle.decision_process.specs.Backup.{action_value, lower_backup, upper_backup}
use Rattle.decision_process.specs.Rounded.{down, up}
use Rattle.decision_process.specs.Following.{IsLowerFrom, IsUpperFrom}
use Rattle.decision_process.proofs.Backups.{lower_backup_follows, lower_backup_is_greatest, upper_backup_follows, upper_backup_is_least}
use Rattle.decision_process.specs.homomorphism.Homomorphism.{Mapping, IsValid, IsHomomorphism, AreReadingsOf, IsActOf}
use Rattle.decision_process.specs.homomorphism.Laws as laws
use Rattle.decision_process.proofs.lemmas.homomorphism.Ratios.{below_same, above_same}
use Rattle.decision_process.proofs.lemmas.homomorphism.Outcomes.{action_value-carried}

-- ---- acts

module _ {S T A B : Type 0} (m : Mapping S T A B) where
  none_here : (act : Option A) (act' : Option B) → IsActOf m act act' → act' ≡ None → act ≡ None
  none_here None act' acts none = refl
  none_here (Some a) None acts none = absurd acts
  none_here (Some a) (Some b) acts none = absurd cc

  none_there : (act : Option A) (act' : Option B) → IsActOf m act act' → act ≡ None → act' ≡ None
  none_there act None acts none = refl
  none_there None (Some b) acts none = absurd acts
  none_there (Some a) (Some b) acts none = absurd cc

  some_here : (act : Option A) (act' : Option B) (b : B) → IsActOf m act act' → act' ≡ Some b
      → (a : A) × (act ≡ Some a) × (m.action a ≡ Some b)
  some_here None None b acts some = absurd cc
  some_here None (Some c) b acts some = absurd acts
  some_here (Some a) None b acts some = absurd acts
  some_here (Some a) (Some c) b acts some = (a, refl, acts ∙ some)

  some_there : (act : Option A) (act' : Option B) (a : A) → IsActOf m act act' → act ≡ Some a
      → (b : B) × (act' ≡ Some b) × (m.action a ≡ Some b)
  some_there None None a acts some = absurd cc
  some_there None (Some c) a acts some = absurd acts
  some_there (Some c) None a acts some = absurd acts
  some_there (Some c) (Some b) a acts some = let same : c ≡ a = cc in (b, refl, subst (λ x. m.action x ≡ Some b) same acts)

module _ {S T A B : Type 0} (p : Process S A) (q : Process T B) (m : Mapping S T A B) (is : IsHomomorphism p q m)
    (v : S → ℕ) (v' : T → ℕ) (reads : AreReadingsOf m v v') (s : S) (valid : IsValid m s) where
  on_here : q.goal (m.state s) ≡ true → p.goal s ≡ true
  on_here on = is.goals s valid ∙ on

  off_here : q.goal (m.state s) ≡ false → p.goal s ≡ false
  off_here off = is.goals s valid ∙ off

  on_there : p.goal s ≡ true → q.goal (m.state s) ≡ true
  on_there on = sym (is.goals s valid) ∙ on

  off_there : p.goal s ≡ false → q.goal (m.state s) ≡ false
  off_there off = sym (is.goals s valid) ∙ off

  -- a value is at most the action's on the one side where it is on the other, and at least it
  below_there : p.goal s ≡ false → (a : A) (b : B) → m.action a ≡ Some b → Contains (p.choices s) a → (value : ℕ)
      → value * p.den ≤ action_value p v a s → value * q.den ≤ action_value q v' b (m.state s)
  below_there off a b stands is_open value =
      below_same value (action_value p v a s) p.den (action_value q v' b (m.state s)) q.den is.den_positive
      (action_value-carried p q m is s valid off a b stands is_open v v' reads)

  below_here : p.goal s ≡ false → (a : A) (b : B) → m.action a ≡ Some b → Contains (p.choices s) a → (value : ℕ)
      → value * q.den ≤ action_value q v' b (m.state s) → value * p.den ≤ action_value p v a s
  below_here off a b stands is_open value =
      below_same value (action_value q v' b (m.state s)) q.den (action_value p v a s) p.den is.den_positive_there
      (sym (action_value-carried p q m is s valid off a b stands is_open v v' reads))

  above_there : p.goal s ≡ false → (a : A) (b : B) → m.action a ≡ Some b → Contains (p.choices s) a → (value : ℕ)
      → action_value p v a s ≤ value * p.den → action_value q v' b (m.state s) ≤ value * q.den
  above_there off a b stands is_open value =
      above_same value (action_value p v a s) p.den (action_value q v' b (m.state s)) q.den is.den_positive
      (action_value-carried p q m is s valid off a b stands is_open v v' reads)

  above_here : p.goal s ≡ false → (a : A) (b : B) → m.action a ≡ Some b → Contains (p.choices s) a → (value : ℕ)
      → action_value q v' b (m.state s) ≤ value * q.den → action_value p v a s ≤ value * p.den
  above_here off a b stands is_open value =
      above_same value (action_value q v' b (m.state s)) q.den (action_value p v a s) p.den is.den_positive_there
      (sym (action_value-carried p q m is s valid off a b stands is_open v v' reads))

  -- ---- what follows

  lower_there : (value : ℕ) → IsLowerFrom p v s value → IsLowerFrom q v' (m.state s) value
  lower_there value follows = record {
    at_goal = λ on. follows.at_goal (on_here on);
    within_quit = λ off. omega (arith, follows.within_quit (off_here off), is.penalties);
    within_step = λ b off is_open.
        let like = is.like s valid (off_here off) in
        let found = like.is_found b is_open in
        let here = (like.opens found.0 b found.1).1 is_open in
        below_there (off_here off) found.0 b found.1 here value (follows.within_step found.0 (off_here off) here);
  }

  lower_here : (value : ℕ) → IsLowerFrom q v' (m.state s) value → IsLowerFrom p v s value
  lower_here value follows = record {
    at_goal = λ on. follows.at_goal (on_there on);
    within_quit = λ off. omega (arith, follows.within_quit (off_there off), is.penalties);
    within_step = λ a off is_open.
        let like = is.like s valid off in
        let found = like.stands a is_open in
        below_here off a found.0 found.1 is_open value
        (follows.within_step found.0 (off_there off) ((like.opens a found.0 found.1).0 is_open));
  }

  module _ (act : Option A) (act' : Option B) (acts : p.goal s ≡ false → IsActOf m act act') where
    upper_there : (value : ℕ) → IsUpperFrom p v s act value → IsUpperFrom q v' (m.state s) act' value
    upper_there value follows = record {
      covers_quit = λ off none.
          omega (arith, follows.covers_quit (off_here off) (none_here m act act' (acts (off_here off)) none), is.penalties);
      is_open = λ b off some.
          let found = some_here m act act' b (acts (off_here off)) some in
          ((is.like s valid (off_here off)).opens found.0 b found.2).0 (follows.is_open found.0 (off_here off) found.1);
      covers_step = λ b off some.
          let found = some_here m act act' b (acts (off_here off)) some in
          above_there (off_here off) found.0 b found.2 (follows.is_open found.0 (off_here off) found.1) value
          (follows.covers_step found.0 (off_here off) found.1);
    }

    upper_here : (value : ℕ) → IsUpperFrom q v' (m.state s) act' value → IsUpperFrom p v s act value
    upper_here value follows = record {
      covers_quit = λ off none.
          omega (arith, follows.covers_quit (off_there off) (none_there m act act' (acts off) none), is.penalties);
      is_open = λ a off some.
          let found = some_there m act act' a (acts off) some in
          ((is.like s valid off).opens a found.0 found.2).1 (follows.is_open found.0 (off_there off) found.1);
      covers_step = λ a off some.
          let found = some_there m act act' a (acts off) some in
          let here = ((is.like s valid off).opens a found.0 found.2).1 (follows.is_open found.0 (off_there off) found.1) in
          above_here off a found.0 found.2 here value (follows.covers_step found.0 (off_there off) found.1);
    }

  -- ---- backups: each is the best that follows

  pub lower_backup-carried : lower_backup p v s ≡ lower_backup q v' (m.state s)
  lower_backup-carried =
      le_antisymm
      (lower_backup_is_greatest q is.den_positive_there v' (m.state s) (lower_backup p v s)
      (lower_there (lower_backup p v s) (lower_backup_follows p v s)))
      (lower_backup_is_greatest p is.den_positive v s (lower_backup q v' (m.state s))
      (lower_here (lower_backup q v' (m.state s)) (lower_backup_follows q v' (m.state s))))

  -- an act that is open has a counterpart
  act_there : (act : Option A) → ((a : A) → p.goal s ≡ false → act ≡ Some a → Contains (p.choices s) a)
      → (act' : Option B) × (p.goal s ≡ false → IsActOf m act act')
  act_there None opens = (None, λ off. tt)
  act_there (Some a) opens = elim (cases_Bool (p.goal s)) [
    | inl on ↦ (None, λ off. absurd cc)
    | inr off ↦ let found = (is.like s valid off).stands a (opens a off refl) in (Some found.0, λ _. found.1)
  ]

  act_here : (act' : Option B) → ((b : B) → q.goal (m.state s) ≡ false → act' ≡ Some b → Contains (q.choices (m.state s)) b)
      → (act : Option A) × (p.goal s ≡ false → IsActOf m act act')
  act_here None opens = (None, λ off. tt)
  act_here (Some b) opens = elim (cases_Bool (p.goal s)) [
    | inl on ↦ (None, λ off. absurd cc)
    | inr off ↦ let found = (is.like s valid off).is_found b (opens b (off_there off) refl) in (Some found.0, λ _. found.1)
  ]

  pub upper_backup-carried : upper_backup p v s ≡ upper_backup q v' (m.state s)
  upper_backup-carried =
      let here = upper_backup_follows p is.den_positive v s in
      let there = upper_backup_follows q is.den_positive_there v' (m.state s) in
      let act' = act_there here.0 here.1.is_open in
      let act = act_here there.0 there.1.is_open in
      le_antisymm
      (upper_backup_is_least p is.den_positive v s act.0 (upper_backup q v' (m.state s))
      (upper_here act.0 there.0 act.1 (upper_backup q v' (m.state s)) there.1))
      (upper_backup_is_least q is.den_positive_there v' (m.state s) act'.0 (upper_backup p v s)
      (upper_there here.0 act'.0 act'.1 (upper_backup p v s) here.1))

module _ {S T A B : Type 0} where
  pub lower_is_carried : laws.LowerIsCarried S T A B
  lower_is_carried p q m is low low' reads s valid value =
      (lower_there p q m is low low' reads s valid value, lower_here p q m is low low' reads s valid value)

  pub upper_is_carried : laws.UpperIsCarried S T A B
  upper_is_carried p q m is high high' reads act act' s valid acts value = (
    upper_there p q m is high high' reads s valid act act' acts value,
    upper_here p q m is high high' reads s valid act act' acts value,
  )

  pub lower_backup_is_carried : laws.LowerBackupIsCarried S T A B
  lower_backup_is_carried p q m = lower_backup-carried p q m

  pub upper_backup_is_carried : laws.UpperBackupIsCarried S T A B
  upper_backup_is_carried p q m = upper_backup-carried p q m

  pub down_is_carried : laws.DownIsCarried S T A B
  down_is_carried p q m is zero s valid = refl
  down_is_carried p q m is (suc k) s valid =
      lower_backup-carried p q m is (down p k) (down q k) (down_is_carried p q m is k) s valid

  pub up_is_carried : laws.UpIsCarried S T A B
  up_is_carried p q m is zero s valid =
      ap (λ on. cond on 0 p.penalty) (is.goals s valid) ∙ ap (λ n. cond (q.goal (m.state s)) 0 n) is.penalties
  up_is_carried p q m is (suc k) s valid =
      upper_backup-carried p q m is (up p k) (up q k) (up_is_carried p q m is k) s valid

  pub balance_is_carried : laws.BalanceIsCarried S T A B
  balance_is_carried p q m is low high act low' high' act' lows highs s valid acts = (
    λ here. record {
      low_follows = subst (IsLowerFrom q low' (m.state s)) (lows s valid)
          ((lower_is_carried p q m is low low' lows s valid (low s)).0 here.low_follows);
      high_at_goal = λ on. sym (highs s valid) ∙ here.high_at_goal (is.goals s valid ∙ on);
      high_follows = subst (IsUpperFrom q high' (m.state s) (act' (m.state s))) (highs s valid)
          ((upper_is_carried p q m is high high' highs (act s) (act' (m.state s)) s valid acts (high s)).0 here.high_follows);
    },
    λ there. record {
      low_follows = subst (IsLowerFrom p low s) (sym (lows s valid))
          ((lower_is_carried p q m is low low' lows s valid (low' (m.state s))).1 there.low_follows);
      high_at_goal = λ on. highs s valid ∙ there.high_at_goal (sym (is.goals s valid) ∙ on);
      high_follows = subst (IsUpperFrom p high s (act s)) (sym (highs s valid))
          ((upper_is_carried p q m is high high' highs (act s) (act' (m.state s)) s valid acts (high' (m.state s))).1 there.high_follows);
    },
  )
