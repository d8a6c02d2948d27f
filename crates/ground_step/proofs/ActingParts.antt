-- Parts without a mark do nothing.
use Rattle.std.proofs.Common.{◌≡◌, ℕ, zero, suc, ◌+◌, ◌-◌, ◌*◌, ◌/◌, ◌%◌, ◌^◌, ◌<◌, ◌≤◌, Bool, true, false, cond, List, [], ◌∷◌, length, drop, get_or, refl, sym, ap, ◌∙◌, subst, add-one, arith}
use Rattle.std.specs.Prelude.{nat_eq}
use Rattle.std.proofs.Math.Nat.{pow-suc}
use Rattle.std.proofs.Math.Seq.{drop-cons}
use Rattle.ground_model.specs.declared.action.Guarded.{Guarded}
use Rattle.ground_model.specs.Packed.{State}
use Rattle.ground_model.specs.Truth.{truth}
use Rattle.ground_model.specs.Choices.{active_cost}
use Rattle.ground_step.specs.Acting.{IsNever, AreActing}
use Rattle.ground_step.specs.Edits.{without_atoms, without_parts}
use Rattle.ground_step.specs.Marks.{marks_of}

-- ---- each of the parts has a mark

odd_power : (n p : ℕ) → n + 1 ≡ p * 2 → n % 2 ≡ 1
odd_power n p one = omega arith

half_power : (n p : ℕ) → n + 1 ≡ p * 2 → n / 2 + 1 ≡ p
half_power n p one = omega arith

true_not_false : (b : Bool) → b ≡ true → b ≡ false → ⊥
true_not_false b on off = cc

pub all_act : (k n : ℕ) (xs : List Guarded) → n + 1 ≡ 2 ^ k → length xs ≤ k → AreActing n xs
all_act k n [] one few = tt
all_act zero n (x ∷ xs) one few = absurd (omega arith)
all_act (suc k) n (x ∷ xs) one few =
    let twice : n + 1 ≡ 2 ^ k * 2 = one ∙ pow-suc 2 k in (
      λ unmarked. absurd (true_not_false (nat_eq (n % 2) 1) (ap (λ r. nat_eq r 1) (odd_power n (2 ^ k) twice)) unmarked),
      all_act k (n / 2) xs (half_power n (2 ^ k) twice) (omega arith),
    )

-- ---- none of the parts has a mark

none_more : (b : Bool) (marks : ℕ) → b ≡ false → marks ≡ 0 → cond b 1 0 + 2 * marks ≡ 0
none_more true marks off none = cc
none_more false marks off none = omega arith

none_paid : (b : Bool) (cost rest : ℕ) → b ≡ false → rest ≡ 0 → cond b cost 0 + rest ≡ 0
none_paid true cost rest off none = cc
none_paid false cost rest off none = omega arith

module _ (bit : ℕ → Bool) where
  pub none_deletes : (s : State) (xs : List Guarded) → AreActing 0 xs → without_parts bit s xs ≡ s
  none_deletes s [] none = refl
  none_deletes s (x ∷ xs) none =
      ap (λ b. without_parts bit (cond b (without_atoms s x.deletes) s) xs) (none.0 refl bit) ∙ none_deletes s xs none.1

  pub none_holds : (xs : List Guarded) → AreActing 0 xs → marks_of bit xs ≡ 0
  none_holds [] none = refl
  none_holds (x ∷ xs) none =
      none_more (truth bit x.condition) (marks_of bit xs) (none.0 refl bit) (none_holds xs none.1)

  pub none_costs : (xs : List Guarded) → AreActing 0 xs → active_cost bit xs ≡ 0
  none_costs [] none = refl
  none_costs (x ∷ xs) none =
      none_paid (truth bit x.condition) x.cost (active_cost bit xs) (none.0 refl bit) (none_costs xs none.1)

-- ---- the marks of the parts from one on

pub next_part : (xs : List Guarded) (i : ℕ) (x : Guarded) → i < length xs → x ≡ get_or xs i x → drop i xs ≡ x ∷ drop (i + 1) xs
next_part xs i x within is =
    drop-cons xs i x within ∙ ap (λ y. y ∷ drop (suc i) xs) (sym is) ∙ ap (λ k. x ∷ drop k xs) (sym (add-one i))

mark_is : (b : Bool) (marks : ℕ) → nat_eq ((marks * 2 + cond b 1 0) % 2) 1 ≡ b
mark_is true marks = ap (λ r. nat_eq r 1) (let one : (marks * 2 + 1) % 2 ≡ 1 = omega arith in one)
mark_is false marks = ap (λ r. nat_eq r 1) (let none : (marks * 2 + 0) % 2 ≡ 0 = omega arith in none)

others_are : (b : Bool) (marks : ℕ) → (marks * 2 + cond b 1 0) / 2 ≡ marks
others_are true marks = omega arith
others_are false marks = omega arith

pub one_more_acts : (b : Bool) (marks : ℕ) (x : Guarded) (xs : List Guarded) → (b ≡ false → IsNever x.condition) → AreActing marks xs
    → AreActing (marks * 2 + cond b 1 0) (x ∷ xs)
one_more_acts b marks x xs never so = (
  λ unmarked. never (sym (mark_is b marks) ∙ unmarked),
  subst (λ m. AreActing m xs) (sym (others_are b marks)) so,
)

one_bit_more : (b : Bool) (marks p q : ℕ) → q ≡ p * 2 → marks < p → marks * 2 + cond b 1 0 < q
one_bit_more true marks p q twice below = omega arith
one_bit_more false marks p q twice below = omega arith

pub marks_double : (b : Bool) (marks k : ℕ) → marks < 2 ^ k → marks * 2 + cond b 1 0 < 2 ^ (k + 1)
marks_double b marks k below = one_bit_more b marks (2 ^ k) (2 ^ (k + 1)) (ap (λ n. 2 ^ n) (add-one k) ∙ pow-suc 2 k) below
