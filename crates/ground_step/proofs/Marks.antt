-- Marks of guarded parts: they fit a word, and the adds of marked parts are those of the parts that hold.
use Rattle.std.proofs.Common.{◌≡◌, ℕ, suc, ◌+◌, ◌*◌, ◌/◌, ◌%◌, ◌^◌, ◌<◌, Bool, true, false, cond, List, [], ◌∷◌, ◌++◌, take, drop, length, refl, sym, ap, ◌∙◌, add-one, arith}
use Rattle.std.specs.Prelude.{nat_eq}
use Rattle.std.proofs.Math.Nat.{pow-suc, pow-zero, mul-add, mul_assoc}
use Rattle.std.proofs.lemmas.List.{take-append-drop}
use Rattle.ground_model.specs.declared.action.Guarded.{Guarded}
use Rattle.ground_model.specs.Packed.{State}
use Rattle.ground_model.specs.Truth.{truth}
use Rattle.ground_model.specs.Choices.{active_cost}
use Rattle.ground_step.specs.Edits.{with_atoms, without_atoms, with_parts, without_parts}
use Rattle.ground_step.specs.Marks.{marks_of, with_marked}

one_more : (b : Bool) (m p q : ℕ) → m < p → q ≡ p * 2 → cond b 1 0 + 2 * m < q
one_more true m p q below e = omega (arith, below, e)
one_more false m p q below e = omega (arith, below, e)

-- as many parts as marks
pub marks_below : (bit : ℕ → Bool) (xs : List Guarded) → marks_of bit xs < 2 ^ length xs
marks_below bit [] = omega (arith, pow-zero 2)
marks_below bit (x ∷ xs) =
    one_more (truth bit x.condition) (marks_of bit xs) (2 ^ length xs) (2 ^ suc (length xs)) (marks_below bit xs)
    (pow-suc 2 (length xs))

halved : (b : Bool) (m : ℕ) → (cond b 1 0 + 2 * m) / 2 ≡ m
halved true m = omega arith
halved false m = omega arith

odd : (m : ℕ) → (1 + 2 * m) % 2 ≡ 1
odd m = omega arith

even : (m : ℕ) → (0 + 2 * m) % 2 ≡ 0
even m = omega arith

lowest : (b : Bool) (m : ℕ) → nat_eq ((cond b 1 0 + 2 * m) % 2) 1 ≡ b
lowest true m = ap (λ r. nat_eq r 1) (odd m)
lowest false m = ap (λ r. nat_eq r 1) (even m)

pub no_mark : (s : State) (xs : List Guarded) → with_marked 0 s xs ≡ s
no_mark s [] = refl
no_mark s (x ∷ xs) = no_mark s xs

pub marked_hold : (bit : ℕ → Bool) (s : State) (xs : List Guarded) → with_marked (marks_of bit xs) s xs ≡ with_parts bit s xs
marked_hold bit s [] = refl
marked_hold bit s (x ∷ xs) =
    let holds : Bool = truth bit x.condition in
    ap (λ m. with_marked m (cond (nat_eq (marks_of bit (x ∷ xs) % 2) 1) (with_atoms s x.adds) s) xs)
    (halved holds (marks_of bit xs))
    ∙ ap (λ b. with_marked (marks_of bit xs) (cond b (with_atoms s x.adds) s) xs) (lowest holds (marks_of bit xs))
    ∙ marked_hold bit (cond holds (with_atoms s x.adds) s) xs

-- ---- the mark of a part that is passed

next_power : (place : ℕ) → 2 ^ (place + 1) ≡ 2 ^ place * 2
next_power place = ap (λ k. 2 ^ k) (add-one place) ∙ pow-suc 2 place

doubled : (p q marks : ℕ) → q ≡ p * 2 → q * marks ≡ p * (2 * marks)
doubled p q marks e = ap (λ n. n * marks) e ∙ mul_assoc p 2 marks

none_added : (n : ℕ) → n ≡ 0 + n
none_added n = omega arith

pub mark_taken : (place held marks : ℕ)
    → (held + 2 ^ place) + 2 ^ (place + 1) * marks ≡ held + 2 ^ place * (1 + 2 * marks)
mark_taken place held marks =
    let one : 2 ^ place * (1 + 2 * marks) ≡ 2 ^ place * 1 + 2 ^ place * (2 * marks) = mul-add (2 ^ place) 1 (2 * marks) in
    let rest : 2 ^ (place + 1) * marks ≡ 2 ^ place * (2 * marks) =
    doubled (2 ^ place) (2 ^ (place + 1)) marks (next_power place) in
    omega (arith, one, rest)

pub mark_left : (place held marks : ℕ) → held + 2 ^ (place + 1) * marks ≡ held + 2 ^ place * (0 + 2 * marks)
mark_left place held marks =
    ap (λ n. held + n) (doubled (2 ^ place) (2 ^ (place + 1)) marks (next_power place))
    ∙ ap (λ n. held + 2 ^ place * n) (none_added (2 * marks))

-- what the first parts have before they are passed and what the others come to
module _ (bit : ℕ → Bool) where
  mark_step : (holds : Bool) (place held marks : ℕ)
      → (held + cond holds (2 ^ place) 0) + 2 ^ (place + 1) * marks ≡ held + 2 ^ place * (cond holds 1 0 + 2 * marks)
  mark_step true place held marks = mark_taken place held marks
  mark_step false place held marks = omega (arith, mark_left place held marks)

  pub marks_passed : (xs : List Guarded) (place held : ℕ) (x : Guarded) → drop place xs ≡ x ∷ drop (place + 1) xs
      → (held + cond (truth bit x.condition) (2 ^ place) 0) + 2 ^ (place + 1) * marks_of bit (drop (place + 1) xs)
      ≡ held + 2 ^ place * marks_of bit (drop place xs)
  marks_passed xs place held x e =
      mark_step (truth bit x.condition) place held (marks_of bit (drop (place + 1) xs))
      ∙ ap (λ ys. held + 2 ^ place * marks_of bit ys) (sym e)

-- ---- of the first parts and the others

module _ (bit : ℕ → Bool) where
  pub without_parts-append : (s : State) (xs ys : List Guarded)
      → without_parts bit (without_parts bit s xs) ys ≡ without_parts bit s (xs ++ ys)
  without_parts-append s [] ys = refl
  without_parts-append s (x ∷ xs) ys =
      without_parts-append (cond (truth bit x.condition) (without_atoms s x.deletes) s) xs ys

  pub with_parts-append : (s : State) (xs ys : List Guarded)
      → with_parts bit (with_parts bit s xs) ys ≡ with_parts bit s (xs ++ ys)
  with_parts-append s [] ys = refl
  with_parts-append s (x ∷ xs) ys = with_parts-append (cond (truth bit x.condition) (with_atoms s x.adds) s) xs ys

  pub active_cost-append : (xs ys : List Guarded) → active_cost bit (xs ++ ys) ≡ active_cost bit xs + active_cost bit ys
  active_cost-append [] ys = omega arith
  active_cost-append (x ∷ xs) ys = omega (arith, active_cost-append xs ys)

pub all_parts : (parts first others : List Guarded) (n : ℕ) → first ≡ take n parts → others ≡ drop n parts
    → first ++ others ≡ parts
all_parts parts first others n front back =
    ap (λ xs. xs ++ others) front ∙ ap (λ ys. take n parts ++ ys) back ∙ take-append-drop n parts
