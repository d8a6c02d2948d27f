-- Codes that are written one behind another.
use Rattle.std.proofs.Common.{◌≡◌, ℕ, suc, zero, ◌+◌, ◌*◌, ◌<◌, ◌≤◌, Bool, true, false, cond, List, [], ◌∷◌, ◌++◌, length, filter, take, sym, ap, subst, ◌∙◌, arith, length-append, append_assoc}
use Rattle.std.specs.Prelude.{All, slice_set}
use Rattle.std.specs.List.{range_with_len}
use Rattle.std.proofs.lemmas.List.{length-take-le, take_more_set}
use Rattle.std.proofs.lemmas.List.Elements.{All-nil, All-cons, All-head, All-tail}
use Rattle.ground_model.specs.Packed.{State, has_bit}
use Rattle.ground_step.specs.Atoms.{true_atoms}

kept_or_not : (b : Bool) (q : ℕ) (qs : List ℕ) (n : ℕ) → length qs ≤ n → length (cond b (q ∷ qs) qs) ≤ suc n
kept_or_not true q qs n below = omega (arith, below)
kept_or_not false q qs n below = omega (arith, below)

length-filtered : (p : ℕ → Bool) (a n : ℕ) → length (filter p (range_with_len a n)) ≤ n
length-filtered p a zero = omega arith
length-filtered p a (suc n) = kept_or_not (p a) a (filter p (range_with_len (a + 1) n)) n (length-filtered p (a + 1) n)

all_kept : (P : ℕ → Type 0) (b : Bool) (q : ℕ) (qs : List ℕ) → P q → All P qs → All P (cond b (q ∷ qs) qs)
all_kept P true q qs here rest = All-cons P q qs here rest
all_kept P false q qs here rest = rest

filtered_below : (p : ℕ → Bool) (a n m : ℕ) → a + n ≤ m → All (λ q. q < m) (filter p (range_with_len a n))
filtered_below p a zero m within = All-nil (λ q. q < m)
filtered_below p a (suc n) m within =
    all_kept (λ q. q < m) (p a) a (filter p (range_with_len (a + 1) n)) (omega arith)
    (filtered_below p (a + 1) n m (omega arith))

middle : (P : ℕ → Type 0) (xs : List ℕ) (y : ℕ) (ys : List ℕ) → All P (xs ++ y ∷ ys) → P y
middle P [] y ys all = All-head P y ys all
middle P (x ∷ xs) y ys all = middle P xs y ys (All-tail P x (xs ++ y ∷ ys) all)

-- a turn of the loop that writes them: some are written, the next is here, and others are left
module _ (marks : State) (codes left : List ℕ) (count code : ℕ) (within : count ≤ length codes)
    (written : take count codes ++ (code ∷ left) ≡ true_atoms marks) where
  pub code_below : code < 64 * length marks
  code_below =
      middle (λ q. q < 64 * length marks) (take count codes) code left
      (subst (All (λ q. q < 64 * length marks)) (sym written)
      (filtered_below (has_bit marks) 0 (64 * length marks) (64 * length marks) (omega arith)))

  pub room_left : count < 64 * length marks
  room_left =
      omega (
        arith,
        length-filtered (has_bit marks) 0 (64 * length marks),
        ap length written,
        length-append (take count codes) (code ∷ left),
        length-take-le count codes within,
      )

  pub written_more : count < length codes → take (count + 1) (slice_set codes count code) ++ left ≡ true_atoms marks
  written_more below =
      ap (λ xs. xs ++ left) (take_more_set codes count code below)
      ∙ append_assoc (take count codes) (code ∷ []) left ∙ written
