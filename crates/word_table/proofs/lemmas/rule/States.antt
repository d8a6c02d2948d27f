-- Numbers that are raised or sunk at one state.
use Rattle.std.proofs.Common.{◌≡◌, ◌≢◌, ℕ, ◌≤◌, min, max, cond, Bool, true, false, refl, sym, subst, inl, inr, arith}
use Rattle.std.specs.Cmp.Lexicographic.{bytes_decides}
use Rattle.std.proofs.lemmas.Bool.{cases_Bool}
use Rattle.ground_model.specs.Packed.{State, same_state}
use Rattle.bound_core.specs.Numbers.{raised_at, sunk_at}

not_both : (b : Bool) → b ≡ true → b ≡ false → ⊥
not_both b on off = cc

state_cases : (P : ℕ → Type 0) (s t : State) (x y : ℕ) → (t ≡ s → P x) → (t ≢ s → P y) → P (cond (same_state t s) x y)
state_cases P s t x y here elsewhere = elim (cases_Bool (same_state t s)) [
  | inl on ↦ subst (λ b. P (cond b x y)) (sym on) (here ((bytes_decides t s).0 on))
  | inr off ↦ subst (λ b. P (cond b x y)) (sym off) (elsewhere (λ same. not_both (same_state t s) ((bytes_decides t s).1 same) off))
]

pub raised_here : (s t : State) (x : ℕ) (f : State → ℕ) → t ≡ s → raised_at s x f t ≡ max (f t) x
raised_here s t x f same = state_cases (λ n. n ≡ max (f t) x) s t (max (f t) x) (f t) (λ here. refl) (λ other. absurd (other same))

pub raised_other : (s t : State) (x : ℕ) (f : State → ℕ) → t ≢ s → raised_at s x f t ≡ f t
raised_other s t x f other = state_cases (λ n. n ≡ f t) s t (max (f t) x) (f t) (λ here. absurd (other here)) (λ else. refl)

pub raised_more : (s t : State) (x : ℕ) (f : State → ℕ) → f t ≤ raised_at s x f t
raised_more s t x f = state_cases (λ n. f t ≤ n) s t (max (f t) x) (f t) (λ here. omega arith) (λ other. omega arith)

pub raised_over : (s t : State) (x n : ℕ) (f : State → ℕ) → t ≡ s → n ≤ x → n ≤ raised_at s x f t
raised_over s t x n f same below = let here = raised_here s t x f same in omega arith

pub sunk_here : (s t : State) (x : ℕ) (f : State → ℕ) → t ≡ s → sunk_at s x f t ≡ min (f t) x
sunk_here s t x f same = state_cases (λ n. n ≡ min (f t) x) s t (min (f t) x) (f t) (λ here. refl) (λ other. absurd (other same))

pub sunk_other : (s t : State) (x : ℕ) (f : State → ℕ) → t ≢ s → sunk_at s x f t ≡ f t
sunk_other s t x f other = state_cases (λ n. n ≡ f t) s t (min (f t) x) (f t) (λ here. absurd (other here)) (λ else. refl)

pub sunk_less : (s t : State) (x : ℕ) (f : State → ℕ) → sunk_at s x f t ≤ f t
sunk_less s t x f = state_cases (λ n. n ≤ f t) s t (min (f t) x) (f t) (λ here. omega arith) (λ other. omega arith)

pub sunk_under : (s t : State) (x n : ℕ) (f : State → ℕ) → t ≡ s → x ≤ n → sunk_at s x f t ≤ n
sunk_under s t x n f same below = let here = sunk_here s t x f same in omega arith
