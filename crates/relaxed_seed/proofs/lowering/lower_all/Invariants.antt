-- The prices were lowered by the atoms so far.
use Rattle.std.proofs.Common.{◌≡◌, ◌≤◌, ℕ, length, take}
use Rattle.relaxed_seed.specs.Lowering.{IsLowered}
use Rattle.relaxed_seed.proofs.Lowered.{AllowEach}
use Rattle.relaxed_seed.proofs.lowering.lower_all.Given as goal

abbrev pub invariant-loop-atom : goal.invariant-loop-atom
invariant-loop-atom l = (length l.prices ≡ length l.fn.prices) × ((penalty : ℕ)
    → IsLowered penalty (AllowEach penalty (λ (q : ℕ) (r : ℕ → ℕ). r q ≤ l.limit) (take l.atom-index l.atoms)) l.fn.prices l.prices l.fell)
