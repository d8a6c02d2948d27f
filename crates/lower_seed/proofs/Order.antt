-- A value that is known from below is at most an upper bound.
use Rattle.std.proofs.Common.{ℕ, ◌*◌, ◌^◌, ◌≤◌, arith}
use Rattle.std.proofs.Math.Nat.{one-le-pow, le_of_mul-le-mul_right}
use Rattle.decision_process.specs.Least.{CoversFromBelow, CoversFromAbove}
use Rattle.ground_model.specs.Packed.{State}
use Rattle.ground_model.specs.Ground.{Ground}
use Rattle.ground_model.specs.Invariant.{IsGroundProblem}
use Rattle.ground_model.specs.Steps.{ground_process}
use Rattle.ground_model.proofs.Steps.{den_positive}

pub in_order : (g : Ground) → IsGroundProblem g → (value upper : ℕ) (s : State) → CoversFromBelow (ground_process g) value s
    → CoversFromAbove (ground_process g) upper s → value ≤ upper
in_order g valid value upper s below above =
    let n : ℕ = below.0 in
    let den : ℕ = (ground_process g).den in
    let scaled : value * (ground_process g).den ^ n ≤ upper * (ground_process g).den ^ n = (let low = below.1 in let high = above n in omega arith) in
    le_of_mul-le-mul_right scaled (one-le-pow n (ground_process g).den (den_positive g valid))
