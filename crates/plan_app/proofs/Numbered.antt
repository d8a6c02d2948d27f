-- Things that are made one number after another.
use Rattle.std.proofs.Common.{◌≡◌, ℕ, ◌+◌, ◌++◌, ◌∷◌, [], map, ap, ◌∙◌, arith}
use Rattle.std.specs.List.{range_with_len}
use mathlib.Core.List.{map-append}
use Rattle.ground_step.proofs.Ranges.{range-append}

pub one_more : {X : Type 0} (f : ℕ → X) (n : ℕ) → map f (range_with_len 0 (n + 1)) ≡ map f (range_with_len 0 n) ++ f n ∷ []
one_more f n =
    let here : 0 + n ≡ n = omega arith in
    ap (map f) (range-append 0 n 1 ∙ ap (λ k. range_with_len 0 n ++ k ∷ []) here) ∙ map-append f (range_with_len 0 n) (n ∷ [])
