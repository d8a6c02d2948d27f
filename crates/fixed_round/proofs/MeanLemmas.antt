-- The weighted sum over outcomes, one at a time, and its bound.
use Rattle.std.proofs.Common.{◌≡◌, ℕ, ◌+◌, ◌*◌, ◌<◌, ◌≤◌, List, [], ◌∷◌, ◌++◌, length, get_or, take, ◌∙◌, arith}
use Rattle.std.proofs.lemmas.List.{take_more, length-take-le}
use Rattle.std.specs.Int.{div_ceil}
use Rattle.std.proofs.lemmas.Grind.{div_ceil_times}
use Rattle.std.proofs.Math.Nat.{lt_of_mul-lt-mul_right}
use Rattle.fixed_round.specs.Means.{weighted}

weighted-push : (ws cs vs : List ℕ) (w c v : ℕ) → length cs ≡ length ws → length vs ≡ length ws → weighted (ws ++ w ∷ []) (cs ++ c ∷ []) (vs ++ v ∷ []) ≡ weighted ws cs vs + w * (c + v)
weighted-push [] [] [] w c v p q = omega arith
weighted-push (x ∷ ws) (y ∷ cs) (z ∷ vs) w c v p q =
    let rest = weighted-push ws cs vs w c v (omega arith) (omega arith) in
    omega arith
weighted-push [] (y ∷ cs) vs w c v p q = absurd (omega arith)
weighted-push [] [] (z ∷ vs) w c v p q = absurd (omega arith)
weighted-push (x ∷ ws) [] vs w c v p q = absurd (omega arith)
weighted-push (x ∷ ws) (y ∷ cs) [] w c v p q = absurd (omega arith)

-- one outcome more
pub weighted_more : (ws cs vs : List ℕ) (i : ℕ) → length cs ≡ length ws → length vs ≡ length ws → i < length ws → weighted (take (i + 1) ws) (take (i + 1) cs) (take (i + 1) vs) ≡ weighted (take i ws) (take i cs) (take i vs) + get_or ws i 0 * (get_or cs i 0 + get_or vs i 0)
weighted_more ws cs vs i p q h =
    let p' : i < length cs = omega arith in
    let q' : i < length vs = omega arith in
    let ws_taken = length-take-le i ws (omega arith) in
    let cs_taken = length-take-le i cs (omega arith) in
    let vs_taken = length-take-le i vs (omega arith) in
    let grown : weighted (take (i + 1) ws) (take (i + 1) cs) (take (i + 1) vs) ≡ weighted (take i ws ++ get_or ws i 0 ∷ []) (take i cs ++ get_or cs i 0 ∷ []) (take i vs ++ get_or vs i 0 ∷ []) =
    λ k. weighted (take_more ws i 0 h k) (take_more cs i 0 p' k) (take_more vs i 0 q' k)
    in
    grown ∙ weighted-push (take i ws) (take i cs) (take i vs) (get_or ws i 0) (get_or cs i 0) (get_or vs i 0) (omega arith) (omega arith)

pub div_ceil-le : (total den most : ℕ) → 0 < den → total ≤ den * most → div_ceil total den ≤ most
div_ceil-le total den most some le =
    let ceiling = div_ceil_times total den some in
    let below : div_ceil total den * den < (most + 1) * den = omega arith in
    omega (arith, lt_of_mul-lt-mul_right den below)
