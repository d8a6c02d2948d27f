-- Sums over the first members of a list.
use Rattle.std.proofs.Common.{◌≡◌, ℕ, suc, zero, ◌+◌, ◌<◌, ◌≤◌, List, [], ◌∷◌, ◌++◌, length, take, get_or, ap, ◌∙◌, sym, arith}
use Rattle.std.proofs.lemmas.List.{take_more}
use Rattle.plain_list.specs.weighted.Mean.{total}
use Rattle.plain_list.proofs.lemmas.weighted.Totals.{total-append}

module _ {X : Type 0} (f : X → ℕ) where
  pub total_more : (xs : List X) (i : ℕ) (x : X) → i < length xs → x ≡ get_or xs i x → total f (take (i + 1) xs) ≡ total f (take i xs) + f x
  total_more xs i x within is =
      ap (total f) (take_more xs i x within ∙ ap (λ y. take i xs ++ y ∷ []) (sym is))
      ∙ total-append f (take i xs) (x ∷ [])
      ∙ (let one : f x + 0 ≡ f x = omega arith in ap (λ n. total f (take i xs) + n) one)

  pub total_part : (xs : List X) (i : ℕ) → total f (take i xs) ≤ total f xs
  total_part xs zero = omega arith
  total_part [] (suc i) = omega arith
  total_part (x ∷ xs) (suc i) = (let rest = total_part xs i in omega (arith, rest))
