-- How long lists of joint choices are: merging makes none longer, and a product is as long as the product of the lengths.
use Rattle.std.proofs.Common.{◌≡◌, ℕ, suc, ◌*◌, ◌≤◌, true, false, List, [], ◌∷◌, length, map, arith}
use Rattle.std.specs.Prelude.{nat_eq}
use Rattle.std.proofs.Math.Nat.{mul-le-mul}
use Rattle.std.proofs.lemmas.List.{length-append, length-map}
use Rattle.plain_list.specs.weighted.Mean.{products, positive}
use Rattle.plain_list.proofs.lemmas.weighted.Merging.{length-with_items}
use Rattle.ground_model.specs.declared.action.Choice.{Choice}
use Rattle.ground_meaning.specs.choices.Same.{same_choice}
use Rattle.ground_meaning.specs.choices.Joint.{weight_of, idle, joined, added, merged, with_factor, product_of}
use Rattle.ground_meaning.specs.choices.Limits.{widest_product}

length-positive : (cs : List Choice) → length (positive weight_of cs) ≤ length cs
length-positive [] = omega arith
length-positive (c ∷ cs) =
    let rest : length (positive weight_of cs) ≤ length cs = length-positive cs in
    elim (nat_eq c.weight 0)
    as (λ none. length {A = Choice} (elim none [ true ↦ positive weight_of cs | false ↦ c ∷ positive weight_of cs ]) ≤ suc (length cs)) [
      | true ↦ omega (arith, rest)
      | false ↦ omega (arith, rest)
    ]

pub length-merged : (cs : List Choice) → length (merged cs) ≤ length cs
length-merged cs = omega (arith, (length-with_items same_choice added [] (positive weight_of cs)).1, length-positive cs)

length-products : (xs ys : List Choice) → length (products joined xs ys) ≡ length xs * length ys
length-products [] ys = omega arith
length-products (x ∷ xs) ys =
    omega (arith, length-append (map (joined x) ys) (products joined xs ys), length-map ys (joined x), length-products xs ys)

pub length-factor : (m k : ℕ) (xs ys : List Choice) → length xs ≤ m → length ys ≤ k → length (with_factor xs ys) ≤ m * k
length-factor m k xs ys left right =
    omega (arith, length-merged (products joined xs ys), length-products xs ys, mul-le-mul left right)

-- ---- products of two lists

module _ (k : ℕ) (xs ys : List Choice) (left : length xs ≤ 1) (right : length ys ≤ k) where
  first : length (with_factor (idle 1 ∷ []) xs) ≤ 1
  first = length-factor 1 1 (idle 1 ∷ []) xs (omega arith) left

  both : length (with_factor (with_factor (idle 1 ∷ []) xs) ys) ≤ k
  both = omega (arith, length-factor 1 k (with_factor (idle 1 ∷ []) xs) ys first right)

  pub length-product : length (product_of (xs ∷ ys ∷ [])) ≤ k
  length-product = both

  pub widest-product : 1 ≤ k → widest_product (xs ∷ ys ∷ []) ≤ k
  widest-product some = omega (arith, first, both)

pub widest-single : (k : ℕ) (xs : List Choice) → length xs ≤ k → widest_product (xs ∷ []) ≤ k
widest-single k xs few = omega (arith, length-factor 1 k (idle 1 ∷ []) xs (omega arith) few)
