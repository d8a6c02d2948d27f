-- The laws of weighted lists, as statements.
-- Of totals:
--     TotalOfAppend            over a list in two parts
--     TotalOfMap               over a mapped list
--     TotalOfSum               of a sum of functions
--     TotalOfMultiple          of a multiple of a function
--     TotalOfSame              of a function with the same values
--     TotalOfSmaller           of a function with values that are at most as great
-- Of the mean of a list with weights w and keys key:
--     MeanOfSum                of a sum of values
--     MeanOfMultiple           of a multiple of the values
--     MeanOfConstant           of a constant value
--     MeanOfScaled             where each weight is multiplied by a number, so is the mean
--     MeanOfReduced            where a common divisor of the weights is divided out, it leaves the mean
--     MeanOfProducts           the mean of the products of two lists is the mean of the means
--     MeanOfMerged             merging like items keeps the mean
--     MeanOfPositive           and so does dropping the items of weight 0
--     TotalOfProducts, TotalOfMerged, TotalOfPositive
--                              what each of these makes of the total weight
--     LengthOfMerging          merging a list into another makes this no shorter, and longer by at most the list's length
-- Of lists that are alike, each over its denominator:
--     AlikeIsSymmetric         where one is like another, the other is like the one
--     AlikeIsTransitive        two lists that are like a third are alike, if its denominator is not 0
--     AlikeScaled              a list with weights and denominator multiplied by a number is alike
--     AlikeReduced             and so is one with weights and denominator divided by a common divisor
--     AlikeProducts            products of alike lists are alike
--     AlikeFromChances         lists that give each key the same chance are alike
--     AlikeIsBelow             a function that is at most another at items with one key has no greater expectation
--     AlikeHasMember           an item with a weight has an item with its key and a weight in the other list
use Rattle.std.specs.Prelude.{◌≡◌, ℕ, ◌+◌, ◌*◌, ◌<◌, ◌≤◌, Bool, List, ◌++◌, map, length, Contains}
use Rattle.plain_list.specs.weighted.Mean.{total, mean, IsAlike, products, positive}
use Rattle.plain_list.specs.weighted.Merged.{with_items, merged}
use Rattle.plain_list.specs.weighted.Operations.{IsProduct, IsScaled, IsReduced, IsMerge}
use Rattle.plain_list.specs.weighted.Chances.{IsExact, SameChances}

-- ---- totals

abbrev pub TotalOfAppend : Type 0 → Type 0
TotalOfAppend C = (f : C → ℕ) (xs ys : List C) → total f (xs ++ ys) ≡ total f xs + total f ys

abbrev pub TotalOfMap : Type 0 → Type 0 → Type 0
TotalOfMap C D = (f : D → ℕ) (g : C → D) (xs : List C)
    → total f (map g xs) ≡ total (λ c. f (g c)) xs

abbrev pub TotalOfSum : Type 0 → Type 0
TotalOfSum C = (f g : C → ℕ) (xs : List C) → total (λ c. f c + g c) xs ≡ total f xs + total g xs

abbrev pub TotalOfMultiple : Type 0 → Type 0
TotalOfMultiple C = (f : C → ℕ) (k : ℕ) (xs : List C) → total (λ c. f c * k) xs ≡ total f xs * k

abbrev pub TotalOfSame : Type 0 → Type 0
TotalOfSame C = (f g : C → ℕ) (xs : List C)
    → ((c : C) → Contains xs c → f c ≡ g c) → total f xs ≡ total g xs

abbrev pub TotalOfSmaller : Type 0 → Type 0
TotalOfSmaller C = (f g : C → ℕ) (xs : List C)
    → ((c : C) → Contains xs c → f c ≤ g c) → total f xs ≤ total g xs

-- ---- means

module _ (C X : Type 0) where
  abbrev pub MeanOfSum : Type 0
  MeanOfSum = (w : C → ℕ) (key : C → X) (v u : X → ℕ) (xs : List C)
      → mean w key (λ x. v x + u x) xs ≡ mean w key v xs + mean w key u xs

  abbrev pub MeanOfMultiple : Type 0
  MeanOfMultiple = (w : C → ℕ) (key : C → X) (v : X → ℕ) (k : ℕ) (xs : List C)
      → mean w key (λ x. v x * k) xs ≡ mean w key v xs * k

  abbrev pub MeanOfConstant : Type 0
  MeanOfConstant = (w : C → ℕ) (key : C → X) (k : ℕ) (xs : List C)
      → mean w key (λ x. k) xs ≡ total w xs * k

  abbrev pub MeanOfProducts : Type 0
  MeanOfProducts = (w : C → ℕ) (key : C → X) (join : C → C → C) (combine : X → X → X)
      → IsProduct w key join combine → (v : X → ℕ) (xs ys : List C)
      → mean w key v (products join xs ys)
      ≡ mean w key (λ x. mean w key (λ y. v (combine x y)) ys) xs

  abbrev pub MeanOfMerged : Type 0
  MeanOfMerged = (w : C → ℕ) (key : C → X) (like : C → C → Bool) (merge : C → C → C)
      → IsMerge w key like merge → (v : X → ℕ) (xs : List C)
      → mean w key v (merged like merge xs) ≡ mean w key v xs

  abbrev pub MeanOfPositive : Type 0
  MeanOfPositive = (w : C → ℕ) (key : C → X) (v : X → ℕ) (xs : List C)
      → mean w key v (positive w xs) ≡ mean w key v xs

  abbrev pub TotalOfProducts : Type 0
  TotalOfProducts = (w : C → ℕ) (key : C → X) (join : C → C → C) (combine : X → X → X)
      → IsProduct w key join combine → (xs ys : List C)
      → total w (products join xs ys) ≡ total w xs * total w ys

  abbrev pub TotalOfMerged : Type 0
  TotalOfMerged = (w : C → ℕ) (key : C → X) (like : C → C → Bool) (merge : C → C → C)
      → IsMerge w key like merge → (xs : List C) → total w (merged like merge xs) ≡ total w xs

abbrev pub TotalOfPositive : Type 0 → Type 0
TotalOfPositive C = (w : C → ℕ) (xs : List C) → total w (positive w xs) ≡ total w xs

abbrev pub LengthOfMerging : Type 0 → Type 0
LengthOfMerging C = (like : C → C → Bool) (merge : C → C → C) (xs ys : List C)
    → (length xs ≤ length (with_items like merge xs ys))
    × (length (with_items like merge xs ys) ≤ length xs + length ys)

module _ (C D X : Type 0) where
  abbrev pub MeanOfScaled : Type 0
  MeanOfScaled = (w : C → ℕ) (key : C → X) (w' : D → ℕ) (key' : D → X)
      → (k : ℕ) (g : C → D) (xs : List C) → IsScaled w key w' key' k g xs
      → (v : X → ℕ) → mean w' key' v (map g xs) ≡ mean w key v xs * k

  abbrev pub MeanOfReduced : Type 0
  MeanOfReduced = (w : C → ℕ) (key : C → X) (w' : D → ℕ) (key' : D → X)
      → (k : ℕ) (g : C → D) (xs : List C) → IsReduced w key w' key' k g xs
      → (v : X → ℕ) → mean w' key' v (map g xs) * k ≡ mean w key v xs

  -- ---- lists that are alike

  abbrev pub AlikeIsSymmetric : Type 0
  AlikeIsSymmetric = (w : C → ℕ) (key : C → X) (w' : D → ℕ) (key' : D → X)
      → (l : List C) (den : ℕ) (l' : List D) (den' : ℕ)
      → IsAlike w key w' key' l den l' den' → IsAlike w' key' w key l' den' l den

  abbrev pub AlikeScaled : Type 0
  AlikeScaled = (w : C → ℕ) (key : C → X) (w' : D → ℕ) (key' : D → X)
      → (k : ℕ) (g : C → D) (l : List C) (den : ℕ) → IsScaled w key w' key' k g l
      → IsAlike w key w' key' l den (map g l) (den * k)

  abbrev pub AlikeReduced : Type 0
  AlikeReduced = (w : C → ℕ) (key : C → X) (w' : D → ℕ) (key' : D → X)
      → (k : ℕ) (g : C → D) (l : List C) (den' : ℕ) → IsReduced w key w' key' k g l
      → IsAlike w key w' key' l (den' * k) (map g l) den'

  abbrev pub AlikeProducts : Type 0
  AlikeProducts = (w : C → ℕ) (key : C → X) (w' : D → ℕ) (key' : D → X)
      → (join : C → C → C) (join' : D → D → D) (combine : X → X → X)
      → IsProduct w key join combine → IsProduct w' key' join' combine
      → (xs ys : List C) (d e : ℕ) (xs' ys' : List D) (d' e' : ℕ)
      → IsAlike w key w' key' xs d xs' d' → IsAlike w key w' key' ys e ys' e'
      → IsAlike w key w' key' (products join xs ys) (d * e) (products join' xs' ys') (d' * e')

  abbrev pub AlikeFromChances : Type 0
  AlikeFromChances = (w : C → ℕ) (key : C → X) (w' : D → ℕ) (key' : D → X)
      → (same : X → X → Bool) → IsExact same
      → (l : List C) (den : ℕ) (l' : List D) (den' : ℕ)
      → SameChances w key w' key' same l den l' den' → IsAlike w key w' key' l den l' den'

  abbrev pub AlikeIsBelow : Type 0
  AlikeIsBelow = (w : C → ℕ) (key : C → X) (w' : D → ℕ) (key' : D → X)
      → (same : X → X → Bool) → IsExact same
      → (l : List C) (den : ℕ) (l' : List D) (den' : ℕ) → IsAlike w key w' key' l den l' den'
      → (f : C → ℕ) (g : D → ℕ)
      → ((c : C) (d : D) → Contains l c → Contains l' d → key c ≡ key' d → f c ≤ g d)
      → total (λ c. w c * f c) l * den' ≤ total (λ d. w' d * g d) l' * den

  abbrev pub AlikeHasMember : Type 0
  AlikeHasMember = (w : C → ℕ) (key : C → X) (w' : D → ℕ) (key' : D → X)
      → (same : X → X → Bool) → IsExact same
      → (l : List C) (den : ℕ) (l' : List D) (den' : ℕ) → IsAlike w key w' key' l den l' den'
      → 0 < den' → (c : C) → Contains l c → 0 < w c
      → (d : D) × Contains l' d × (key c ≡ key' d) × (0 < w' d)

abbrev pub AlikeIsTransitive : Type 0 → Type 0 → Type 0 → Type 0 → Type 0
AlikeIsTransitive C D E X = (w : C → ℕ) (key : C → X) (w' : D → ℕ) (key' : D → X)
    → (w'' : E → ℕ) (key'' : E → X)
    → (l : List C) (den : ℕ) (l' : List D) (den' : ℕ) (l'' : List E) (den'' : ℕ) → 0 < den'
    → IsAlike w key w' key' l den l' den' → IsAlike w' key' w'' key'' l' den' l'' den''
    → IsAlike w key w'' key'' l den l'' den''
