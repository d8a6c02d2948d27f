-- Lists that grow by one item at their end.
use Rattle.std.proofs.Common.{◌≡◌, ◌≢◌, ◌⊎◌, inl, inr, ℕ, suc, zero, ◌+◌, ◌<◌, ◌≤◌, true, false, ◌||◌, List, [], ◌∷◌, ◌++◌, Bool, Some, length, take, map, get_or, refl, sym, ap, subst, ◌∙◌, arith}
use Rattle.std.specs.Prelude.{AllPairs, Contains}
use Rattle.std.specs.List.{list_any, slice_get}
use Rattle.std.proofs.lemmas.Bool.{cases_Bool, cases_lt, true≢false}
use Rattle.std.proofs.lemmas.List.{get_or-map, get_or-take, get_or_append_left, get_or_default, length-append, length-map, length-take-le}
use Rattle.std.proofs.Math.Seq.{get_or-append_seam}
use Rattle.std.proofs.lemmas.Option.{get_or_from_slice_get}
use Rattle.plain_list.specs.weighted.Chances.{IsExact}
use Rattle.plain_list.proofs.Members.{Contains-first, Contains-later, Contains-cons_cases, Contains-nil}

module _ {X : Type 0} where
  -- an item keeps its place
  pub at_left : (xs ys : List X) (i : ℕ) (x : X) → slice_get xs i ≡ Some x → slice_get (xs ++ ys) i ≡ Some x
  at_left [] ys i x at = absurd cc
  at_left (z ∷ xs) ys zero x at = at
  at_left (z ∷ xs) ys (suc i) x at = at_left xs ys i x at

  -- an item stood there before, or is the last
  pub at_end : (xs : List X) (y : X) (i : ℕ) (x : X) → slice_get (xs ++ y ∷ []) i ≡ Some x
      → ((slice_get xs i ≡ Some x) × (take i (xs ++ y ∷ []) ≡ take i xs))
      ⊎ ((i ≡ length xs) × (y ≡ x) × (take i (xs ++ y ∷ []) ≡ xs))
  at_end [] y zero x at = inr (refl, get_or_from_slice_get (y ∷ []) 0 x y at, refl)
  at_end [] y (suc i) x at = absurd cc
  at_end (z ∷ xs) y zero x at = inl (at, refl)
  at_end (z ∷ xs) y (suc i) x at = elim (at_end xs y i x at) [
    | inl before ↦ inl (before.0, ap (λ l. z ∷ l) before.1)
    | inr last ↦ inr (ap suc last.0, last.1, ap (λ l. z ∷ l) last.2)
  ]

  -- items that differ, and one that is none of them
  pub differ_more : (xs : List X) (y : X) → AllPairs (λ a b. a ≢ b) xs → (Contains xs y → ⊥)
      → AllPairs (λ a b. a ≢ b) (xs ++ y ∷ [])
  differ_more xs y apart none = λ i j d below within same.
      let long : length (xs ++ y ∷ []) ≡ length xs + length (y ∷ []) = length-append xs (y ∷ []) in
      let here : i < length xs = omega (arith, below, within, long) in
      let left = sym (get_or_append_left xs (y ∷ []) d i here) ∙ same in
      elim (cases_lt j (length xs)) [
        | inl before ↦ apart i j d below before (left ∙ get_or_append_left xs (y ∷ []) d j before)
        | inr past ↦
            let last : j ≡ length xs = omega (arith, past, within, long) in
            none (i, here, get_or_default xs i y d here ∙ left ∙ ap (λ k. get_or (xs ++ y ∷ []) k d) last ∙ get_or-append_seam xs y [] d)
      ]

  -- of items that differ, one in a place is none of those before it
  pub not_before : (xs : List X) → AllPairs (λ a b. a ≢ b) xs → (k i : ℕ) (x : X) → k ≤ i → i < length xs
      → get_or xs i x ≡ x → Contains (take k xs) x → ⊥
  not_before xs apart k i x past within at (j, short, found) =
      let few : length (take k xs) ≡ k = length-take-le k xs (omega arith) in
      let below : j < k = omega (arith, short, few) in
      apart j i x (omega arith) within (sym (get_or-take k xs j x below) ∙ found ∙ sym at)

  module _ (same : X → X → Bool) (exact : IsExact same) where
    pub any_in : (xs : List X) (x : X) → list_any (same x) xs ≡ true → Contains xs x
    any_in [] x some = absurd cc
    any_in (y ∷ xs) x some = elim (cases_Bool (same x y)) [
      | inl on ↦ subst (Contains (y ∷ xs)) (sym ((exact x y).0 on)) (Contains-first y xs)
      | inr off ↦ Contains-later y xs x (any_in xs x (sym (ap (λ b. b || list_any (same x) xs) off) ∙ some))
    ]

    pub none_in : (xs : List X) (x : X) → list_any (same x) xs ≡ false → Contains xs x → ⊥
    none_in [] x none inside = Contains-nil x inside
    none_in (y ∷ xs) x none inside = elim (cases_Bool (same x y)) [
      | inl on ↦ true≢false (sym (ap (λ b. b || list_any (same x) xs) on) ∙ none)
      | inr off ↦ elim (Contains-cons_cases y xs x inside) [
        | inl here ↦ true≢false (sym ((exact x y).1 (sym here)) ∙ off)
        | inr later ↦ none_in xs x (sym (ap (λ b. b || list_any (same x) xs) off) ∙ none) later
      ]
    ]

    pub in_or_out : (xs : List X) (x : X) → Contains xs x ⊎ (Contains xs x → ⊥)
    in_or_out xs x = elim (cases_Bool (list_any (same x) xs)) [
      | inl some ↦ inl (any_in xs x some)
      | inr none ↦ inr (none_in xs x none)
    ]

-- images that differ, of what holds them
pub images_differ : {X Y : Type 0} (f : X → Y) (xs : List X) (d : X) → AllPairs (λ a b. f a ≢ f b) xs
    → AllPairs (λ a b. a ≢ b) (map f xs)
images_differ f xs d apart = λ i j e below within same.
    let here : j < length xs = omega (arith, within, length-map xs f) in
    let before : i < length xs = omega (arith, below, here) in
    apart i j d below here (sym (get_or-map f xs i d e before) ∙ same ∙ get_or-map f xs j d e here)
