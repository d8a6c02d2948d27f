-- Lists of distinct items.
use Rattle.std.proofs.Common.{◌≡◌, ◌≢◌, ℕ, zero, suc, ◌+◌, ◌≤◌, ◌<◌, ◌⊎◌, inl, inr, ⊎_elim, List, [], ◌∷◌, ◌++◌, length, map, take, drop, refl, sym, ap, ◌∙◌, subst, arith, append_assoc, slice_index_or}
use Rattle.std.specs.Prelude.{AllPairs, Contains}
use Rattle.std.proofs.lemmas.List.{take_more, take-append-drop}
use Rattle.std.proofs.lemmas.List.Elements.{Contains-get_or, Contains-append_right}
use Rattle.std.proofs.lemmas.List.Quantifiers.{all_pairs_push}
use mathlib.Core.List.{map-append}
use Rattle.plain_list.proofs.Members.{Contains-first, Contains-later, Contains-cons_cases, Contains-nil, Contains-map_cases}
use Rattle.plain_list.proofs.Related.{AllPairs-head, AllPairs-tail}
use Rattle.trial_workers.specs.explorer.Found.{IsAdded}

abbrev pub AreDistinct : {X : Type 0} → List X → Type 0
AreDistinct {X} xs = AllPairs (λ (x y : X). x ≢ y) xs

module _ {X : Type 0} where
  -- a list without one of its members
  take_out : (few : List X) (x : X) → Contains few x
      → (rest : List X) × (length few ≡ suc (length rest)) × ((y : X) → Contains few y → (x ≡ y) ⊎ Contains rest y)
  take_out [] x inside = absurd (Contains-nil x inside)
  take_out (z ∷ zs) x inside = elim (Contains-cons_cases z zs x inside) [
    | inl same ↦ (zs, refl, λ y h. ⊎_elim (λ e. inl (sym same ∙ e)) inr (Contains-cons_cases z zs y h))
    | inr later ↦ let r = take_out zs x later in (
      z ∷ r.0,
      ap suc r.1,
      λ y h. ⊎_elim (λ e. inr (subst (Contains (z ∷ r.0)) e (Contains-first z r.0)))
          (λ i. ⊎_elim inl (λ j. inr (Contains-later z r.0 y j)) (r.2 y i)) (Contains-cons_cases z zs y h),
    )
  ]

  -- distinct items that all stand in a list are no more than it has
  pub distinct_within : (xs few : List X) → AreDistinct xs → ((x : X) → Contains xs x → Contains few x) → length xs ≤ length few
  distinct_within [] few d within = omega arith
  distinct_within (x ∷ xs) few d within =
      let r = take_out few x (within x (Contains-first x xs)) in
      let rest : length xs ≤ length r.0 =
      distinct_within xs r.0 (AllPairs-tail (λ (a b : X). a ≢ b) x xs d)
      (λ y h. ⊎_elim (λ e. absurd (AllPairs-head (λ (a b : X). a ≢ b) x xs d y h e)) (λ i. i) (r.2 y (within y (Contains-later x xs y h)))) in
      omega (arith, r.1)

  distinct_push : (xs : List X) (x : X) → AreDistinct xs → (Contains xs x → ⊥) → AreDistinct (xs ++ x ∷ [])
  distinct_push xs x d new = all_pairs_push (λ (a b : X). a ≢ b) xs x d (λ k e below same. new (subst (Contains xs) same (Contains-get_or xs k e below)))

  pub distinct_added : (old new : List X) (x : X) → AreDistinct old → IsAdded old new x → AreDistinct new
  distinct_added old new x d added = ⊎_elim (λ t. subst AreDistinct (sym t.0) d) (λ t. subst AreDistinct (sym t.0) (distinct_push old x d t.1)) added

  -- an item is not among those before it
  distinct_before : (xs : List X) (y : X) (zs : List X) → AreDistinct (xs ++ y ∷ zs) → Contains xs y → ⊥
  distinct_before [] y zs d inside = Contains-nil y inside
  distinct_before (x ∷ xs) y zs d inside = ⊎_elim
      (λ same. AllPairs-head (λ (a b : X). a ≢ b) x (xs ++ y ∷ zs) d y (Contains-append_right xs (y ∷ zs) y (Contains-first y zs)) same)
      (λ later. distinct_before xs y zs (AllPairs-tail (λ (a b : X). a ≢ b) x (xs ++ y ∷ zs) d) later)
      (Contains-cons_cases x xs y inside)

module _ {C X : Type 0} (f : C → X) where
  pub distinct_images : (xs : List C) → AllPairs (λ (x y : C). f x ≢ f y) xs → AreDistinct (map f xs)
  distinct_images [] h i j d lt within = absurd (omega arith)
  distinct_images (x ∷ xs) h i zero d lt within = absurd (omega arith)
  distinct_images (x ∷ xs) h zero (suc j) d lt within = λ same.
      let below : j < length (map f xs) = omega arith in
      let r = Contains-map_cases f xs (slice_index_or (map f xs) j d) (Contains-get_or (map f xs) j d below) in
      AllPairs-head (λ (a b : C). f a ≢ f b) x xs h r.0 r.1 (same ∙ sym r.2)
  distinct_images (x ∷ xs) h (suc i) (suc j) d lt within =
      distinct_images xs (AllPairs-tail (λ (a b : C). f a ≢ f b) x xs h) i j d (omega arith) (omega arith)

  -- one more of distinct items is added
  pub distinct_more : (xs : List C) (i : ℕ) (d : C) (b c : List X) → i < length xs → AllPairs (λ (x y : C). f x ≢ f y) xs
      → b ≡ map f (take i xs) → IsAdded b c (f (slice_index_or xs i d)) → c ≡ map f (take (i + 1) xs)
  distinct_more xs i d b c within differ is added =
      let x : C = slice_index_or xs i d in
      let e : map f (take (i + 1) xs) ≡ map f (take i xs) ++ f x ∷ [] = ap (map f) (take_more xs i d within) ∙ map-append f (take i xs) (x ∷ []) in
      let whole : map f xs ≡ map f (take i xs) ++ f x ∷ map f (drop (i + 1) xs)
      = sym (ap (map f) (take-append-drop (i + 1) xs)) ∙ (map-append f (take (i + 1) xs) (drop (i + 1) xs)
      ∙ (ap (λ l. l ++ map f (drop (i + 1) xs)) e ∙ append_assoc (map f (take i xs)) (f x ∷ []) (map f (drop (i + 1) xs)))) in
      let new : Contains b (f x) → ⊥ = subst (λ l. Contains l (f x) → ⊥) (sym is)
      (distinct_before (map f (take i xs)) (f x) (map f (drop (i + 1) xs)) (subst AreDistinct whole (distinct_images xs differ))) in
      ⊎_elim (λ t. absurd (new t.1)) (λ t. t.0 ∙ (ap (λ l. l ++ f x ∷ []) is ∙ sym e)) added
