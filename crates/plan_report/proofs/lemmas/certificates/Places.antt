-- Places of numbers that rise, and of texts that differ.
use Rattle.std.proofs.Common.{◌≡◌, ◌≢◌, inl, inr, ℕ, ◌<◌, List, [], ◌∷◌, length, map, get_or, Some, refl, sym, ap, subst, ◌∙◌, arith}
use Rattle.std.specs.Prelude.{Contains, AllPairs, nat_eq}
use Rattle.std.specs.List.{slice_get}
use Rattle.std.specs.Ordering.{nat_cmp, ordering_then}
use Rattle.std.specs.declared.cmp.Ordering.TheVariants.{Less, Equal, Greater}
use Rattle.std.specs.Cmp.Lexicographic.{pointwise, bytes_decides, slice_cmp}
use Rattle.std.proofs.lemmas.Bool.{cases_lt, lt-ltb, le-ltb, eq-eqb, ne_eqb}
use Rattle.std.proofs.lemmas.Option.{slice_get-get_or, slice_get_within, get_or_from_slice_get}
use Rattle.plain_list.proofs.Members.{Contains-first, Contains-later}
use Rattle.ground_step.specs.Names.{place_of}
use Rattle.ground_step.proofs.Names.{position_found, differs}
use Rattle.plan_report.specs.certificates.Tables.{place_in, ArePlaces}

-- ---- texts that differ

pub own_place : (names : List (List ℕ)) → AllPairs (λ x y. x ≢ y) names → (q : ℕ) → q < length names
    → place_of names (get_or names q []) ≡ Some q
own_place names apart q within =
    let text = get_or names q [] in
    position_found (pointwise nat_eq text) names q [] within ((bytes_decides text text).1 refl)
    (λ k below. differs text (get_or names k []) (λ same. apart k q [] below within (sym same)))

-- ---- numbers

cmp_less : (x y : ℕ) → x < y → nat_cmp x y ≡ Less
cmp_less x y less = rw (lt-ltb x y less) refl

cmp_more : (x y : ℕ) → y < x → nat_cmp x y ≡ Greater
cmp_more x y more = rw (le-ltb x y (omega (arith, more)), ne_eqb x y (λ e. omega (arith, e, more))) refl

cmp_same : (x y : ℕ) → x ≡ y → nat_cmp x y ≡ Equal
cmp_same x y same = rw (le-ltb x y (omega (arith, same)), eq-eqb x y same) refl

-- lists are ordered as their images are, where their items are
pub lists_ordered : (f : ℕ → ℕ) (xs ys : List ℕ)
    → ((x y : ℕ) → Contains xs x → Contains ys y → nat_cmp (f x) (f y) ≡ nat_cmp x y)
    → slice_cmp nat_cmp (map f xs) (map f ys) ≡ slice_cmp nat_cmp xs ys
lists_ordered f [] [] each = refl
lists_ordered f [] (y ∷ ys) each = refl
lists_ordered f (x ∷ xs) [] each = refl
lists_ordered f (x ∷ xs) (y ∷ ys) each =
    let first = each x y (Contains-first x xs) (Contains-first y ys) in
    let rest = lists_ordered f xs ys (λ u v h k. each u v (Contains-later x xs u h) (Contains-later y ys v k)) in
    λ j. ordering_then (first j) (rest j)

module _ (numbers places : List ℕ) (rise : AllPairs (λ p q. p < q) numbers) (are : ArePlaces numbers places) where
  pub place_found : (q : ℕ) → Contains numbers q → slice_get numbers (place_in places q) ≡ Some q
  place_found q inside =
      let k = inside.0 in
      let at : slice_get numbers k ≡ Some q = slice_get-get_or numbers k q inside.1 ∙ ap Some inside.2 in
      subst (λ n. slice_get numbers n ≡ Some q) (sym (are k q at)) at

  pub place_within : (q : ℕ) → Contains numbers q → place_in places q < length numbers
  place_within q inside = slice_get_within numbers (place_in places q) q (place_found q inside)

  pub number_there : (q d : ℕ) → Contains numbers q → get_or numbers (place_in places q) d ≡ q
  number_there q d inside = get_or_from_slice_get numbers (place_in places q) q d (place_found q inside)

  pub places_rise : (p q : ℕ) → Contains numbers p → Contains numbers q → p < q → place_in places p < place_in places q
  places_rise p q first second less =
      let i = place_in places p in let j = place_in places q in
      let at_i = number_there p 0 first in let at_j = number_there q 0 second in
      elim (cases_lt i j) [
        | inl below ↦ below
        | inr above ↦ elim (cases_lt j i) [
          | inl over ↦
              let wrong : get_or numbers j 0 < get_or numbers i 0 = rise j i 0 over (place_within p first) in
              absurd (omega arith)
          | inr tied ↦
              let same : i ≡ j = omega (arith, above, tied) in
              let one : get_or numbers i 0 ≡ get_or numbers j 0 = ap (λ n. get_or numbers n 0) same in
              absurd (omega arith)
        ]
      ]

  pub places_ordered : (p q : ℕ) → Contains numbers p → Contains numbers q → nat_cmp (place_in places p) (place_in places q) ≡ nat_cmp p q
  places_ordered p q first second = elim (cases_lt p q) [
    | inl less ↦ cmp_less (place_in places p) (place_in places q) (places_rise p q first second less) ∙ sym (cmp_less p q less)
    | inr not_less ↦ elim (cases_lt q p) [
      | inl more ↦ cmp_more (place_in places p) (place_in places q) (places_rise q p second first more) ∙ sym (cmp_more p q more)
      | inr not_more ↦
          let same : p ≡ q = omega (arith, not_less, not_more) in
          cmp_same (place_in places p) (place_in places q) (ap (place_in places) same) ∙ sym (cmp_same p q same)
    ]
  ]

pub numbers_below : (p q : ℕ) → p < q → nat_cmp p q ≡ Less
numbers_below = cmp_less
