-- A sorted list whose members have different keys rises by their keys.
use Rattle.std.proofs.Common.{◌≡◌, ◌≢◌, inl, inr, ℕ, suc, ◌+◌, ◌≤◌, true, false, cond, List, [], ◌∷◌, map, get_or, refl, sym, ap, subst, ◌∙◌, arith, Ordering}
use Rattle.std.specs.Prelude.{Contains, AllPairs, nat_eq, IsSorted}
use Rattle.std.specs.List.{sum_by}
use Rattle.std.specs.List.Sorted.{IsPermutation}
use Rattle.std.specs.Ordering.{is_lt, ordering_reverse}
use Rattle.std.specs.declared.cmp.Ordering.TheVariants.{Less, Equal, Greater}
use Rattle.std.specs.Cmp.Lexicographic.{pointwise, bytes_decides, nat_list_cmp_total}
use Rattle.std.proofs.lemmas.Bool.{cases_Bool, true≢false}
use Rattle.std.proofs.lemmas.List.Sorted.{sum_by-IsPermutation}
use Rattle.std.proofs.lemmas.List.Sums.{sum_by-cons}
use Rattle.plain_list.specs.Texts.{compare_texts, rises, rises_behind}
use Rattle.plain_list.proofs.Members.{Contains-first, Contains-later}
use Rattle.plain_list.proofs.Related.{AllPairs-head, AllPairs-tail}
use Rattle.certificate.proofs.Sorted.{equal_is}
use Rattle.ground_step.proofs.Names.{differs}
use Rattle.plan_report.proofs.lemmas.certificates.Lists.{both}

not_below : (o : Ordering) (x y : List ℕ) → compare_texts x y ≡ o → is_lt (compare_texts y x) ≡ false → x ≢ y → compare_texts x y ≡ Less
not_below Less x y e below apart = e
not_below Equal x y e below apart = absurd (apart (equal_is x y e))
not_below Greater x y e below apart =
    let less : compare_texts y x ≡ Less = nat_list_cmp_total.antisymm y x ∙ ap ordering_reverse e in
    absurd (true≢false (sym (ap is_lt less) ∙ below))

pub below_from_sorted : (x y : List ℕ) → is_lt (compare_texts y x) ≡ false → x ≢ y → compare_texts x y ≡ Less
below_from_sorted x y = not_below (compare_texts x y) x y refl

-- ---- how many members have a key

module _ {X : Type 0} (key : X → List ℕ) where
  abbrev pub at_key : List ℕ → X → ℕ
  at_key k x = cond (pointwise nat_eq (key x) k) 1 0

  counted : (k : List ℕ) (x : X) → key x ≡ k → at_key k x ≡ 1
  counted k x same = ap (λ b. cond b 1 0) ((bytes_decides (key x) k).1 same)

  not_counted : (k : List ℕ) (x : X) → key x ≢ k → at_key k x ≡ 0
  not_counted k x apart = ap (λ b. cond b 1 0) (differs (key x) k apart)

  none_at : (k : List ℕ) (xs : List X) → ((x : X) → Contains xs x → key x ≢ k) → sum_by (at_key k) xs ≡ 0
  none_at k [] apart = refl
  none_at k (x ∷ xs) apart =
      let a = sum_by-cons (at_key k) x xs in
      let b = not_counted k x (apart x (Contains-first x xs)) in
      let c = none_at k xs (λ y inside. apart y (Contains-later x xs y inside)) in omega arith

  abbrev pub AreOnce : List X → Type 0
  AreOnce xs = (k : List ℕ) → sum_by (at_key k) xs ≤ 1

  pub once_from_pairs : (xs : List X) → AllPairs (λ x y. key x ≢ key y) xs → AreOnce xs
  once_from_pairs [] pairs k = omega arith
  once_from_pairs (x ∷ xs) pairs k =
      let a = sum_by-cons (at_key k) x xs in elim (cases_Bool (pointwise nat_eq (key x) k)) [
        | inl on ↦
            let same : key x ≡ k = (bytes_decides (key x) k).0 on in
            let b = counted k x same in
            let c = none_at k xs (λ y inside here. AllPairs-head (λ (u v : X). key u ≢ key v) x xs pairs y inside (same ∙ sym here)) in
            omega arith
        | inr off ↦
            let b : at_key k x ≡ 0 = ap (λ b. cond b 1 0) off in
            let c = once_from_pairs xs (AllPairs-tail (λ (u v : X). key u ≢ key v) x xs pairs) k in
            omega arith
      ]

  pub once_permuted : (xs ys : List X) → IsPermutation xs ys → AreOnce xs → AreOnce ys
  once_permuted xs ys moved once k = (let a = sum_by-IsPermutation (at_key k) xs ys moved in let b = once k in omega arith)

  apart_first : (x y : X) (ys : List X) → AreOnce (x ∷ y ∷ ys) → key x ≢ key y
  apart_first x y ys once same =
      let k = key x in
      let a = sum_by-cons (at_key k) x (y ∷ ys) in
      let b = sum_by-cons (at_key k) y ys in
      let c = counted k x refl in
      let d = counted k y (sym same) in
      let most = once k in absurd (omega arith)

  once_tail : (x : X) (xs : List X) → AreOnce (x ∷ xs) → AreOnce xs
  once_tail x xs once k = (let a = sum_by-cons (at_key k) x xs in let most = once k in omega arith)

  module _ {R : Type 0} (cmp : X → X → Ordering) (order : R → R → Ordering) (h : X → R) (P : X → Type 0)
      (follows : (x y : X) → P x → P y → is_lt (cmp y x) ≡ false → key x ≢ key y → order (h x) (h y) ≡ Less) where
    sorted_tail : (x : X) (xs : List X) → IsSorted cmp (x ∷ xs) → IsSorted cmp xs
    sorted_tail x xs sorted = λ k d low within.
        let next : suc k + 1 ≡ suc (k + 1) = omega arith in
        subst (λ n. is_lt (cmp (get_or (x ∷ xs) n d) (get_or xs k d)) ≡ false) next (sorted (suc k) d (omega arith) (omega arith))

    behind : (x : X) (xs : List X) → ((y : X) → Contains (x ∷ xs) y → P y) → IsSorted cmp (x ∷ xs) → AreOnce (x ∷ xs)
        → rises_behind order (h x) (map h xs) ≡ true
    behind x [] are sorted once = refl
    behind x (y ∷ ys) are sorted once =
        both (is_lt (order (h x) (h y))) (rises_behind order (h y) (map h ys))
        (ap is_lt (follows x y (are x (Contains-first x (y ∷ ys))) (are y (Contains-later x (y ∷ ys) y (Contains-first y ys)))
        (sorted 0 x (omega arith) (omega arith)) (apart_first x y ys once)))
        (behind y ys (λ z inside. are z (Contains-later x (y ∷ ys) z inside)) (sorted_tail x (y ∷ ys) sorted) (once_tail x (y ∷ ys) once))

    pub rises_sorted : (xs : List X) → ((y : X) → Contains xs y → P y) → IsSorted cmp xs → AreOnce xs → rises order (map h xs) ≡ true
    rises_sorted [] are sorted once = refl
    rises_sorted (x ∷ xs) are sorted once = behind x xs are sorted once
