-- The members of a filtered list, and of a range.
use Rattle.std.proofs.Common.{◌≡◌, inl, inr, ℕ, ◌<◌, Bool, true, cond, List, [], ◌∷◌, filter, sym, ap, subst, ◌∙◌, arith}
use Rattle.std.specs.Prelude.{AllPairs, Contains}
use Rattle.std.specs.List.{range_with_len}
use Rattle.std.proofs.lemmas.Bool.{cases_Bool}
use Rattle.std.proofs.lemmas.List.FromFn.{get_or-range_with_len, length-range_with_len}
use Rattle.plain_list.proofs.Members.{Contains-first, Contains-later, Contains-cons_cases, Contains-nil}

module _ {X : Type 0} (p : X → Bool) where
  pub Contains-filter : (xs : List X) (x : X) → Contains xs x → p x ≡ true → Contains (filter p xs) x
  Contains-filter [] x inside passes = absurd (Contains-nil x inside)
  Contains-filter (y ∷ xs) x inside passes = elim (Contains-cons_cases y xs x inside) [
    | inl same ↦
        subst (λ b. Contains (cond b (y ∷ filter p xs) (filter p xs)) x) (sym (ap p same ∙ passes))
        (subst (λ z. Contains (y ∷ filter p xs) z) same (Contains-first y (filter p xs)))
    | inr later ↦
        let found : Contains (filter p xs) x = Contains-filter xs x later passes in
        elim (cases_Bool (p y)) [
          | inl e ↦ subst (λ b. Contains (cond b (y ∷ filter p xs) (filter p xs)) x) (sym e) (Contains-later y (filter p xs) x found)
          | inr e ↦ subst (λ b. Contains (cond b (y ∷ filter p xs) (filter p xs)) x) (sym e) found
        ]
  ]

  pub Contains-filter_cases : (xs : List X) (x : X) → Contains (filter p xs) x → Contains xs x × (p x ≡ true)
  Contains-filter_cases [] x inside = absurd (Contains-nil x inside)
  Contains-filter_cases (y ∷ xs) x inside = elim (cases_Bool (p y)) [
    | inl e ↦
        elim (Contains-cons_cases y (filter p xs) x (subst (λ b. Contains (cond b (y ∷ filter p xs) (filter p xs)) x) e inside)) [
          | inl same ↦ (subst (λ z. Contains (y ∷ xs) z) same (Contains-first y xs), ap p (sym same) ∙ e)
          | inr later ↦
              let found = Contains-filter_cases xs x later in
              (Contains-later y xs x found.0, found.1)
        ]
    | inr e ↦
        let found = Contains-filter_cases xs x (subst (λ b. Contains (cond b (y ∷ filter p xs) (filter p xs)) x) e inside) in
        (Contains-later y xs x found.0, found.1)
  ]

pub Contains-range : (n k : ℕ) → k < n → Contains (range_with_len 0 n) k
Contains-range n k below =
    (k, (let long = length-range_with_len 0 n in omega arith), get_or-range_with_len 0 n k k below ∙ omega arith)

pub range_rises : (a n : ℕ) → AllPairs (λ (j k : ℕ). j < k) (range_with_len a n)
range_rises a n i j d less below =
    let long = length-range_with_len a n in
    let first = get_or-range_with_len a n i d (omega arith) in
    let second = get_or-range_with_len a n j d (omega arith) in
    omega arith
