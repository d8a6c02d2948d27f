-- Lists of entries in one.
use Rattle.std.proofs.Common.{◌-◌, take, drop, length, subst, ◌<◌, ◌+◌, ◌≡◌, ℕ, ◌≤◌, min, max, cond, Bool, true, false, ◌||◌, List, [], ◌∷◌, ◌++◌, None, Some, refl, sym, ap, inl, inr, ◌∙◌, arith}
use Rattle.std.specs.Prelude.{Option, nat_eq, get_or}
use Rattle.std.proofs.lemmas.List.{take_more, take-append-drop, take_all, length-drop}
use Rattle.std.specs.Option.{unwrap_or}
use Rattle.std.specs.List.{slice_get}
use Rattle.std.proofs.lemmas.Bool.{cases_Bool}
use Rattle.std.proofs.lemmas.List.Folds.{list_any-append}
use Rattle.ground_model.specs.Packed.{State}
use Rattle.bound_core.specs.declared.id_row.IdRow.{IdRow}
use Rattle.bound_core.specs.declared.worker.Seen.{Seen}
use Rattle.bound_core.specs.Shown.{is_of, seen_lower_in, seen_upper_in}
use Rattle.core_run.specs.Merged.{knows_in, greater_of, smaller_of, narrower_of, AreMerged}

module _ (ids : List IdRow) where
  pub lower-append : (xs ys : List Seen) (s : State) → seen_lower_in ids (xs ++ ys) s ≡ max (seen_lower_in ids xs s) (seen_lower_in ids ys s)
  lower-append [] ys s = omega arith
  lower-append (x ∷ xs) ys s =
      let rest = lower-append xs ys s in elim (cases_Bool (is_of (slice_get ids x.id) s)) [
        | inl on ↦
            ap (λ b. cond b (max (seen_lower_in ids (xs ++ ys) s) (unwrap_or x.lower 0)) (seen_lower_in ids (xs ++ ys) s)) on
            ∙ (let e : max (seen_lower_in ids (xs ++ ys) s) (unwrap_or x.lower 0)
            ≡ max (max (seen_lower_in ids xs s) (unwrap_or x.lower 0)) (seen_lower_in ids ys s) = omega arith in e)
            ∙ sym (ap (λ b. max (cond b (max (seen_lower_in ids xs s) (unwrap_or x.lower 0)) (seen_lower_in ids xs s)) (seen_lower_in ids ys s)) on)
        | inr off ↦
            ap (λ b. cond b (max (seen_lower_in ids (xs ++ ys) s) (unwrap_or x.lower 0)) (seen_lower_in ids (xs ++ ys) s)) off
            ∙ rest
            ∙ sym (ap (λ b. max (cond b (max (seen_lower_in ids xs s) (unwrap_or x.lower 0)) (seen_lower_in ids xs s)) (seen_lower_in ids ys s)) off)
      ]

  pub upper-le_first : (first : ℕ) (xs : List Seen) (s : State) → seen_upper_in ids first xs s ≤ first
  upper-le_first first [] s = omega arith
  upper-le_first first (x ∷ xs) s =
      let rest = upper-le_first first xs s in elim (is_of (slice_get ids x.id) s) as
      (λ b. cond b (min (seen_upper_in ids first xs s) (unwrap_or x.upper first)) (seen_upper_in ids first xs s) ≤ first) [
        | true ↦ omega arith
        | false ↦ rest
      ]

  pub upper-append : (first : ℕ) (xs ys : List Seen) (s : State)
      → seen_upper_in ids first (xs ++ ys) s ≡ min (seen_upper_in ids first xs s) (seen_upper_in ids first ys s)
  upper-append first [] ys s = let within = upper-le_first first ys s in omega arith
  upper-append first (x ∷ xs) ys s =
      let rest = upper-append first xs ys s in elim (cases_Bool (is_of (slice_get ids x.id) s)) [
        | inl on ↦
            ap (λ b. cond b (min (seen_upper_in ids first (xs ++ ys) s) (unwrap_or x.upper first)) (seen_upper_in ids first (xs ++ ys) s)) on
            ∙ (let e : min (seen_upper_in ids first (xs ++ ys) s) (unwrap_or x.upper first)
            ≡ min (min (seen_upper_in ids first xs s) (unwrap_or x.upper first)) (seen_upper_in ids first ys s) = omega arith in e)
            ∙ sym (ap (λ b. min (cond b (min (seen_upper_in ids first xs s) (unwrap_or x.upper first)) (seen_upper_in ids first xs s)) (seen_upper_in ids first ys s)) on)
        | inr off ↦
            ap (λ b. cond b (min (seen_upper_in ids first (xs ++ ys) s) (unwrap_or x.upper first)) (seen_upper_in ids first (xs ++ ys) s)) off
            ∙ rest
            ∙ sym (ap (λ b. min (cond b (min (seen_upper_in ids first xs s) (unwrap_or x.upper first)) (seen_upper_in ids first xs s)) (seen_upper_in ids first ys s)) off)
      ]

  -- the narrower of two entries of one id
  narrower_lower : (x y : Seen) (s : State) → x.id ≡ y.id
      → seen_lower_in ids (narrower_of x y ∷ []) s ≡ max (seen_lower_in ids (x ∷ []) s) (seen_lower_in ids (y ∷ []) s)
  narrower_lower x y s same =
      let same_row : is_of (slice_get ids y.id) s ≡ is_of (slice_get ids x.id) s = ap (λ id. is_of (slice_get ids id) s) (sym same) in
      let number : unwrap_or (greater_of x.lower y.lower) 0 ≡ max (unwrap_or x.lower 0) (unwrap_or y.lower 0) = greater_number x.lower y.lower in
      by_row (is_of (slice_get ids x.id) s) (is_of (slice_get ids y.id) s) (unwrap_or x.lower 0) (unwrap_or y.lower 0)
      (unwrap_or (greater_of x.lower y.lower) 0) same_row number
    where
      greater_number : (a b : Option ℕ) → unwrap_or (greater_of a b) 0 ≡ max (unwrap_or a 0) (unwrap_or b 0)
      greater_number None None = omega arith
      greater_number None (Some y) = omega arith
      greater_number (Some x) None = omega arith
      greater_number (Some x) (Some y) = refl

      by_row : (p q : Bool) (a b c : ℕ) → q ≡ p → c ≡ max a b → cond p (max 0 c) 0 ≡ max (cond p (max 0 a) 0) (cond q (max 0 b) 0)
      by_row true true a b c same number = omega arith
      by_row true false a b c same number = absurd cc
      by_row false true a b c same number = absurd cc
      by_row false false a b c same number = omega arith

  narrower_upper : (first : ℕ) (x y : Seen) (s : State) → x.id ≡ y.id
      → seen_upper_in ids first (narrower_of x y ∷ []) s ≡ min (seen_upper_in ids first (x ∷ []) s) (seen_upper_in ids first (y ∷ []) s)
  narrower_upper first x y s same =
      let same_row : is_of (slice_get ids y.id) s ≡ is_of (slice_get ids x.id) s = ap (λ id. is_of (slice_get ids id) s) (sym same) in
      by_row (is_of (slice_get ids x.id) s) (is_of (slice_get ids y.id) s) (unwrap_or x.upper first) (unwrap_or y.upper first)
      (unwrap_or (smaller_of x.upper y.upper) first) same_row (smaller_number x.upper y.upper)
    where
      smaller_number : (a b : Option ℕ) → min first (unwrap_or (smaller_of a b) first) ≡ min (min first (unwrap_or a first)) (min first (unwrap_or b first))
      smaller_number None None = omega arith
      smaller_number None (Some y) = omega arith
      smaller_number (Some x) None = omega arith
      smaller_number (Some x) (Some y) = omega arith

      by_row : (p q : Bool) (a b c : ℕ) → q ≡ p → min first c ≡ min (min first a) (min first b)
          → cond p (min first c) first ≡ min (cond p (min first a) first) (cond q (min first b) first)
      by_row true true a b c same number = number
      by_row true false a b c same number = absurd cc
      by_row false true a b c same number = absurd cc
      by_row false false a b c same number = omega arith

or_right : (a b c : Bool) → ((a || b) || c) ≡ ((a || c) || b)
or_right true b c = refl
or_right false true true = refl
or_right false true false = refl
or_right false false true = refl
or_right false false false = refl

or_assoc : (a b c : Bool) → ((a || b) || c) ≡ (a || (b || c))
or_assoc true b c = refl
or_assoc false b c = refl

or_twice : (a b c : Bool) → ((a || b) || c) ≡ ((a || c) || (b || c))
or_twice true b c = refl
or_twice false true true = refl
or_twice false true false = refl
or_twice false false true = refl
or_twice false false false = refl

knows-append : (xs ys : List Seen) (id : ℕ) → knows_in (xs ++ ys) id ≡ (knows_in xs id || knows_in ys id)
knows-append xs ys id = list_any-append (λ (x : Seen). nat_eq x.id id) xs ys

pub merged_none : AreMerged [] [] []
merged_none = record {
  knows = λ id. refl;
  lower = λ ids s. omega arith;
  upper = λ ids first s. omega arith;
}

pub merged_left : (xs ys r m : List Seen) → AreMerged xs ys r → AreMerged (xs ++ m) ys (r ++ m)
merged_left xs ys r m merged = record {
  knows = λ id. knows-append r m id ∙ ap (λ b. b || knows_in m id) (merged.knows id) ∙ or_right (knows_in xs id) (knows_in ys id) (knows_in m id)
      ∙ ap (λ b. b || knows_in ys id) (sym (knows-append xs m id));
  lower = λ ids s. omega (arith, lower-append ids r m s, merged.lower ids s, lower-append ids xs m s);
  upper = λ ids first s. omega (arith, upper-append ids first r m s, merged.upper ids first s, upper-append ids first xs m s);
}

pub merged_right : (xs ys r m : List Seen) → AreMerged xs ys r → AreMerged xs (ys ++ m) (r ++ m)
merged_right xs ys r m merged = record {
  knows = λ id. knows-append r m id ∙ ap (λ b. b || knows_in m id) (merged.knows id) ∙ or_assoc (knows_in xs id) (knows_in ys id) (knows_in m id)
      ∙ ap (λ b. knows_in xs id || b) (sym (knows-append ys m id));
  lower = λ ids s. omega (arith, lower-append ids r m s, merged.lower ids s, lower-append ids ys m s);
  upper = λ ids first s. omega (arith, upper-append ids first r m s, merged.upper ids first s, upper-append ids first ys m s);
}

one_known : (x y : Seen) (id : ℕ) → x.id ≡ y.id → knows_in (y ∷ []) id ≡ knows_in (x ∷ []) id
one_known x y id same = ap (λ k. knows_in (record { id = k; lower = None; upper = None } ∷ []) id) (sym same)

pub merged_both : (xs ys r : List Seen) (x y : Seen) → x.id ≡ y.id → AreMerged xs ys r
    → AreMerged (xs ++ x ∷ []) (ys ++ y ∷ []) (r ++ narrower_of x y ∷ [])
merged_both xs ys r x y same merged = record {
  knows = λ id. knows-append r (narrower_of x y ∷ []) id ∙ ap (λ b. b || knows_in (x ∷ []) id) (merged.knows id)
      ∙ or_twice (knows_in xs id) (knows_in ys id) (knows_in (x ∷ []) id)
      ∙ ap (λ b. (knows_in xs id || knows_in (x ∷ []) id) || (knows_in ys id || b)) (sym (one_known x y id same))
      ∙ ap (λ b. b || (knows_in ys id || knows_in (y ∷ []) id)) (sym (knows-append xs (x ∷ []) id))
      ∙ ap (λ b. knows_in (xs ++ x ∷ []) id || b) (sym (knows-append ys (y ∷ []) id));
  lower = λ ids s. omega (
    arith,
    lower-append ids r (narrower_of x y ∷ []) s,
    merged.lower ids s,
    narrower_lower ids x y s same,
    lower-append ids xs (x ∷ []) s,
    lower-append ids ys (y ∷ []) s,
  );
  upper = λ ids first s. omega (
    arith,
    upper-append ids first r (narrower_of x y ∷ []) s,
    merged.upper ids first s,
    narrower_upper ids first x y s same,
    upper-append ids first xs (x ∷ []) s,
    upper-append ids first ys (y ∷ []) s,
  );
}

-- one entry more
pub step_left : (xs ys r : List Seen) (i j : ℕ) (x : Seen) → i < length xs → x ≡ get_or xs i x
    → AreMerged (take i xs) (take j ys) r → AreMerged (take (i + 1) xs) (take j ys) (r ++ x ∷ [])
step_left xs ys r i j x within here merged =
    let more : take (i + 1) xs ≡ take i xs ++ x ∷ [] = take_more xs i x within ∙ ap (λ y. take i xs ++ y ∷ []) (sym here) in
    subst (λ l. AreMerged l (take j ys) (r ++ x ∷ [])) (sym more) (merged_left (take i xs) (take j ys) r (x ∷ []) merged)

pub step_right : (xs ys r : List Seen) (i j : ℕ) (y : Seen) → j < length ys → y ≡ get_or ys j y
    → AreMerged (take i xs) (take j ys) r → AreMerged (take i xs) (take (j + 1) ys) (r ++ y ∷ [])
step_right xs ys r i j y within here merged =
    let more : take (j + 1) ys ≡ take j ys ++ y ∷ [] = take_more ys j y within ∙ ap (λ z. take j ys ++ z ∷ []) (sym here) in
    subst (λ l. AreMerged (take i xs) l (r ++ y ∷ [])) (sym more) (merged_right (take i xs) (take j ys) r (y ∷ []) merged)

pub step_both : (xs ys r : List Seen) (i j : ℕ) (x y : Seen) → i < length xs → j < length ys → x ≡ get_or xs i x → y ≡ get_or ys j y
    → x.id ≡ y.id → AreMerged (take i xs) (take j ys) r
    → AreMerged (take (i + 1) xs) (take (j + 1) ys) (r ++ narrower_of x y ∷ [])
step_both xs ys r i j x y first second here there same merged =
    let more : take (i + 1) xs ≡ take i xs ++ x ∷ [] = take_more xs i x first ∙ ap (λ z. take i xs ++ z ∷ []) (sym here) in
    let more' : take (j + 1) ys ≡ take j ys ++ y ∷ [] = take_more ys j y second ∙ ap (λ z. take j ys ++ z ∷ []) (sym there) in
    subst (λ l. AreMerged l (take (j + 1) ys) (r ++ narrower_of x y ∷ [])) (sym more)
    (subst (λ l. AreMerged (take i xs ++ x ∷ []) l (r ++ narrower_of x y ∷ [])) (sym more')
    (merged_both (take i xs) (take j ys) r x y same merged))

slice_rest : (xs : List Seen) (i : ℕ) → take (length xs - i) (drop i xs) ≡ drop i xs
slice_rest xs i = take_all (length xs - i) (drop i xs) (omega (arith, length-drop i xs))

-- and then what is left of both
pub rest_of_both : (xs ys r : List Seen) (i j : ℕ) → AreMerged (take i xs) (take j ys) r
    → AreMerged xs ys ((r ++ take (length xs - i) (drop i xs)) ++ take (length ys - j) (drop j ys))
rest_of_both xs ys r i j merged =
    rw (slice_rest xs i, slice_rest ys j)
    (subst (λ l. AreMerged l ys ((r ++ drop i xs) ++ drop j ys)) (take-append-drop i xs)
    (subst (λ l. AreMerged (take i xs ++ drop i xs) l ((r ++ drop i xs) ++ drop j ys)) (take-append-drop j ys)
    (merged_right (take i xs ++ drop i xs) (take j ys) (r ++ drop i xs) (drop j ys)
    (merged_left (take i xs) (take j ys) r (drop i xs) merged))))
