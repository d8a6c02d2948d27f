-- Items that are found by the places of their names.
use Rattle.std.proofs.Common.{◌≡◌, ℕ, zero, suc, ◌+◌, ◌<◌, ◌≤◌, ◌⊎◌, inl, inr, Bool, true, false, not, cond, List, [], ◌∷◌, ◌++◌, length, map, take, Option, Some, None, refl, sym, ap, ◌∙◌, arith, nat_eq, nat_lt, lt-ltb, eq-eqb, ne_eqb, true≢false, is_some, slice_get, if◌then◌else◌, length-append, add-zero, Vec}
use Rattle.std.specs.Prelude.{position}
use Rattle.std.specs.List.{find, position_or_len}
use Rattle.std.specs.Map.{lookup}
use Rattle.std.specs.Option.{option_or, unwrap_or}
use Rattle.std.specs.Cmp.Lexicographic.{pointwise, texts_ties}
use Rattle.std.proofs.lemmas.Bool.{ltb-true, ltb-false, le-ltb}
use Rattle.std.proofs.lemmas.Option.{slice_get_past}
use Rattle.std.proofs.lemmas.List.Folds.{position_or_len_push, find_at}
use Rattle.std.proofs.lemmas.List.Sums.{prefix_len-le-length}
use Rattle.ppddl_model.specs.State.{Name, same_name}
use Rattle.ppddl_model.proofs.States.{same_name-Decides}
use Rattle.ppddl_forms.specs.names.Places.{entry_of, place_in, with_place, ArePlaces}

pub by_test : {P : Type 0} (b : Bool) → (b ≡ true → P) → (b ≡ false → P) → P
by_test true on off = on refl
by_test false on off = off refl

pub same_name-sym : (a b : Name) → same_name a b ≡ same_name b a
same_name-sym a b = by_test (same_name b a)
    (λ e. (same_name-Decides a b).1 (sym ((same_name-Decides b a).0 e)) ∙ sym e)
    (λ e. by_test (same_name a b)
    (λ t. absurd (true≢false (sym ((same_name-Decides b a).1 (sym ((same_name-Decides a b).0 t))) ∙ e)))
    (λ f. f ∙ sym e))

-- ---- the first place at which a test passes

module _ {X : Type 0} (p : X → Bool) where
  position_within : (xs : List X) → position_or_len p xs < length xs → position p xs ≡ Some (position_or_len p xs)
  position_within xs within = ap (λ b. cond b (Some (position_or_len p xs)) None) (lt-ltb (position_or_len p xs) (length xs) within)

  position_past : (xs : List X) → length xs ≤ position_or_len p xs → position p xs ≡ None
  position_past xs past = ap (λ b. cond b (Some (position_or_len p xs)) None) (le-ltb (position_or_len p xs) (length xs) past)

  -- a place is within the list, or there is none
  position_cases : (xs : List X) → (position_or_len p xs < length xs) ⊎ (position_or_len p xs ≡ length xs)
  position_cases xs = by_test (nat_lt (position_or_len p xs) (length xs))
      (λ e. inl (ltb-true (position_or_len p xs) (length xs) e))
      (λ e. inr (omega (arith, ltb-false (position_or_len p xs) (length xs) e, prefix_len-le-length (λ x. not (p x)) xs)))

  pub position-push : (xs : List X) (y : X) → position p (xs ++ y ∷ []) ≡ option_or (position p xs) (cond (p y) (Some (length xs)) None)
  position-push xs y = elim (position_cases xs) [
    | inl within ↦
        let same : position_or_len p (xs ++ y ∷ []) ≡ position_or_len p xs =
        position_or_len_push p xs y
        ∙ ap (λ b. cond b (length xs + cond (p y) 0 1) (position_or_len p xs)) (ne_eqb _ _ (omega (arith, within))) in
        position_within (xs ++ y ∷ []) (omega (arith, same, within, length-append xs (y ∷ [])))
        ∙ ap Some same
        ∙ sym (ap (λ o. option_or o (cond (p y) (Some (length xs)) None)) (position_within xs within))
    | inr last ↦
        let next : position_or_len p (xs ++ y ∷ []) ≡ length xs + cond (p y) 0 1 =
        position_or_len_push p xs y
        ∙ ap (λ b. cond b (length xs + cond (p y) 0 1) (position_or_len p xs)) (eq-eqb _ _ last) in
        let none = sym (ap (λ o. option_or o (cond (p y) (Some (length xs)) None)) (position_past xs (omega (arith, last)))) in
        by_test (p y)
        (λ e.
        let here : position_or_len p (xs ++ y ∷ []) ≡ length xs = next ∙ ap (λ b. length xs + cond b 0 1) e ∙ add-zero (length xs) in
        position_within (xs ++ y ∷ []) (omega (arith, here, length-append xs (y ∷ [])))
        ∙ ap Some here
        ∙ sym (ap (λ b. cond b (Some (length xs)) None) e)
        ∙ none)
        (λ e.
        let behind : position_or_len p (xs ++ y ∷ []) ≡ length xs + 1 = next ∙ ap (λ b. length xs + cond b 0 1) e in
        position_past (xs ++ y ∷ []) (omega (arith, behind, length-append xs (y ∷ [])))
        ∙ sym (ap (λ b. cond b (Some (length xs)) None) e)
        ∙ none)
  ]

  pub found : (xs : List X) (k : ℕ) → position p xs ≡ Some k → (k < length xs) × (find p xs ≡ slice_get xs k)
  found xs k at = elim (position_cases xs) [
    | inl within ↦
        let same : position_or_len p xs ≡ k = ap (λ o. unwrap_or o 0) (sym (position_within xs within) ∙ at) in
        (omega (arith, same, within), find_at p xs ∙ ap (slice_get xs) same)
    | inr last ↦ let never : None ≡ Some k = sym (position_past xs (omega (arith, last))) ∙ at in cc
  ]

  pub not_found : (xs : List X) → position p xs ≡ None → find p xs ≡ None
  not_found xs none = elim (position_cases xs) [
    | inl within ↦ let never : Some (position_or_len p xs) ≡ None = sym (position_within xs within) ∙ none in cc
    | inr last ↦ find_at p xs ∙ slice_get_past xs (position_or_len p xs) (omega (arith, last))
  ]

-- ---- places of names

lookup-push : (test : Name → Bool) (places : List (Name × ℕ)) (name : Name) (k : ℕ)
    → lookup test (places ++ (name, k) ∷ []) ≡ option_or (lookup test places) (cond (test name) (Some k) None)
lookup-push test [] name k = refl
lookup-push test (e ∷ places) name k = by_test (test e.0)
    (λ t.
    ap (λ b. cond b (Some e.1) (lookup test (places ++ (name, k) ∷ []))) t
    ∙ sym (ap (λ b. option_or (cond b (Some e.1) (lookup test places)) (cond (test name) (Some k) None)) t))
    (λ f.
    ap (λ b. cond b (Some e.1) (lookup test (places ++ (name, k) ∷ []))) f
    ∙ lookup-push test places name k
    ∙ sym (ap (λ b. option_or (cond b (Some e.1) (lookup test places)) (cond (test name) (Some k) None)) f))

or_none : {X : Type 0} (o : Option X) → option_or o None ≡ o
or_none None = refl
or_none (Some x) = refl

or_some : {X : Type 0} (o other : Option X) → is_some o ≡ true → option_or o other ≡ o
or_some None other there = absurd (true≢false (sym there))
or_some (Some x) other there = refl

pub place-with_place : (places : List (Name × ℕ)) (name : Name) (k : ℕ) (q : Name)
    → place_in (with_place places name k) q ≡ option_or (place_in places q) (cond (same_name name q) (Some k) None)
place-with_place places name k q = by_test (is_some (place_in places name))
    (λ there.
    ap (λ b. place_in (if b then places else places ++ (name, k) ∷ []) q) there
    ∙ by_test (same_name name q)
    (λ same. sym (or_some (place_in places q) (cond (same_name name q) (Some k) None) (ap (λ n. is_some (place_in places n)) (sym ((same_name-Decides name q).0 same)) ∙ there)))
    (λ other. sym (ap (λ b. option_or (place_in places q) (cond b (Some k) None)) other ∙ or_none (place_in places q))))
    (λ new.
    ap (λ b. place_in (if b then places else places ++ (name, k) ∷ []) q) new
    ∙ lookup-push (same_name q) places name k
    ∙ ap (λ b. option_or (place_in places q) (cond b (Some k) None)) (same_name-sym q name))

-- one item more
pub placed-push : {X : Type 0} (name_of : X → Name) (xs : List X) (places : List (Name × ℕ)) → ArePlaces name_of xs places
    → (x : X) → ArePlaces name_of (xs ++ x ∷ []) (with_place places (name_of x) (length xs))
placed-push name_of xs places are x q =
    place-with_place places (name_of x) (length xs) q
    ∙ ap (λ o. option_or o (cond (same_name (name_of x) q) (Some (length xs)) None)) (are q)
    ∙ sym (position-push (λ y. same_name (name_of y) q) xs x)

-- ---- entries of a map

module _ {A : Type 0} where
  abbrev pub is_vector_of : Name → Vec ℕ A → Bool
  is_vector_of name v = pointwise nat_eq name v.items

  pub place-entries : (es : List (Vec ℕ A × ℕ)) (name : Name) → lookup (is_vector_of name) es ≡ place_in (map entry_of es) name
  place-entries [] name = refl
  place-entries (e ∷ es) name = λ i. cond (texts_ties name e.0.items i) (Some e.1) (place-entries es name i)

  pub map-push : (es : List (Vec ℕ A × ℕ)) (e : Vec ℕ A × ℕ) → map entry_of (es ++ e ∷ []) ≡ map entry_of es ++ entry_of e ∷ []
  map-push [] e = refl
  map-push (x ∷ es) e = ap (λ rest. entry_of x ∷ rest) (map-push es e)

  pub map-take : (n : ℕ) (es : List (Vec ℕ A × ℕ)) → map entry_of (take n es) ≡ take n (map entry_of es)
  map-take zero es = refl
  map-take (suc n) [] = refl
  map-take (suc n) (e ∷ es) = ap (λ rest. entry_of e ∷ rest) (map-take n es)

pub none_from : {X : Type 0} (o : Option X) → is_some o ≡ false → o ≡ None
none_from None absent = refl
none_from (Some x) absent = absurd (true≢false absent)
