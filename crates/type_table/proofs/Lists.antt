-- Places and members in lists.
use Rattle.std.proofs.Common.{◌≡◌, ℕ, zero, suc, ◌+◌, ◌<◌, ◌≤◌, inl, inr, Bool, true, false, not, ◌||◌, List, [], ◌∷◌, ◌++◌, length, map, filter, Some, None, refl, sym, ap, subst, ◌∙◌, arith, nat_lt, true≢false, lt-ltb, get_or}
use Rattle.std.specs.Prelude.{Contains, cond, position, Result, Ok, Err, IsErrOf}
use Rattle.std.specs.List.{list_any, position_or_len, AllZip}
use Rattle.plain_list.proofs.Members.{Contains-first, Contains-later, Contains-cons_cases, Contains-nil}

pub by_test : {P : Type 0} (b : Bool) → (b ≡ true → P) → (b ≡ false → P) → P
by_test true on off = on refl
by_test false on off = off refl

-- ---- places

pub place-map : {X Y : Type 0} (p : Y → Bool) (f : X → Y) (xs : List X) → position_or_len (λ x. p (f x)) xs ≡ position_or_len p (map f xs)
place-map p f [] = refl
place-map p f (x ∷ xs) = ap (λ n. cond (not (p (f x))) (1 + n) 0) (place-map p f xs)

pub map_length : {X Y : Type 0} (f : X → Y) (xs : List X) → length xs ≡ length (map f xs)
map_length f [] = refl
map_length f (x ∷ xs) = ap suc (map_length f xs)

pub position-map : {X Y : Type 0} (p : Y → Bool) (f : X → Y) (xs : List X) → position (λ x. p (f x)) xs ≡ position p (map f xs)
position-map p f xs = λ j. cond (nat_lt (place-map p f xs j) (map_length f xs j)) (Some (place-map p f xs j)) None

pub any-map : {X Y : Type 0} (p : Y → Bool) (f : X → Y) (xs : List X) → list_any (λ x. p (f x)) xs ≡ list_any p (map f xs)
any-map p f [] = refl
any-map p f (x ∷ xs) = ap (λ b. p (f x) || b) (any-map p f xs)

-- what passes has a place
pub placed : {X : Type 0} (p : X → Bool) (xs : List X) → list_any p xs ≡ true → position_or_len p xs < length xs
placed p [] passes = absurd (true≢false (sym passes))
placed p (x ∷ xs) h = by_test (p x)
    (λ e. subst (λ b. (b || list_any p xs) ≡ true → cond (not b) (1 + position_or_len p xs) 0 < suc (length xs)) (sym e) (λ passes. omega arith) h)
    (λ e. subst (λ b. (b || list_any p xs) ≡ true → cond (not b) (1 + position_or_len p xs) 0 < suc (length xs)) (sym e) (λ passes. omega (arith, placed p xs passes)) h)

pub unplaced : {X : Type 0} (p : X → Bool) (xs : List X) → list_any p xs ≡ false → position_or_len p xs ≡ length xs
unplaced p [] fails = refl
unplaced p (x ∷ xs) h = by_test (p x)
    (λ e. subst (λ b. (b || list_any p xs) ≡ false → cond (not b) (1 + position_or_len p xs) 0 ≡ suc (length xs)) (sym e) (λ fails. absurd (true≢false fails)) h)
    (λ e. subst (λ b. (b || list_any p xs) ≡ false → cond (not b) (1 + position_or_len p xs) 0 ≡ suc (length xs)) (sym e) (λ fails. omega (arith, unplaced p xs fails)) h)

pub position_at : {X : Type 0} (p : X → Bool) (xs : List X) → position_or_len p xs < length xs → position p xs ≡ Some (position_or_len p xs)
position_at p xs within = ap (λ b. cond b (Some (position_or_len p xs)) None) (lt-ltb (position_or_len p xs) (length xs) within)

-- ---- members of filtered lists

module _ {X : Type 0} (p : X → Bool) where
  pub Contains-filter : (xs : List X) (x : X) → Contains xs x → p x ≡ true → Contains (filter p xs) x
  Contains-filter [] x inside passes = absurd (Contains-nil x inside)
  Contains-filter (y ∷ xs) x inside passes = elim (Contains-cons_cases y xs x inside) [
    | inl same ↦ subst (λ b. Contains (cond b (y ∷ filter p xs) (filter p xs)) x) (sym (ap p same ∙ passes)) (subst (λ z. Contains (y ∷ filter p xs) z) same (Contains-first y (filter p xs)))
    | inr later ↦
        let found : Contains (filter p xs) x = Contains-filter xs x later passes in
        by_test (p y)
        (λ e. subst (λ b. Contains (cond b (y ∷ filter p xs) (filter p xs)) x) (sym e) (Contains-later y (filter p xs) x found))
        (λ e. subst (λ b. Contains (cond b (y ∷ filter p xs) (filter p xs)) x) (sym e) found)
  ]

  pub Contains-filter_cases : (xs : List X) (x : X) → Contains (filter p xs) x → Contains xs x × (p x ≡ true)
  Contains-filter_cases [] x inside = absurd (Contains-nil x inside)
  Contains-filter_cases (y ∷ xs) x inside = by_test (p y)
      (λ e. elim (Contains-cons_cases y (filter p xs) x (subst (λ b. Contains (cond b (y ∷ filter p xs) (filter p xs)) x) e inside)) [
        | inl same ↦ (subst (λ z. Contains (y ∷ xs) z) same (Contains-first y xs), ap p (sym same) ∙ e)
        | inr later ↦
            let found = Contains-filter_cases xs x later in
            (Contains-later y xs x found.0, found.1)
      ])
      (λ e.
      let found = Contains-filter_cases xs x (subst (λ b. Contains (cond b (y ∷ filter p xs) (filter p xs)) x) e inside) in
      (Contains-later y xs x found.0, found.1))

  -- a filtered list is no longer, and shorter where something is left out
  filter_at_most : (xs : List X) → length (filter p xs) ≤ length xs
  filter_at_most [] = omega arith
  filter_at_most (y ∷ xs) = by_test (p y)
      (λ e. subst (λ b. length (cond b (y ∷ filter p xs) (filter p xs)) ≤ suc (length xs)) (sym e) (omega (arith, filter_at_most xs)))
      (λ e. subst (λ b. length (cond b (y ∷ filter p xs) (filter p xs)) ≤ suc (length xs)) (sym e) (omega (arith, filter_at_most xs)))

  pub filter_shorter : (xs : List X) (x : X) → Contains xs x → p x ≡ false → length (filter p xs) < length xs
  filter_shorter [] x inside fails = absurd (Contains-nil x inside)
  filter_shorter (y ∷ xs) x inside fails = elim (Contains-cons_cases y xs x inside) [
    | inl same ↦ subst (λ b. length (cond b (y ∷ filter p xs) (filter p xs)) < suc (length xs)) (sym (ap p same ∙ fails)) (omega (arith, filter_at_most xs))
    | inr later ↦ by_test (p y)
        (λ e. subst (λ b. length (cond b (y ∷ filter p xs) (filter p xs)) < suc (length xs)) (sym e) (omega (arith, filter_shorter xs x later fails)))
        (λ e. subst (λ b. length (cond b (y ∷ filter p xs) (filter p xs)) < suc (length xs)) (sym e) (omega (arith, filter_shorter xs x later fails)))
  ]

-- ---- two lists, place by place

pub zip_push : {A B : Type 0} (R : A → B → Type 0) (xs : List A) (ys : List B) (x : A) (y : B) → AllZip R xs ys → R x y → AllZip R (xs ++ x ∷ []) (ys ++ y ∷ [])
zip_push R [] [] x y all one = (one, tt)
zip_push R [] (z ∷ ys) x y all one = absurd all
zip_push R (z ∷ xs) [] x y all one = absurd all
zip_push R (w ∷ xs) (z ∷ ys) x y all one = (all.0, zip_push R xs ys x y all.1 one)

pub zip_weaker : {A B : Type 0} (P Q : A → B → Type 0) → ((x : A) (y : B) → P x y → Q x y) → (xs : List A) (ys : List B) → AllZip P xs ys → AllZip Q xs ys
zip_weaker P Q weaker [] [] all = tt
zip_weaker P Q weaker [] (z ∷ ys) all = all
zip_weaker P Q weaker (z ∷ xs) [] all = all
zip_weaker P Q weaker (w ∷ xs) (z ∷ ys) all = (weaker w z all.0, zip_weaker P Q weaker xs ys all.1)

pub get-map : {X Y : Type 0} (f : X → Y) (xs : List X) (i : ℕ) (d : Y) (e : X) → i < length xs → get_or (map f xs) i d ≡ f (get_or xs i e)
get-map f [] i d e within = absurd (omega arith)
get-map f (x ∷ xs) zero d e within = refl
get-map f (x ∷ xs) (suc i) d e within = get-map f xs i d e (omega arith)

-- ---- errors

error_or : {T E : Type 0} → E → Result T E → E
error_or d (Ok x) = d
error_or d (Err e) = e

-- an error is the same whatever would have been the answer
pub handed_on : {T U E : Type 0} (r : Result T E) (e d : E) → r ≡ Err e → r ≡ Err d → IsErrOf {T = U} (Err e) d
unfolding error_or
handed_on r e d was is = ap Err (ap (error_or d) (sym was ∙ is))
