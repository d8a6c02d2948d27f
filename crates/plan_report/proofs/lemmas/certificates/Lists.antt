-- Lists by their members and their pairs.
use Rattle.std.proofs.Common.{◌≡◌, ◌≢◌, inl, inr, ℕ, ◌+◌, ◌<◌, ◌≤◌, suc, Bool, true, false, cond, ◌&&◌, ◌||◌, List, [], ◌∷◌, length, map, refl, sym, ap, subst, ◌∙◌, arith, Ordering}
use Rattle.std.specs.Prelude.{Contains, All, AllPairs, filter}
use Rattle.std.specs.List.{list_any, range_with_len}
use Rattle.std.specs.Ordering.{is_lt}
use Rattle.std.specs.declared.cmp.Ordering.TheVariants.{Less}
use Rattle.std.proofs.lemmas.Bool.{cases_Bool}
use Rattle.std.proofs.lemmas.List.Elements.{All-contains_itself, All-weaker, All-map}
use Rattle.std.proofs.lemmas.List.FromFn.{get_or-range_with_len, length-range_with_len}
use Rattle.std.proofs.lemmas.List.Kept.{AllPairs-cons}
use Rattle.plain_list.specs.Texts.{rises, rises_behind}
use Rattle.plain_list.proofs.Members.{Contains-first, Contains-later, Contains-cons_cases, Contains-nil, Contains-map}
use Rattle.plain_list.proofs.Related.{AllPairs-head, AllPairs-tail}

pub both : (a b : Bool) → a ≡ true → b ≡ true → (a && b) ≡ true
both a b e f = rw e f

-- ---- members

pub members_all : {X : Type 0} (P : X → Type 0) (xs : List X) → ((x : X) → Contains xs x → P x) → All P xs
members_all P xs each = All-weaker (Contains xs) P each xs (All-contains_itself xs)

module _ {X : Type 0} (p : X → Bool) where
  pub Contains-filter : (xs : List X) (x : X) → Contains xs x → p x ≡ true → Contains (filter p xs) x
  Contains-filter [] x inside passes = absurd (Contains-nil x inside)
  Contains-filter (y ∷ xs) x inside passes = elim (Contains-cons_cases y xs x inside) [
    | inl same ↦
        subst (λ b. Contains (cond b (y ∷ filter p xs) (filter p xs)) x) (sym (ap p same ∙ passes))
        (subst (λ z. Contains (y ∷ filter p xs) z) same (Contains-first y (filter p xs)))
    | inr later ↦
        let found : Contains (filter p xs) x = Contains-filter xs x later passes in
        elim (cases_Bool (p y)) [
          | inl e ↦ subst (λ b. Contains (cond b (y ∷ filter p xs) (filter p xs)) x) (sym e) (Contains-later y (filter p xs) x found)
          | inr e ↦ subst (λ b. Contains (cond b (y ∷ filter p xs) (filter p xs)) x) (sym e) found
        ]
  ]

  pub Contains-filter_cases : (xs : List X) (x : X) → Contains (filter p xs) x → Contains xs x × (p x ≡ true)
  Contains-filter_cases [] x inside = absurd (Contains-nil x inside)
  Contains-filter_cases (y ∷ xs) x inside = elim (cases_Bool (p y)) [
    | inl e ↦
        elim (Contains-cons_cases y (filter p xs) x (subst (λ b. Contains (cond b (y ∷ filter p xs) (filter p xs)) x) e inside)) [
          | inl same ↦ (subst (λ z. Contains (y ∷ xs) z) same (Contains-first y xs), ap p (sym same) ∙ e)
          | inr later ↦
              let found = Contains-filter_cases xs x later in
              (Contains-later y xs x found.0, found.1)
        ]
    | inr e ↦
        let found = Contains-filter_cases xs x (subst (λ b. Contains (cond b (y ∷ filter p xs) (filter p xs)) x) e inside) in
        (Contains-later y xs x found.0, found.1)
  ]

  pub filter_at_most : (xs : List X) → length (filter p xs) ≤ length xs
  filter_at_most [] = omega arith
  filter_at_most (y ∷ xs) = elim (cases_Bool (p y)) [
    | inl e ↦ subst (λ b. length (cond b (y ∷ filter p xs) (filter p xs)) ≤ suc (length xs)) (sym e) (omega (arith, filter_at_most xs))
    | inr e ↦ subst (λ b. length (cond b (y ∷ filter p xs) (filter p xs)) ≤ suc (length xs)) (sym e) (omega (arith, filter_at_most xs))
  ]

  pub any_from_member : (xs : List X) (x : X) → Contains xs x → p x ≡ true → list_any p xs ≡ true
  any_from_member [] x inside passes = absurd (Contains-nil x inside)
  any_from_member (y ∷ xs) x inside passes = elim (Contains-cons_cases y xs x inside) [
    | inl same ↦ ap (λ b. b || list_any p xs) (ap p same ∙ passes)
    | inr later ↦ either (p y) (list_any p xs) (any_from_member xs x later passes)
  ]
    where
      either : (a b : Bool) → b ≡ true → (a || b) ≡ true
      either true b e = refl
      either false b e = e

pub range_member : (q n : ℕ) → q < n → Contains (range_with_len 0 n) q
range_member q n below = (q, (let long = length-range_with_len 0 n in omega arith), get_or-range_with_len 0 n q q below ∙ omega arith)

pub member_below : (n q : ℕ) → Contains (range_with_len 0 n) q → q < n
member_below n q inside =
    let k = inside.0 in let long = length-range_with_len 0 n in
    let within : k < n = (let w = inside.1 in omega arith) in
    let is : 0 + k ≡ q = sym (get_or-range_with_len 0 n k q within) ∙ inside.2 in
    omega arith

-- ---- pairs

pub range_rises : (a n : ℕ) → AllPairs (λ i j. i < j) (range_with_len a n)
range_rises a n i j d less below =
    let long = length-range_with_len a n in
    let first = get_or-range_with_len a n i d (omega arith) in
    let second = get_or-range_with_len a n j d (omega arith) in
    omega arith

module _ {X Y : Type 0} (S : Y → Y → Type 0) (f : X → Y) where
  pub pairs_mapped : (R : X → X → Type 0) (xs : List X) → AllPairs R xs
      → ((x y : X) → Contains xs x → Contains xs y → R x y → S (f x) (f y)) → AllPairs S (map f xs)
  pairs_mapped R [] pairs each = λ i j d before within. absurd (omega arith)
  pairs_mapped R (x ∷ xs) pairs each =
      AllPairs-cons S (f x) (map f xs)
      (All-map (S (f x)) f xs (members_all (λ y. S (f x) (f y)) xs (λ y inside.
      each x y (Contains-first x xs) (Contains-later x xs y inside) (AllPairs-head R x xs pairs y inside))))
      (pairs_mapped R xs (AllPairs-tail R x xs pairs) (λ y z h k. each y z (Contains-later x xs y h) (Contains-later x xs z k)))

  pub pairs_unmapped : (xs : List X) → AllPairs S (map f xs) → AllPairs (λ x y. S (f x) (f y)) xs
  pairs_unmapped [] pairs = λ i j d before within. absurd (omega arith)
  pairs_unmapped (x ∷ xs) pairs =
      AllPairs-cons (λ u v. S (f u) (f v)) x xs
      (members_all (λ y. S (f x) (f y)) xs (λ y inside. AllPairs-head S (f x) (map f xs) pairs (f y) (Contains-map f xs y inside)))
      (pairs_unmapped xs (AllPairs-tail S (f x) (map f xs) pairs))

-- of a list whose members differ by their keys, two members with one key are one
pub one_of_key : {X K : Type 0} (key : X → K) (xs : List X) → AllPairs (λ x y. key x ≢ key y) xs
    → (a b : X) → Contains xs a → Contains xs b → key a ≡ key b → a ≡ b
one_of_key key [] pairs a b here there same = absurd (Contains-nil a here)
one_of_key {X} {K} key (x ∷ xs) pairs a b here there same = elim (Contains-cons_cases x xs a here) [
  | inl first ↦ elim (Contains-cons_cases x xs b there) [
    | inl second ↦ sym first ∙ second
    | inr later ↦ absurd (AllPairs-head (λ (x y : X). key x ≢ key y) x xs pairs b later (ap key first ∙ same))
  ]
  | inr earlier ↦ elim (Contains-cons_cases x xs b there) [
    | inl second ↦ absurd (AllPairs-head (λ (x y : X). key x ≢ key y) x xs pairs a earlier (ap key second ∙ sym same))
    | inr later ↦ one_of_key key xs (AllPairs-tail (λ (x y : X). key x ≢ key y) x xs pairs) a b earlier later same
  ]
]

module _ {A : Type 0} (cmp : A → A → Ordering) where
  rises_behind_from : (x : A) (xs : List A) → AllPairs (λ a b. cmp a b ≡ Less) (x ∷ xs) → rises_behind cmp x xs ≡ true
  rises_behind_from x [] pairs = refl
  rises_behind_from x (y ∷ ys) pairs =
      both (is_lt (cmp x y)) (rises_behind cmp y ys)
      (ap is_lt (AllPairs-head (λ a b. cmp a b ≡ Less) x (y ∷ ys) pairs y (Contains-first y ys)))
      (rises_behind_from y ys (AllPairs-tail (λ a b. cmp a b ≡ Less) x (y ∷ ys) pairs))

  pub rises_from_pairs : (xs : List A) → AllPairs (λ a b. cmp a b ≡ Less) xs → rises cmp xs ≡ true
  rises_from_pairs [] pairs = refl
  rises_from_pairs (x ∷ xs) pairs = rises_behind_from x xs pairs
