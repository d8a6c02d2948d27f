-- Tests over lists and options.
use Rattle.std.proofs.Common.{◌≡◌, Bool, true, false, ◌&&◌, List, [], ◌∷◌, ◌++◌, Some, inl, inr, refl, sym, ap, ◌∙◌, true≢false}
use Rattle.std.specs.List.{find, list_any, list_all, flat_map}
use Rattle.std.specs.Option.{option_or}
use Rattle.std.proofs.lemmas.Bool.{and_parts, and_from, or_cases, or_parts, or_left, or_right}
use Rattle.std.specs.Prelude.{All}
use Rattle.std.proofs.lemmas.List.Elements.{All-head, All-tail}
use Rattle.std.proofs.lemmas.List.Folds.{find-append, list_any-append, list_all-append}

module _ {X : Type 0} (p q : X → Bool) (weaker : (x : X) → p x ≡ true → q x ≡ true) where
  pub all-weaker : (xs : List X) → list_all p xs ≡ true → list_all q xs ≡ true
  all-weaker [] each = refl
  all-weaker (x ∷ xs) each = let parts = and_parts (p x) (list_all p xs) each in and_from (q x) (list_all q xs) (weaker x parts.0) (all-weaker xs parts.1)

  pub any-weaker : (xs : List X) → list_any p xs ≡ true → list_any q xs ≡ true
  any-weaker [] some = absurd (true≢false (sym some))
  any-weaker (x ∷ xs) some = elim (or_cases (p x) (list_any p xs) some) [
    | inl here ↦ or_left (q x) (list_any q xs) (weaker x here)
    | inr later ↦ or_right (q x) (list_any q xs) (any-weaker xs later)
  ]

pub any-left : {X : Type 0} (p : X → Bool) (xs ys : List X) → list_any p xs ≡ true → list_any p (xs ++ ys) ≡ true
any-left p xs ys some = list_any-append p xs ys ∙ or_left (list_any p xs) (list_any p ys) some

pub any-right : {X : Type 0} (p : X → Bool) (xs ys : List X) → list_any p ys ≡ true → list_any p (xs ++ ys) ≡ true
any-right p xs ys some = list_any-append p xs ys ∙ or_right (list_any p xs) (list_any p ys) some

pub all-both : {X : Type 0} (p : X → Bool) (xs ys : List X) → list_all p xs ≡ true → list_all p ys ≡ true → list_all p (xs ++ ys) ≡ true
all-both p xs ys first second = list_all-append p xs ys ∙ and_from (list_all p xs) (list_all p ys) first second

pub any-flat_map : {X Y : Type 0} (p : Y → Bool) (f g : X → List Y) → ((x : X) → list_any p (f x) ≡ true → list_any p (g x) ≡ true)
    → (xs : List X) → list_any p (flat_map f xs) ≡ true → list_any p (flat_map g xs) ≡ true
any-flat_map p f g weaker [] some = some
any-flat_map p f g weaker (x ∷ xs) some = elim (or_cases (list_any p (f x)) (list_any p (flat_map f xs)) (sym (list_any-append p (f x) (flat_map f xs)) ∙ some)) [
  | inl here ↦ any-left p (g x) (flat_map g xs) (weaker x here)
  | inr later ↦ any-right p (g x) (flat_map g xs) (any-flat_map p f g weaker xs later)
]

-- what is found stays found where more stands behind the list
pub find-left : {X : Type 0} (p : X → Bool) (xs ys : List X) (x : X) → find p xs ≡ Some x → find p (xs ++ ys) ≡ Some x
find-left p xs ys x found = find-append p xs ys ∙ ap (λ o. option_or o (find p ys)) found

-- what passes neither test passes a third
pub none-each : {X : Type 0} (p r q : X → Bool) → ((x : X) → p x ≡ false → r x ≡ false → q x ≡ true)
    → (xs : List X) → list_any p xs ≡ false → list_any r xs ≡ false → list_all q xs ≡ true
none-each p r q passes [] none neither = refl
none-each p r q passes (x ∷ xs) none neither =
    let first = or_parts (p x) (list_any p xs) none in
    let second = or_parts (r x) (list_any r xs) neither in
    and_from (q x) (list_all q xs) (passes x first.0 second.0) (none-each p r q passes xs first.1 second.1)

pub by_test : {P : Type 0} (b : Bool) → (b ≡ true → P) → (b ≡ false → P) → P
by_test true on off = on refl
by_test false on off = off refl

pub all-true : {X : Type 0} (p : X → Bool) (xs : List X) → All (λ x. p x ≡ true) xs → list_all p xs ≡ true
all-true p [] each = refl
all-true p (x ∷ xs) each = and_from (p x) (list_all p xs) (All-head (λ y. p y ≡ true) x xs each) (all-true p xs (All-tail (λ y. p y ≡ true) x xs each))

-- two tests at once
pub all-parts : {X : Type 0} (p q : X → Bool) (xs : List X) → list_all (λ x. p x && q x) xs ≡ true → (list_all p xs ≡ true) × (list_all q xs ≡ true)
all-parts p q [] each = (refl, refl)
all-parts p q (x ∷ xs) each =
    let parts = and_parts (p x && q x) (list_all (λ y. p y && q y) xs) each in
    let own = and_parts (p x) (q x) parts.0 in
    let rest = all-parts p q xs parts.1 in
    (and_from (p x) (list_all p xs) own.0 rest.0, and_from (q x) (list_all q xs) own.1 rest.1)

pub all-join : {X : Type 0} (p q : X → Bool) (xs : List X) → list_all p xs ≡ true → list_all q xs ≡ true → list_all (λ x. p x && q x) xs ≡ true
all-join p q [] first second = refl
all-join p q (x ∷ xs) first second =
    let here = and_parts (p x) (list_all p xs) first in
    let there = and_parts (q x) (list_all q xs) second in
    and_from (p x && q x) (list_all (λ y. p y && q y) xs) (and_from (p x) (q x) here.0 there.0) (all-join p q xs here.1 there.1)
