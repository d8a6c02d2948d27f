-- What a test finds in rising lists.
use Rattle.std.proofs.Common.{◌≡◌, ℕ, Bool, true, false, not, ◌&&◌, ◌||◌, List, [], ◌∷◌, ◌++◌, map}
use Rattle.std.proofs.Common.{refl, sym, ap, ◌∙◌}
use Rattle.std.specs.Prelude.{nat_eq, nat_lt}
use Rattle.std.specs.List.{list_any}
use Rattle.std.proofs.lemmas.Bool.{eqb-true}
use Rattle.std.proofs.lemmas.Map.Views.{any-filter_same}
use Rattle.ground_model.specs.Choices.{is_member}
use Rattle.ground_meaning.specs.choices.Rising.{insert, rising, less}

pub any-map : {X Y : Type 0} (p : Y → Bool) (f : X → Y) (xs : List X)
    → list_any p (map f xs) ≡ list_any (λ x. p (f x)) xs
any-map p f [] = refl
any-map p f (x ∷ xs) = ap (λ b. p (f x) || b) (any-map p f xs)

pub or_assoc : (a b c : Bool) → (a || (b || c)) ≡ ((a || b) || c)
or_assoc true b c = refl
or_assoc false b c = refl

pub or_false : (a : Bool) → (a || false) ≡ a
or_false true = refl
or_false false = refl

or_again : (a m : Bool) → (a || m) ≡ (a || (a || m))
or_again true m = refl
or_again false m = refl

or_swap : (a b m : Bool) → (a || (b || m)) ≡ (b || (a || m))
or_swap true true m = refl
or_swap true false m = refl
or_swap false b m = refl

module _ (p : ℕ → Bool) where
  pub any-append : (xs ys : List ℕ) → list_any p (xs ++ ys) ≡ (list_any p xs || list_any p ys)
  any-append [] ys = refl
  any-append (x ∷ xs) ys =
      ap (λ b. p x || b) (any-append xs ys) ∙ or_assoc (p x) (list_any p xs) (list_any p ys)

  inserted : (x y : ℕ) (ys rest : List ℕ) (below same : Bool) → (same ≡ true → x ≡ y)
      → list_any p rest ≡ (p x || list_any p ys)
      → list_any p (elim below [ true ↦ x ∷ y ∷ ys | false ↦ elim same [ true ↦ y ∷ ys | false ↦ y ∷ rest ] ])
      ≡ (p x || (p y || list_any p ys))
  inserted x y ys rest true same e more = refl
  inserted x y ys rest false true e more =
      or_again (p y) (list_any p ys) ∙ sym (ap (λ z. p z || (p y || list_any p ys)) (e refl))
  inserted x y ys rest false false e more =
      ap (λ b. p y || b) more ∙ or_swap (p y) (p x) (list_any p ys)

  any-insert : (x : ℕ) (ys : List ℕ) → list_any p (insert x ys) ≡ (p x || list_any p ys)
  any-insert x [] = refl
  any-insert x (y ∷ ys) =
      inserted x y ys (insert x ys) (nat_lt x y) (nat_eq x y) (eqb-true x y) (any-insert x ys)

  pub any-rising : (xs : List ℕ) → list_any p (rising xs) ≡ list_any p xs
  any-rising [] = refl
  any-rising (x ∷ xs) = any-insert x (rising xs) ∙ ap (λ b. p x || b) (any-rising xs)

  passed : (x y : ℕ) (ys : List ℕ) (same : Bool) → (same ≡ true → x ≡ y)
      → (is_member ys x ≡ true → list_any p ys ≡ true)
      → (same || is_member ys x) ≡ true → p x ≡ true → (p y || list_any p ys) ≡ true
  passed x y ys true e more here passes =
      ap (λ b. b || list_any p ys) (sym (ap p (e refl)) ∙ passes)
  passed x y ys false e more here passes = ap (λ b. p y || b) (more here) ∙ or_swap (p y) true false

  any-member : (x : ℕ) (ys : List ℕ) → is_member ys x ≡ true → p x ≡ true → list_any p ys ≡ true
  any-member x [] here passes = absurd cc
  any-member x (y ∷ ys) here passes =
      passed x y ys (nat_eq x y) (eqb-true x y) (λ later. any-member x ys later passes) here passes

  not_gone : (x : ℕ) (gone : List ℕ) (inside : Bool) → is_member gone x ≡ inside
      → list_any p gone ≡ false → p x ≡ true → not inside ≡ true
  not_gone x gone true here none passes = absurd (cc (sym none ∙ any-member x gone here passes))
  not_gone x gone false here none passes = refl

  less_of : (xs gone : List ℕ) (found : Bool) → list_any p gone ≡ found
      → (not found && list_any p (less xs gone)) ≡ (not found && list_any p xs)
  less_of xs gone true e = refl
  less_of xs gone false e =
      any-filter_same p (λ q. not (is_member gone q)) true
      (λ k passes. not_gone k gone (is_member gone k) refl e passes) xs

  -- of what is not gone, a test finds what it found
  pub any-less : (xs gone : List ℕ)
      → (not (list_any p gone) && list_any p (less xs gone)) ≡ (not (list_any p gone) && list_any p xs)
  any-less xs gone = less_of xs gone (list_any p gone) refl
