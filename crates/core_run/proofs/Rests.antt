-- What is left of a list behind one more item.
use Rattle.std.proofs.Common.{◌≡◌, ℕ, suc, ◌+◌, ◌<◌, Bool, true, false, ◌||◌, List, ◌∷◌, drop, length, sym, ap, ◌∙◌, arith, drop-cons}
use Rattle.std.specs.Prelude.{get_or}
use Rattle.std.specs.List.{list_any}

module _ {X : Type 0} (f : X → Bool) (xs : List X) (i : ℕ) (x : X) (within : i < length xs) (here : x ≡ get_or xs i x) where
  opened : drop i xs ≡ x ∷ drop (i + 1) xs
  opened = drop-cons xs i x within ∙ ap (λ y. y ∷ drop (suc i) xs) (sym here) ∙ ap (λ n. x ∷ drop n xs) (let e : suc i ≡ i + 1 = omega arith in e)

  pub any_found : (b : Bool) → f x ≡ true → list_any f (drop i xs) ≡ b → true ≡ b
  any_found b on rest = sym (ap (λ c. c || list_any f (drop (i + 1) xs)) on) ∙ sym (ap (list_any f) opened) ∙ rest

  pub any_rest : (b : Bool) → f x ≡ false → list_any f (drop i xs) ≡ b → list_any f (drop (i + 1) xs) ≡ b
  any_rest b off rest = sym (ap (λ c. c || list_any f (drop (i + 1) xs)) off) ∙ sym (ap (list_any f) opened) ∙ rest
