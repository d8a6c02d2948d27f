-- What holds of a list of numbers below a bound, what a search does not find, and how many a filter keeps.
use Rattle.std.proofs.Common.{◌≡◌, ℕ, ◌<◌, ◌≤◌, Bool, false, List, [], ◌∷◌, map, length, None, Some, refl, subst, ◌∙◌, arith}
use Rattle.std.specs.Prelude.{All, filter, get_or}
use Rattle.std.specs.List.{find, range_with_len}
use Rattle.std.proofs.lemmas.Bool.{cond-false}
use Rattle.std.proofs.lemmas.List.FromFn.{length-range_with_len, get_or-range_with_len}
use Rattle.std.proofs.lemmas.List.Sums.{length-filter, count_by-le-length}

pub all_below : (P : ℕ → Type 0) (m : ℕ) → ((i : ℕ) → i < m → P i) → All P (range_with_len 0 m)
all_below P m each k d within =
    let below : k < m = omega (arith, within, length-range_with_len 0 m) in
    let here : k ≡ get_or (range_with_len 0 m) k d = omega (arith, get_or-range_with_len 0 m k d below) in
    subst P here (each k below)

pub none_found : {X : Type 0} (test : X → Bool) (f : ℕ → X) → ((i : ℕ) → test (f i) ≡ false) → (is : List ℕ) → find test (map f is) ≡ None
none_found test f fails [] = refl
none_found test f fails (i ∷ is) =
    cond-false (test (f i)) (Some (f i)) (find test (map f is)) (fails i) ∙ none_found test f fails is

pub length-filter-le : {X : Type 0} (test : X → Bool) (xs : List X) → length (filter test xs) ≤ length xs
length-filter-le test xs = omega (arith, length-filter test xs, count_by-le-length test xs)
