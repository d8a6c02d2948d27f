-- Lists of equal length, one behind another.
use Rattle.std.proofs.Common.{◌≡◌, ℕ, zero, suc, ◌+◌, ◌*◌, ◌<◌, List, [], ◌∷◌, ◌++◌, Some, length, take, drop, refl, sym, ap, ◌∙◌, arith, length-append}
use Rattle.std.specs.List.{flat_map, slice_get}
use Rattle.std.proofs.lemmas.List.{drop-drop, take-append-le, take_all, take_more}
use Rattle.std.proofs.lemmas.Option.{get_or_from_slice_get, slice_get_within}
use Rattle.std.proofs.Math.Seq.{drop-append_seam}

module _ {X : Type 0} (f : X → List ℕ) (w : ℕ) (long : (x : X) → length (f x) ≡ w) where
  first_piece : (x : X) (rest : List ℕ) → take w (f x ++ rest) ≡ f x
  first_piece x rest = take-append-le w (f x) rest (omega (arith, long x)) ∙ take_all w (f x) (omega (arith, long x))

  past_piece : (x : X) (rest : List ℕ) → drop w (f x ++ rest) ≡ rest
  past_piece x rest = ap (λ n. drop n (f x ++ rest)) (sym (long x)) ∙ drop-append_seam (f x) rest

  pub piece_at : (xs : List X) (k : ℕ) (x : X) → slice_get xs k ≡ Some x → take w (drop (k * w) (flat_map f xs)) ≡ f x
  piece_at [] k x at = absurd cc
  piece_at (y ∷ ys) zero x at =
      let none : zero * w ≡ 0 = omega arith in
      let same : y ≡ x = cc at in
      ap (λ n. take w (drop n (f y ++ flat_map f ys))) none ∙ first_piece y (flat_map f ys) ∙ ap f same
  piece_at (y ∷ ys) (suc k) x at =
      let more : suc k * w ≡ w + k * w = omega arith in
      ap (λ n. take w (drop n (f y ++ flat_map f ys))) more
      ∙ ap (take w) (sym (drop-drop (k * w) w (f y ++ flat_map f ys)) ∙ ap (drop (k * w)) (past_piece y (flat_map f ys)))
      ∙ piece_at ys k x at

  pub whole_length : (xs : List X) → length (flat_map f xs) ≡ length xs * w
  whole_length [] = omega arith
  whole_length (x ∷ xs) =
      let rest : length (flat_map f xs) ≡ length xs * w = whole_length xs in
      length-append (f x) (flat_map f xs) ∙ omega (arith, long x, rest)

-- one item more at its place
pub row_more : {X : Type 0} (xs : List X) (k : ℕ) (x : X) → slice_get xs k ≡ Some x → take (k + 1) xs ≡ take k xs ++ x ∷ []
row_more xs k x at =
    take_more xs k x (slice_get_within xs k x at)
    ∙ ap (λ y. take k xs ++ y ∷ []) (get_or_from_slice_get xs k x x at)

pub item_there : {X : Type 0} (xs : List X) (k : ℕ) → k < length xs → (x : X) × (slice_get xs k ≡ Some x)
item_there [] k within = absurd (omega arith)
item_there (y ∷ ys) zero within = (y, refl)
item_there (y ∷ ys) (suc k) within = item_there ys k (omega arith)
