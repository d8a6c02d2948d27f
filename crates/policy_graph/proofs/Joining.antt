-- Lists that are written piece by piece, a piece for each place.
use Rattle.std.proofs.Common.{◌≡◌, ℕ, ◌+◌, ◌<◌, List, [], ◌∷◌, ◌++◌, Some, length, get_or, ap, sym, ◌∙◌, append_assoc, append-nil, arith}
use Rattle.std.specs.List.{flat_map, range_with_len, slice_get}
use Rattle.std.proofs.lemmas.Grind.{flat_map-append}
use Rattle.std.proofs.lemmas.Option.{slice_get-get_or}
use Rattle.ground_step.proofs.Ranges.{range-append}

-- one place more
pub place_more : {Y : Type 0} (f : ℕ → List Y) (old before : List Y) (n : ℕ) (piece : List Y)
    → before ≡ old ++ flat_map f (range_with_len 0 n) → piece ≡ f n
    → before ++ piece ≡ old ++ flat_map f (range_with_len 0 (n + 1))
place_more f old before n piece is piece_is =
    let here : 0 + n ≡ n = omega arith in
    ap (λ l. l ++ piece) is
    ∙ append_assoc old (flat_map f (range_with_len 0 n)) piece
    ∙ ap (λ l. old ++ (flat_map f (range_with_len 0 n) ++ l)) (piece_is ∙ sym (append-nil (f n)))
    ∙ ap (λ l. old ++ l) (sym (flat_map-append f (range_with_len 0 n) (n ∷ []))
    ∙ ap (flat_map f) (sym (range-append 0 n 1 ∙ ap (λ k. range_with_len 0 n ++ k ∷ []) here)))

-- what is read in a place stands there
pub stands : {X : Type 0} (xs : List X) (i : ℕ) (x : X) → i < length xs → x ≡ get_or xs i x → slice_get xs i ≡ Some x
stands xs i x within is = slice_get-get_or xs i x within ∙ ap Some (sym is)

-- what is looked up in a list that is another one
pub looked_up : {X : Type 0} (xs ys : List X) (i k : ℕ) (x : X) → xs ≡ ys → i ≡ k → i < length xs → x ≡ get_or xs i x
    → slice_get ys k ≡ Some x
looked_up xs ys i k x same is within read = sym (λ j. slice_get (same j) (is j)) ∙ stands xs i x within read
