-- Actions that are unpacked, as lists.
use Rattle.std.proofs.Common.{◌≡◌, ℕ, ◌+◌, ◌/◌, ◌<◌, List, [], ◌∷◌, ◌++◌, length, take, get_or, ap, subst, ◌∙◌, sym, refl, below_more, arith}
use Rattle.std.specs.Int.{div_ceil}
use Rattle.std.specs.List.{enumerate_from, All}
use Rattle.std.proofs.lemmas.List.Elements.{All-push}
use Rattle.std.proofs.lemmas.List.{length-map, length-take, length_push, get_or-take, get_or_append_left, get_or_push, get_or-map, get_or_default, ext_get_or}
use Rattle.std.proofs.lemmas.List.FromFn.{length-enumerate_from, get_or-enumerate_from}
use Rattle.kept_transitions.specs.declared.stored_action.StoredAction.{StoredAction}
use Rattle.kept_transitions.specs.declared.unpacked_action.UnpackedAction.{UnpackedAction}
use Rattle.kept_transitions.specs.Unpacked.{unpacked, unpacked_at, all_unpacked, HasPlace, AreStored}

abbrev pub no_action : UnpackedAction
no_action = record { kind = 0; first = 0 }

abbrev pub no_word : StoredAction
no_word = record { word = 0 }

module _ (bases : List ℕ) (xs : List StoredAction) where
  pub length-all_unpacked : length (all_unpacked bases xs) ≡ length xs
  length-all_unpacked = length-map (enumerate_from 0 xs) (unpacked_at bases) ∙ length-enumerate_from 0 xs

  pub get_or-all_unpacked : (i : ℕ) (a : StoredAction) (d : UnpackedAction) → i < length xs
      → get_or (all_unpacked bases xs) i d ≡ unpacked (get_or bases (i / 16) 0) (get_or xs i a)
  get_or-all_unpacked i a d below =
      let long = length-enumerate_from 0 xs in let from_zero : 0 + i ≡ i = omega arith in
      get_or-map (unpacked_at bases) (enumerate_from 0 xs) i (0, a) d (omega arith)
      ∙ ap (unpacked_at bases) (get_or-enumerate_from 0 xs i (0, a) below)
      ∙ ap (λ (n : ℕ). unpacked_at bases (n, get_or xs i a)) from_zero

  pub read_unpacked : (i base : ℕ) (a : StoredAction) (d : UnpackedAction) → i < length xs → i / 16 < length bases
      → base ≡ get_or bases (i / 16) base → a ≡ get_or xs i a → get_or (all_unpacked bases xs) i d ≡ unpacked base a
  read_unpacked i base a d below in_block base_is a_is =
      let base_here = base_is ∙ get_or_default bases (i / 16) base 0 in_block in
      get_or-all_unpacked i a d below ∙ sym (λ j. unpacked (base_here j) (a_is j))

-- lists that have the same words and bases below a length are unpacked to the same
pub all_unpacked-same : (bases : List ℕ) (xs : List StoredAction) (ys : List UnpackedAction) → length xs ≡ length ys
    → ((i : ℕ) → i < length xs → unpacked (get_or bases (i / 16) 0) (get_or xs i no_word) ≡ get_or ys i no_action)
    → all_unpacked bases xs ≡ ys
all_unpacked-same bases xs ys long each =
    let longer = length-all_unpacked bases xs in
    ext_get_or no_action (all_unpacked bases xs) ys (longer ∙ long)
    (λ i below. let within : i < length xs = omega arith in get_or-all_unpacked bases xs i no_word no_action within ∙ each i within)

pub all_unpacked-take : (bases : List ℕ) (xs : List StoredAction) (n : ℕ)
    → all_unpacked (take (div_ceil n 16) bases) (take n xs) ≡ take n (all_unpacked bases xs)
all_unpacked-take bases xs n =
    let whole = length-all_unpacked bases xs in let short = length-take n xs in
    let cut = length-take n (all_unpacked bases xs) in
    all_unpacked-same (take (div_ceil n 16) bases) (take n xs) (take n (all_unpacked bases xs)) (omega arith)
    (λ i below. let under : i < n = omega arith in let within : i < length xs = omega arith in
    let base = get_or-take (div_ceil n 16) bases (i / 16) 0 (omega arith) in
    let word = get_or-take n xs i no_word under in
    (λ j. unpacked (base j) (word j)) ∙ sym (get_or-all_unpacked bases xs i no_word no_action within)
    ∙ sym (get_or-take n (all_unpacked bases xs) i no_action under))

-- one more word, and maybe one more base
module _ (bases more : List ℕ) (xs : List StoredAction) (a : StoredAction) (action : UnpackedAction)
    (same : (i : ℕ) → i < length xs → get_or more (i / 16) 0 ≡ get_or bases (i / 16) 0)
    (last : unpacked (get_or more (length xs / 16) 0) a ≡ action) where
  abbrev SameAt : ℕ → Type 0
  SameAt i = unpacked (get_or more (i / 16) 0) (get_or (xs ++ a ∷ []) i no_word) ≡ get_or (all_unpacked bases xs ++ action ∷ []) i no_action

  before : (i : ℕ) → i < length xs → SameAt i
  before i below =
      let whole = length-all_unpacked bases xs in
      let word = get_or_append_left xs (a ∷ []) no_word i below in
      (λ j. unpacked (same i below j) (word j)) ∙ sym (get_or-all_unpacked bases xs i no_word no_action below)
      ∙ sym (get_or_append_left (all_unpacked bases xs) (action ∷ []) no_action i (omega arith))

  here : SameAt (length xs)
  here =
      let whole = length-all_unpacked bases xs in
      ap (unpacked (get_or more (length xs / 16) 0)) (get_or_push xs a no_word (length xs) refl) ∙ last
      ∙ sym (get_or_push (all_unpacked bases xs) action no_action (length xs) whole)

  pub all_unpacked-push : all_unpacked more (xs ++ a ∷ []) ≡ all_unpacked bases xs ++ action ∷ []
  all_unpacked-push =
      let whole = length-all_unpacked bases xs in let long = length_push xs a in
      let longer = length_push (all_unpacked bases xs) action in
      all_unpacked-same more (xs ++ a ∷ []) (all_unpacked bases xs ++ action ∷ []) (omega arith)
      (λ i below. below_more SameAt (length xs) before here i (omega arith))

  pub are_stored-push : length more ≡ div_ceil (length xs + 1) 16 → All HasPlace (all_unpacked bases xs) → HasPlace action
      → AreStored more (xs ++ a ∷ [])
  are_stored-push blocks places fits = let long = length_push xs a in record {
    blocks = omega arith;
    places = subst (All HasPlace) (sym all_unpacked-push) (All-push HasPlace (all_unpacked bases xs) action places fits);
  }
