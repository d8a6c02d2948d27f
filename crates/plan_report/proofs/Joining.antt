-- Texts that are written piece by piece.
use Rattle.std.proofs.Common.{◌≡◌, ℕ, ◌+◌, ◌*◌, ◌/◌, ◌<◌, ◌≤◌, length, get_or, subst, List, [], ◌∷◌, ◌++◌, ap, sym, ◌∙◌, append_assoc, append-nil, arith}
use Rattle.std.specs.Prelude.{max}
use Rattle.std.specs.List.{flat_map, range_with_len}
use Rattle.std.proofs.lemmas.List.Elements.{All-get_or}
use Rattle.std.proofs.lemmas.Grind.{flat_map-append}
use Rattle.ground_model.specs.declared.start.Start.{Start}
use Rattle.ground_model.specs.Ground.{Ground}
use Rattle.ground_model.specs.Invariant.{IsInside, IsGroundProblem}
use Rattle.ground_model.proofs.Packed.{length-inside}
use Rattle.ground_step.proofs.Ranges.{range-append}

-- one number more
pub one_number : (f : ℕ → List ℕ) (old before : List ℕ) (n : ℕ) → before ≡ old ++ flat_map f (range_with_len 0 n)
    → before ++ f n ≡ old ++ flat_map f (range_with_len 0 (n + 1))
one_number f old before n is =
    let here : 0 + n ≡ n = omega arith in
    ap (λ l. l ++ f n) is
    ∙ append_assoc old (flat_map f (range_with_len 0 n)) (f n)
    ∙ ap (λ l. old ++ (flat_map f (range_with_len 0 n) ++ l)) (sym (append-nil (f n)))
    ∙ ap (λ l. old ++ l) (sym (flat_map-append f (range_with_len 0 n) (n ∷ [])) ∙ ap (flat_map f) (sym (range-append 0 n 1 ∙ ap (λ k. range_with_len 0 n ++ k ∷ []) here)))

module _ (old a b c d e f : List ℕ) where
  pub six_pieces : (((((old ++ a) ++ b) ++ c) ++ d) ++ e) ++ f ≡ old ++ (((((a ++ b) ++ c) ++ d) ++ e) ++ f)
  six_pieces = simp append_assoc

-- of the line of a start with what is known of it
module _ (old a b blank c d e f g h : List ℕ) where
  pub start_pieces : ((((((((old ++ a) ++ b) ++ (blank ++ c)) ++ (blank ++ d)) ++ blank) ++ e) ++ f) ++ g) ++ h
      ≡ old ++ ((((((((((a ++ b) ++ blank) ++ c) ++ blank) ++ d) ++ blank) ++ e) ++ f) ++ g) ++ h)
  start_pieces = simp append_assoc

-- ---- initial states

pub short_start : (g : Ground) → IsGroundProblem g → (i : ℕ) (x : Start) → i < length g.starts → x ≡ get_or g.starts i x → 64 * length x.state < 4294967296
short_start g valid i x within is =
    let n = length g.atoms in
    let inside : IsInside n x = subst (IsInside n) (sym is) (All-get_or (IsInside n) g.starts i x within valid.starts_inside) in
    let words : length x.state ≡ max 1 ((n + 63) / 64) = length-inside n x.state inside in
    let few : n ≤ 1024 = valid.atoms_count in
    omega (arith, words, few)
