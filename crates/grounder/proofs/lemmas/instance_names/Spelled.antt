-- The text of a name, from its beginning and its last object.
use Rattle.std.proofs.Common.{◌≡◌, ℕ, ◌-◌, ◌<◌, Bool, false, not, List, [], ◌∷◌, ◌++◌, Some, map, take, length, refl, sym, ap, ◌∙◌, append_assoc, arith}
use Rattle.std.specs.Prelude.{suc, zero, codes, nat_eq, slice_get, flat_map}
use Rattle.std.specs.Cmp.Lexicographic.{pointwise}
use Rattle.std.proofs.lemmas.Bool.{not-false}
use Rattle.std.proofs.lemmas.Bool.Decides.{Decides-eqb}
use Rattle.std.proofs.lemmas.List.{map-append, flat_map_more}
use Rattle.std.proofs.lemmas.Option.{slice_get_within}
use Rattle.std.proofs.lemmas.Slice.Eq.{slice_eq-Decides}
use Rattle.plain_list.specs.Texts.{list_text}
use Rattle.ppddl_model.specs.State.{Name}
use Rattle.ground_terms.proofs.lemmas.terms.Spelling as spelling
use Rattle.ground_terms.proofs.lemmas.terms.Spelling.{spaced}
use Rattle.grounder.specs.instance_names.Names.{begun, ended}

-- a name that has begun is whole with the bracket
pub closed : (name : Name) (objects : List Name) → begun name objects ++ codes ")" ≡ list_text (name ∷ objects)
closed name objects = append_assoc (40 ∷ name) (flat_map spaced objects) (codes ")") ∙ spelling.begun name objects

-- lists of numbers that are not told apart are the same
pub same_numbers : (xs ys : List ℕ) (differ : Bool) → differ ≡ not (pointwise nat_eq xs ys) → differ ≡ false → xs ≡ ys
same_numbers xs ys differ is alike =
    (slice_eq-Decides Decides-eqb xs ys (pointwise nat_eq xs ys) refl).0 (not-false (pointwise nat_eq xs ys) (sym is ∙ alike))

-- the items of a list before the last one, and the last one
with_at : {X : Type 0} (xs : List X) (n : ℕ) (last : X) → suc n ≡ length xs → slice_get xs n ≡ Some last → take n xs ++ last ∷ [] ≡ xs
with_at [] n last long is = absurd (omega (arith, long))
with_at (x ∷ []) zero last long is = cc
with_at (x ∷ y ∷ xs) zero last long is = absurd (omega (arith, long))
with_at (x ∷ xs) (suc n) last long is = ap (λ l. x ∷ l) (with_at xs n last (omega (arith, long)) is)

with_last : {X : Type 0} (xs : List X) (last : X) → slice_get xs (length xs - 1) ≡ Some last → take (length xs - 1) xs ++ last ∷ [] ≡ xs
with_last xs last is =
    let within : length xs - 1 < length xs = slice_get_within xs (length xs - 1) last is in
    with_at xs (length xs - 1) last (omega (arith, within)) is

module _ {X : Type 0} (text_of : X → Name) (name : Name) where
  pub ended_whole : (row : List X) (last : X) → slice_get row (length row - 1) ≡ Some last
      → ended (begun name (map text_of (take (length row - 1) row))) (text_of last) ≡ list_text (name ∷ map text_of row)
  ended_whole row last is =
      let front : List X = take (length row - 1) row in
      ap (λ l. l ++ codes ")") (flat_map_more spaced (40 ∷ name) (map text_of front) (text_of last))
      ∙ ap (λ l. begun name l ++ codes ")") (sym (map-append text_of front (last ∷ [])))
      ∙ ap (λ l. begun name (map text_of l) ++ codes ")") (with_last row last is)
      ∙ closed name (map text_of row)
