-- The text of an atom, part by part.
use Rattle.std.proofs.Common.{◌≡◌, ℕ, List, [], ◌∷◌, ◌++◌, refl, sym, ap, ◌∙◌, append_assoc}
use Rattle.std.specs.Prelude.{flat_map, codes}
use Rattle.std.specs.List.{join_with_byte}
use Rattle.plain_list.specs.Texts.{list_text}
use Rattle.ppddl_model.specs.State.{Name}

abbrev pub spaced : Name → List ℕ
spaced name = 32 ∷ name

pub joined : (name : Name) (names : List Name) → join_with_byte 32 (name ∷ names) ≡ name ++ flat_map spaced names
joined name [] = by_nil name
  where
    by_nil : (xs : List ℕ) → xs ≡ xs ++ []
    by_nil [] = refl
    by_nil (x ∷ xs) = ap (λ l. x ∷ l) (by_nil xs)
joined name (next ∷ names) = ap (λ l. name ++ (32 ∷ l)) (joined next names)

-- a text before its last parenthesis is its predicate and its further names
pub begun : (name : Name) (names : List Name) → (40 ∷ name) ++ (flat_map spaced names ++ codes ")") ≡ list_text (name ∷ names)
begun name names =
    ap (λ l. 40 ∷ l)
    (sym (append_assoc name (flat_map spaced names) (codes ")")) ∙ ap (λ l. l ++ codes ")") (sym (joined name names)))
