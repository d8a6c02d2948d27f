-- Texts that are found by hash before they are put in order.
use Rattle.std.proofs.Common.{◌≡◌, ℕ, Bool, true, false, not, ◌&&◌, ◌||◌, List, [], ◌∷◌, ◌++◌, if◌then◌else◌, refl, sym, ap, ◌∙◌}
use Rattle.std.specs.Prelude.{nat_eq}
use Rattle.std.specs.List.{list_any, list_all}
use Rattle.std.specs.BTreeSet.{insert_key}
use Rattle.std.specs.Cmp.Lexicographic.{pointwise, texts_ties}
use Rattle.indexmap.specs.IndexSet.{insert_key as insert_last}
use Rattle.plain_list.specs.Texts.{compare_texts}
use Rattle.type_table.proofs.Lists.{by_test}
use Rattle.grounder.specs.texts.Texts.{with_texts}
use Rattle.grounder.proofs.lemmas.texts.Adding.{texts-append}
use Rattle.grounder.proofs.lemmas.texts.Sorting.{other, absorbed}

all_other : (text : List ℕ) (xs : List (List ℕ)) → list_all (other text) xs ≡ not (list_any (pointwise nat_eq text) xs)
all_other text [] = refl
all_other text (x ∷ xs) =
    (λ i. not (sym (texts_ties text x) i) && all_other text xs i)
    ∙ neither (pointwise nat_eq text x) (list_any (pointwise nat_eq text) xs)
  where
    neither : (a b : Bool) → (not a && not b) ≡ not (a || b)
    neither true b = refl
    neither false b = refl

-- a text is put behind the others, where it is not among them, and then in order
pub put_last : (xs : List (List ℕ)) (text : List ℕ)
    → with_texts [] (insert_last (pointwise nat_eq) xs text) ≡ insert_key compare_texts (with_texts [] xs) text
put_last xs text = by_test (list_any (pointwise nat_eq text) xs)
    (λ e. ap (λ b. with_texts [] (if b then xs else xs ++ text ∷ [])) e
    ∙ sym (absorbed xs text [] (all_other text xs ∙ ap not e)))
    (λ e. ap (λ b. with_texts [] (if b then xs else xs ++ text ∷ [])) e ∙ texts-append [] xs (text ∷ []))
