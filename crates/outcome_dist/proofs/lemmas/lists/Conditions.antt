-- The numbers of conditions that are built from their parts.
use Rattle.std.proofs.Common.{◌≡◌, ℕ, List, [], ◌∷◌, ◌++◌, refl, sym, ap, ◌∙◌}
use Rattle.std.specs.Prelude.{flat_map}
use Rattle.std.proofs.lemmas.List.{append_assoc}
use denote.Hole.Carrier.{hidden}
use Rattle.ground_model.specs.declared.condition.GroundCondition.{GroundCondition, Row_of-GroundCondition, end_of-GroundCondition, more_of-GroundCondition, items-the_row-GroundCondition, items_hidden-the_row-GroundCondition-1}
use Rattle.ground_model.specs.declared.condition.GroundCondition.TheBlock.{shape-the_row-GroundCondition-0, hidden-the_row-GroundCondition-0, hidden-the_row-GroundCondition-1}
use Rattle.ground_model.specs.declared.condition.GroundCondition.TheVariants as condition
use Rattle.ground_meaning.specs.choices.Same.{words_of, words_of_each}

words_each : {n : _} (row : Row_of-GroundCondition n) → words_of_each row ≡ flat_map words_of (items-the_row-GroundCondition n row) ++ 0 ∷ []
words_each end_of-GroundCondition = refl
words_each (more_of-GroundCondition c cs) =
    ap (λ l. words_of c ++ l) (words_each cs)
    ∙ sym (append_assoc (words_of c) (flat_map words_of (items-the_row-GroundCondition _ cs)) (0 ∷ []))

pub words-All : (cs : List GroundCondition) → words_of (condition.All cs) ≡ 5 ∷ (flat_map words_of cs ++ 0 ∷ [])
words-All cs =
    ap (λ l. 5 ∷ l) (words_each (hidden-the_row-GroundCondition-1 cs) ∙ ap (λ l. flat_map words_of l ++ 0 ∷ []) (items_hidden-the_row-GroundCondition-1 cs))

pub words-Any : (cs : List GroundCondition) → words_of (condition.Any cs) ≡ 6 ∷ (flat_map words_of cs ++ 0 ∷ [])
words-Any cs =
    ap (λ l. 6 ∷ l) (words_each (hidden-the_row-GroundCondition-1 cs) ∙ ap (λ l. flat_map words_of l ++ 0 ∷ []) (items_hidden-the_row-GroundCondition-1 cs))

pub words-Not : (c : GroundCondition) → words_of (condition.Not c) ≡ 4 ∷ words_of c
unfolding shape-the_row-GroundCondition-0 hidden-the_row-GroundCondition-0 hidden
words-Not c = refl

pub ruleset words_at = (words-All, words-Any, words-Not)

-- numbers behind the first one
pub begun : (words old : List ℕ) (k : ℕ) (rest whole : List ℕ) → words ≡ old ++ k ∷ [] → k ∷ rest ≡ whole → words ++ rest ≡ old ++ whole
begun words old k rest whole is same = ap (λ l. l ++ rest) is ∙ append_assoc old (k ∷ []) rest ∙ ap (λ l. old ++ l) same
