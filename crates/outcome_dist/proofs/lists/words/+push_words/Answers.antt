use Rattle.std.proofs.Common.{◌++◌, [], ◌∷◌, sym, ap, ◌∙◌}
use Rattle.std.specs.Prelude.{flat_map}
use Rattle.ground_meaning.specs.choices.Same.{words_of}
use Rattle.outcome_dist.proofs.lemmas.lists.Conditions.{begun, words-All, words-Any, words-Not}
use Rattle.outcome_dist.proofs.lists.words.+push_words.Goals as goal

pub loop-part-init : goal.loop-part-init
loop-part-init t c =
    begun _ _ 5 _ _ c.in_ok-push-in-All.ensures.items
    (ap (λ l. 5 ∷ (flat_map words_of l ++ 0 ∷ [])) c.as_slice-part-items.ensures ∙ sym (words-All c.in-All.parts) ∙ ap words_of (sym c.in-All.is))

pub loop-other-init : goal.loop-other-init
loop-other-init t c =
    begun _ _ 6 _ _ c.in_ok-push-in-Any.ensures.items
    (ap (λ l. 6 ∷ (flat_map words_of l ++ 0 ∷ [])) c.as_slice-other-items.ensures ∙ sym (words-Any c.in-Any.others) ∙ ap words_of (sym c.in-Any.is))

pub returns-in_ok-push_words-in-Not : goal.returns-in_ok-push_words-in-Not
returns-in_ok-push_words-in-Not t c =
    c.in_ok-push_words-in-Not.ensures
    ∙ begun _ _ 4 _ _ c.in_ok-push-in-Not.ensures.items
    (ap (λ k. 4 ∷ words_of k) c.get.ensures ∙ sym (words-Not c.in-Not.inner) ∙ ap words_of (sym c.in-Not.is))
