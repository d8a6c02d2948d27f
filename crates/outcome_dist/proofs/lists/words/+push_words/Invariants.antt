use Rattle.std.proofs.Common.{◌≡◌, ◌++◌, [], ◌∷◌, drop}
use Rattle.std.specs.Prelude.{flat_map}
use Rattle.ground_meaning.specs.choices.Same.{words_of}
use Rattle.outcome_dist.proofs.lists.words.+push_words.Given as goal

abbrev pub decreases-push_words : goal.decreases-push_words
decreases-push_words l = goal.size-push_words l

abbrev pub invariant-loop-part : goal.invariant-loop-part
invariant-loop-part l = l.words.items ++ (flat_map words_of (drop l.part-index l.part-items) ++ 0 ∷ []) ≡ l.fn.words.items ++ words_of l.condition

abbrev pub invariant-loop-other : goal.invariant-loop-other
invariant-loop-other l = l.words.items ++ (flat_map words_of (drop l.other-index l.other-items) ++ 0 ∷ []) ≡ l.fn.words.items ++ words_of l.condition
