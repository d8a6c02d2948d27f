-- Truth at conditions that are built from their parts.
use Rattle.std.proofs.Common.{◌≡◌, ℕ, Bool, not, ◌&&◌, ◌||◌, List, refl, ap, ◌∙◌}
use Rattle.std.specs.List.{list_any, list_all}
use denote.Hole.Carrier.{hidden}
use Rattle.ground_model.specs.declared.condition.GroundCondition.{GroundCondition, Row_of-GroundCondition, end_of-GroundCondition, more_of-GroundCondition, items-the_row-GroundCondition, items_hidden-the_row-GroundCondition-1}
use Rattle.ground_model.specs.declared.condition.GroundCondition.TheBlock.{shape-the_row-GroundCondition-0, hidden-the_row-GroundCondition-0, hidden-the_row-GroundCondition-1}
use Rattle.ground_model.specs.declared.condition.GroundCondition.TheVariants as condition
use Rattle.ground_model.specs.Truth.{truth, all_true, any_true}

all_row : (bit : ℕ → Bool) {n : _} (row : Row_of-GroundCondition n)
    → all_true bit row ≡ list_all (truth bit) (items-the_row-GroundCondition n row)
all_row bit end_of-GroundCondition = refl
all_row bit (more_of-GroundCondition c cs) = ap (λ b. truth bit c && b) (all_row bit cs)

any_row : (bit : ℕ → Bool) {n : _} (row : Row_of-GroundCondition n)
    → any_true bit row ≡ list_any (truth bit) (items-the_row-GroundCondition n row)
any_row bit end_of-GroundCondition = refl
any_row bit (more_of-GroundCondition c cs) = ap (λ b. truth bit c || b) (any_row bit cs)

pub truth-All : (bit : ℕ → Bool) (cs : List GroundCondition) → truth bit (condition.All cs) ≡ list_all (truth bit) cs
truth-All bit cs =
    all_row bit (hidden-the_row-GroundCondition-1 cs)
    ∙ ap (list_all (truth bit)) (items_hidden-the_row-GroundCondition-1 cs)

pub truth-Any : (bit : ℕ → Bool) (cs : List GroundCondition) → truth bit (condition.Any cs) ≡ list_any (truth bit) cs
truth-Any bit cs =
    any_row bit (hidden-the_row-GroundCondition-1 cs)
    ∙ ap (list_any (truth bit)) (items_hidden-the_row-GroundCondition-1 cs)

pub truth-Not : (bit : ℕ → Bool) (c : GroundCondition) → truth bit (condition.Not c) ≡ not (truth bit c)
unfolding shape-the_row-GroundCondition-0 hidden-the_row-GroundCondition-0 hidden
truth-Not bit c = refl

pub ruleset truth_at = (truth-All, truth-Any, truth-Not)
