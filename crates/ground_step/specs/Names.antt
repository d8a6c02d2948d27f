-- Numbers by texts.
--     place_of names text    the first place of a text, None exactly where it stands at none
--     action_names g         the names of the actions, in the order of their codes
use Rattle.std.specs.Prelude.{ℕ, nat_eq, Option, List, map, position}
use Rattle.std.specs.Cmp.Lexicographic.{pointwise}
use Rattle.ground_model.specs.declared.action.GroundAction.{GroundAction}
use Rattle.ground_model.specs.Ground.{Ground}

abbrev pub place_of : List (List ℕ) → List ℕ → Option ℕ
place_of names text = position (pointwise nat_eq text) names

abbrev pub action_names : Ground → List (List ℕ)
action_names g = map (λ (a : GroundAction). a.name) g.actions
