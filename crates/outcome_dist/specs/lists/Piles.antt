-- Choices that are put onto one another before their atoms are settled, and lists that are merged one by one.
--     piled x y          both choices, with all that each adds and deletes, in any order and repeated
--     settled c          with its atoms in rising order, each once, and none both added and deleted
--     Weighs c           it has a weight
--     with_more k c      with k added to its weight
--     merging done cs    a list with those of the choices merged into it that have a weight
--     IsMerged cs        no two of them are equal: merging them changes nothing
--     begun done         the choices of a list, or the one that does nothing where there is none
--     made done run      the choices of a list, each together with the run of choices that is still to come
use Rattle.std.specs.Prelude.{◌≡◌, ℕ, ◌+◌, ◌*◌, ◌<◌, List, [], ◌∷◌, ◌++◌, Option, Some, None, Vec}
use Rattle.plain_list.specs.weighted.Mean.{positive}
use Rattle.plain_list.specs.weighted.Merged.{with_items}
use Rattle.ground_model.specs.declared.action.Choice.{Choice}
use Rattle.ground_meaning.specs.choices.Rising.{rising, less}
use Rattle.ground_meaning.specs.choices.Same.{same_choice}
use Rattle.ground_meaning.specs.choices.Joint.{idle, weight_of, with_weight, added, with_factor}

abbrev pub piled : Choice → Choice → Choice
piled x y = record {
  weight = x.weight * y.weight;
  cost = x.cost + y.cost;
  adds = x.adds ++ y.adds;
  deletes = x.deletes ++ y.deletes;
  guarded = x.guarded ++ y.guarded;
}

abbrev pub settled : Choice → Choice
settled c = record {
  weight = c.weight;
  cost = c.cost;
  adds = rising c.adds;
  deletes = less (rising c.deletes) (rising c.adds);
  guarded = c.guarded;
}

abbrev pub Weighs : Choice → Type 0
Weighs c = 0 < c.weight

abbrev pub with_more : ℕ → Choice → Choice
with_more k c = with_weight (c.weight + k) c

abbrev pub merging : List Choice → List Choice → List Choice
merging done cs = with_items same_choice added done (positive weight_of cs)

abbrev pub IsMerged : List Choice → Type 0
IsMerged cs = with_items same_choice added [] cs ≡ cs

abbrev pub begun : {A : Type 0} → Option (Vec Choice A) → List Choice
begun None = idle 1 ∷ []
begun (Some list) = list.items

abbrev pub made : List Choice → Option Choice → List Choice
made done None = done
made done (Some run) = with_factor done (run ∷ [])
