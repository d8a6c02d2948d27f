-- What decides whether choices are equal, in the order in which it is compared.
--     part_key_of x    of a guarded part: its condition as numbers, and the rest
--     key_of c         of a choice: all but its weight
use Rattle.std.specs.Prelude.{map}
use Rattle.ground_model.specs.declared.action.Choice.{Choice}
use Rattle.ground_model.specs.declared.action.Guarded.{Guarded}
use Rattle.ground_meaning.specs.choices.Same.{words_of}
use Rattle.outcome_dist.specs.declared.lists.key.Key.{Key}
use Rattle.outcome_dist.specs.declared.lists.key.PartKey.{PartKey}

abbrev pub part_key_of : Guarded → PartKey
part_key_of x =
    record { words = words_of x.condition; adds = x.adds; deletes = x.deletes; cost = x.cost }

abbrev pub key_of : Choice → Key
key_of c =
    record { cost = c.cost; adds = c.adds; deletes = c.deletes; parts = map part_key_of c.guarded }
