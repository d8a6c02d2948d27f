-- The items of `:init` while they are read: the facts apart from what comes by chance.
--     IsFact, IsByChance i     what the item is
--     AreApart facts chances   these are facts, and those come by chance
use Rattle.std.specs.Prelude.{List, All}
use Rattle.ppddl_model.specs.declared.tree.InitItem.{InitItem}
use Rattle.ppddl_model.specs.declared.tree.InitItem.TheVariants as tree

abbrev pub IsFact : InitItem → Type 0
IsFact (tree.Fact x) = Unit {0}
IsFact (tree.Chance branches) = ⊥
IsFact (tree.Value v) = ⊥

abbrev pub IsByChance : InitItem → Type 0
IsByChance (tree.Fact x) = ⊥
IsByChance (tree.Chance branches) = Unit {0}
IsByChance (tree.Value v) = ⊥

pub record AreApart (facts chances : List InitItem) : Type 0 where
  pub are_facts : All IsFact facts
  pub by_chance : All IsByChance chances
