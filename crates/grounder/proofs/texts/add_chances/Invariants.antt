use Rattle.std.proofs.Common.{◌≡◌, drop}
use Rattle.std.specs.Prelude.{flat_map}
use Rattle.grounder.specs.texts.Texts.{chance_texts}
use Rattle.grounder.specs.texts.Wanted.{with_more}
use Rattle.grounder.proofs.texts.add_chances.Given as goal

abbrev pub invariant-loop-item : goal.invariant-loop-item
invariant-loop-item l = with_more l.texts (flat_map chance_texts (drop l.item-index l.items)) ≡ with_more l.fn.texts (flat_map chance_texts l.items)
