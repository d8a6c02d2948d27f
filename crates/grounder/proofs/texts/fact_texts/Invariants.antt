use Rattle.std.proofs.Common.{◌≡◌, drop}
use Rattle.std.specs.Prelude.{flat_map}
use Rattle.grounder.specs.texts.Texts.{fact_texts}
use Rattle.grounder.specs.texts.Wanted.{none_wanted, with_more}
use Rattle.grounder.proofs.texts.fact_texts.Given as goal

abbrev pub invariant-loop-item : goal.invariant-loop-item
invariant-loop-item l =
    with_more l.texts (flat_map fact_texts (drop l.item-index l.items)) ≡ with_more (none_wanted 18446744073709551615) (flat_map fact_texts l.items)
