use Rattle.std.proofs.Common.{◌≡◌, drop}
use Rattle.std.specs.Prelude.{flat_map}
use Rattle.ppddl_model.specs.Steps.{world}
use Rattle.grounder.specs.texts.Texts.{first_texts}
use Rattle.grounder.specs.texts.Wanted.{with_more}
use Rattle.grounder.proofs.texts.literals.add_first.Given as goal

abbrev pub invariant-loop-quantified : goal.invariant-loop-quantified
invariant-loop-quantified l =
    with_more l.texts (flat_map (first_texts (world l.facts)) (drop l.quantified-index l.atoms))
    ≡ with_more l.fn.texts (flat_map (first_texts (world l.facts)) l.atoms)
