use Rattle.std.proofs.Common.{◌≡◌, drop}
use Rattle.std.specs.Prelude.{flat_map}
use Rattle.ppddl_model.specs.Steps.{world}
use Rattle.ground_terms.specs.terms.Scopes.{binding_of}
use Rattle.grounder.specs.texts.Texts.{under_texts}
use Rattle.grounder.specs.texts.Wanted.{with_more}
use Rattle.grounder.proofs.texts.literals.add_under.Given as goal

abbrev pub invariant-loop-quantified : goal.invariant-loop-quantified
invariant-loop-quantified l =
    with_more l.texts (flat_map (under_texts (world l.facts) (binding_of l.scope)) (drop l.quantified-index l.atoms))
    ≡ with_more l.fn.texts (flat_map (under_texts (world l.facts) (binding_of l.scope)) l.atoms)
