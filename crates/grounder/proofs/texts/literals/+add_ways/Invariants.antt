use Rattle.std.proofs.Common.{◌≡◌, length, drop}
use Rattle.std.specs.Prelude.{flat_map}
use Rattle.ppddl_model.specs.Steps.{world}
use Rattle.ground_terms.specs.terms.Scopes.{binding_of}
use Rattle.task_instances.specs.facts.Facts.{table_of}
use Rattle.task_instances.specs.quantified_atoms.Needed.{params_of}
use Rattle.grounder.specs.texts.Texts.{ground_texts}
use Rattle.grounder.specs.texts.Wanted.{with_more}
use Rattle.grounder.proofs.lemmas.texts.Adding.{object_texts}
use Rattle.grounder.proofs.texts.literals.+add_ways.Given as goal

abbrev pub decreases-add_ways : goal.decreases-add_ways
decreases-add_ways l = length l.variables.now

abbrev pub invariant-loop-object : goal.invariant-loop-object
invariant-loop-object l =
    with_more l.texts (flat_map (object_texts (world l.facts) (table_of l.facts) (binding_of l.scope) (params_of (drop 1 l.variables)) l.first l.atom)
    (drop l.object-index l.object-items))
    ≡ with_more l.fn.texts (ground_texts (world l.facts) l.atom (params_of l.variables) (binding_of l.scope))
