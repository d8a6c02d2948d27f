use Rattle.std.proofs.Common.{◌≡◌, ◌+◌, ◌*◌, ◌++◌, map, length, drop}
use Rattle.std.specs.Prelude.{flat_map}
use Rattle.plain_list.specs.weighted.Mean.{total}
use Rattle.ppddl_model.specs.declared.tree.Condition.{Condition}
use Rattle.ppddl_model.specs.Objects.{bindings}
use Rattle.type_table.specs.Types.{object_at}
use Rattle.ground_meaning.specs.choices.Numbering.{ground_condition}
use Rattle.ground_terms.specs.terms.Scopes.{binding_of}
use Rattle.outcome_dist.specs.conditions.Bindings.{world_of, numbering_of}
use Rattle.outcome_dist.proofs.lemmas.conditions.GroundSteps.{mass, of_object}
use Rattle.outcome_dist.proofs.conditions.grounding.+grounding.Given as goal

abbrev pub decreases-ground_condition : goal.decreases-ground_condition
decreases-ground_condition l = 3 * mass l.condition.now

abbrev pub decreases-ground_each : goal.decreases-ground_each
decreases-ground_each l = 3 * total mass l.parts.now + 1

abbrev pub decreases-ground_bound : goal.decreases-ground_bound
decreases-ground_bound l = 3 * mass l.inner.now + length l.variables.now + 1

abbrev pub decreases-ground_ways : goal.decreases-ground_ways
decreases-ground_ways l = 3 * mass l.inner.now + length l.variables.now + 2

abbrev pub invariant-ground_bound-loop-object : goal.invariant-ground_bound-loop-object
invariant-ground_bound-loop-object l =
    l.each.items ++ flat_map (λ o. of_object (world_of l.within) (numbering_of l.within) l.inner (drop 1 l.variables) l.first (binding_of l.scope)
    (object_at l.within.table.now o)) (drop l.object-index l.object-items)
    ≡ l.fn.done.items ++ map (ground_condition (world_of l.within) (numbering_of l.within) l.inner) (bindings (world_of l.within) l.variables (binding_of l.scope))

abbrev pub invariant-ground_each-loop-part : goal.invariant-ground_each-loop-part
invariant-ground_each-loop-part l =
    l.each.items ++ map (λ (c : Condition). ground_condition (world_of l.within) (numbering_of l.within) c (binding_of l.scope)) (drop l.part-index l.parts)
    ≡ map (λ (c : Condition). ground_condition (world_of l.within) (numbering_of l.within) c (binding_of l.scope)) l.parts
