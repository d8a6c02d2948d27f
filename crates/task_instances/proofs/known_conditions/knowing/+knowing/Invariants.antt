use Rattle.std.proofs.Common.{◌≡◌, ◌+◌, ◌*◌, map, length, drop}
use Rattle.plain_list.specs.weighted.Mean.{total}
use Rattle.ppddl_model.specs.declared.tree.Condition.{Condition}
use Rattle.ppddl_model.specs.Objects.{bindings}
use Rattle.type_table.specs.Types.{object_at}
use Rattle.task_instances.specs.known_conditions.Known.{known_in, joined, joined_each}
use Rattle.ground_terms.specs.terms.Scopes.{binding_of}
use Rattle.task_instances.proofs.lemmas.known_conditions.KnowSteps.{mass, of_object}
use Rattle.task_instances.proofs.known_conditions.knowing.+knowing.Given as goal

abbrev pub decreases-known : goal.decreases-known
decreases-known l = 3 * mass l.condition.now

abbrev pub decreases-known_parts : goal.decreases-known_parts
decreases-known_parts l = 3 * total mass l.parts.now + 1

abbrev pub decreases-known_bound : goal.decreases-known_bound
decreases-known_bound l = 3 * mass l.inner.now + length l.variables.now + 1

abbrev pub decreases-known_quantified : goal.decreases-known_quantified
decreases-known_quantified l = 3 * mass l.inner.now + length l.variables.now + 2

abbrev pub invariant-known_bound-loop-object : goal.invariant-known_bound-loop-object
invariant-known_bound-loop-object l =
    joined l.all l.known_so_far (joined_each l.all (map (λ o. of_object l.table l.facts.changing l.facts.init.now l.all l.inner
    (drop 1 l.variables) l.first (binding_of l.scope) (object_at l.table o)) (drop l.object-index l.object-items)))
    ≡ joined_each l.all (map (known_in l.table l.facts.changing l.facts.init.now l.inner) (bindings l.table l.variables (binding_of l.scope)))

abbrev pub invariant-known_parts-loop-part : goal.invariant-known_parts-loop-part
invariant-known_parts-loop-part l =
    joined l.all l.known_so_far (joined_each l.all (map (λ (c : Condition). known_in l.table l.facts.changing l.facts.init.now c (binding_of l.scope))
    (drop l.part-index l.parts)))
    ≡ joined_each l.all (map (λ (c : Condition). known_in l.table l.facts.changing l.facts.init.now c (binding_of l.scope)) l.parts)
