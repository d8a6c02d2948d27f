use Rattle.std.proofs.Common.{◌+◌, ◌*◌, [], ◌∷◌, length, drop}
use Rattle.std.specs.Prelude.{flat_map}
use Rattle.plain_list.specs.weighted.Mean.{total}
use Rattle.ppddl_model.specs.Objects.{bindings}
use Rattle.type_table.specs.Types.{object_at}
use Rattle.ground_meaning.specs.choices.Joint.{idle, choices}
use Rattle.ground_meaning.specs.choices.Limits.{widest}
use Rattle.ground_terms.specs.terms.Scopes.{binding_of}
use Rattle.outcome_dist.specs.conditions.Bindings.{world_of, numbering_of}
use Rattle.outcome_dist.specs.Draws.{drawn, width}
use Rattle.outcome_dist.proofs.EffectForms.{ch, wi, mass, branch_mass}
use Rattle.outcome_dist.proofs.Walks.{Walk}
use Rattle.outcome_dist.proofs.Gathering.{Gathered}
use Rattle.outcome_dist.proofs.drawing.+drawing.Given as goal

abbrev pub decreases-draw : goal.decreases-draw
decreases-draw l = 3 * mass l.effect.now

abbrev pub decreases-draw_each : goal.decreases-draw_each
decreases-draw_each l = 3 * total mass l.parts.now + 1

abbrev pub decreases-draw_bound : goal.decreases-draw_bound
decreases-draw_bound l = 3 * mass l.inner.now + length l.variables.now + 1

abbrev pub decreases-draw_ways : goal.decreases-draw_ways
decreases-draw_ways l = 3 * mass l.inner.now + length l.variables.now + 2

abbrev pub decreases-draw_branches : goal.decreases-draw_branches
decreases-draw_branches l = 3 * total branch_mass l.branches.now + 1

abbrev pub invariant-draw_each-loop-part : goal.invariant-draw_each-loop-part
invariant-draw_each-loop-part l =
    Walk (ch (world_of l.within) (numbering_of l.within) (binding_of l.scope)) (wi (world_of l.within) (numbering_of l.within) (binding_of l.scope))
    l.product (drop l.part-index l.parts)
    (drawn (idle 1 ∷ []) (ch (world_of l.within) (numbering_of l.within) (binding_of l.scope)) l.parts)
    (width (idle 1 ∷ []) (ch (world_of l.within) (numbering_of l.within) (binding_of l.scope)) (wi (world_of l.within) (numbering_of l.within) (binding_of l.scope)) l.parts)

abbrev pub invariant-draw_bound-loop-object : goal.invariant-draw_bound-loop-object
invariant-draw_bound-loop-object l =
    Walk (choices (world_of l.within) (numbering_of l.within) l.inner) (widest (world_of l.within) (numbering_of l.within) l.inner)
    l.product
    (flat_map (λ o. bindings (world_of l.within) (drop 1 l.variables) ((l.first.name, object_at l.within.table.now o) ∷ binding_of l.scope)) (drop l.object-index l.object-items))
    (drawn l.fn.before (choices (world_of l.within) (numbering_of l.within) l.inner) (bindings (world_of l.within) l.variables (binding_of l.scope)))
    (width l.fn.before (choices (world_of l.within) (numbering_of l.within) l.inner) (widest (world_of l.within) (numbering_of l.within) l.inner)
    (bindings (world_of l.within) l.variables (binding_of l.scope)))

abbrev pub invariant-draw_branches-loop-branch : goal.invariant-draw_branches-loop-branch
invariant-draw_branches-loop-branch l =
    Gathered (world_of l.within) (numbering_of l.within) l.own l.inner (binding_of l.scope) l.merged (drop l.branch-index l.branches) l.branches
