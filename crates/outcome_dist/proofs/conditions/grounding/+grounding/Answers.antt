use Rattle.std.proofs.Common.{◌≡◌, ◌+◌, ◌*◌, ◌++◌, [], ◌∷◌, length, drop, map, true≢false, arith, sym, ap, subst, ◌∙◌}
use Rattle.std.specs.Prelude.{◌==◌, flat_map, IfOk}
use Rattle.plain_list.specs.weighted.Mean.{total}
use Rattle.ppddl_model.specs.Objects.{bindings}
use Rattle.type_table.specs.Types.{object_at}
use Rattle.ground_meaning.specs.choices.Numbering.{ground_condition}
use Rattle.ground_terms.specs.terms.Scopes.{binding_of}
use Rattle.outcome_dist.specs.conditions.Bindings.{world_of, numbering_of}
use Rattle.ground_model.specs.declared.condition.GroundCondition.TheVariants.{All, Any, Not}
use Rattle.outcome_dist.proofs.lemmas.conditions.GroundSteps.{no_ways, mass, mass-part, of_object, flat-map, first_variable, none_before}
use Rattle.outcome_dist.proofs.lemmas.conditions.GroundSteps.{mass-All, mass-Any, mass-Not, mass-Imply, mass-Exists, mass-Forall}
use Rattle.outcome_dist.proofs.lemmas.conditions.GroundSteps.{ground-All, ground-Any, ground-Not, ground-Imply, ground-Exists, ground-Forall}
use Rattle.outcome_dist.proofs.conditions.grounding.+grounding.Goals as goal

pub ground_each-ground_condition-requires : goal.ground_each-ground_condition-requires
ground_each-ground_condition-requires t c =
    let within = mass-part c.args.parts.now c.loop-part.part-index c.part-item.result c.loop-part-test.true in
    let part = ap mass c.part-item.is in
    let before : 3 * total mass c.args.parts.now + 1 ≡ t = c.decreases in
    (omega (arith, within, part, before), c.requires)

pub ground_bound-loop-object-init : goal.ground_bound-loop-object-init
ground_bound-loop-object-init t c =
    let w = world_of c.args.within.now in
    let n = numbering_of c.args.within.now in
    let b = binding_of c.args.scope.now in
    ap (λ l. c.args.done.items ++ l)
    (flat-map (of_object w n c.args.inner.now (drop 1 c.args.variables.now) c.index-variables-0.result b) (object_at c.args.within.now.table.now) c.as_slice-object-items.result.now
    ∙ ap (flat_map (of_object w n c.args.inner.now (drop 1 c.args.variables.now) c.index-variables-0.result b))
    (ap (map (object_at c.args.within.now.table.now)) c.as_slice-object-items.ensures ∙ c.in_ok-objects.ensures.objects)
    ∙ first_variable w n c.args.inner.now c.args.variables.now c.index-variables-0.result b
    (λ none. true≢false (sym (ap (λ k. k == 0) none) ∙ sym c.is_empty.ensures ∙ c.if-is_empty.false)) c.index-variables-0.is)

-- ---- recursive calls

pub ground_condition-ground_condition-requires : goal.ground_condition-ground_condition-requires
ground_condition-ground_condition-requires t c =
    let size = mass-Not c.in-Not.inner in
    let whole = ap mass c.in-Not.is in
    let part = ap mass c.get.ensures in
    let before : 3 * mass c.args.condition.now ≡ t = c.decreases in
    (omega (arith, size, whole, part, before), c.requires)

pub ground_condition-ground_each-requires : goal.ground_condition-ground_each-requires
ground_condition-ground_each-requires t c =
    let size = mass-All c.in-All.parts in
    let whole = ap mass c.in-All.is in
    let part = ap (total mass) c.as_slice.ensures in
    let before : 3 * mass c.args.condition.now ≡ t = c.decreases in
    (omega (arith, size, whole, part, before), c.requires)

pub ground_condition-ground_each-requires-in-Any : goal.ground_condition-ground_each-requires-in-Any
ground_condition-ground_each-requires-in-Any t c =
    let size = mass-Any c.in-Any.others in
    let whole = ap mass c.in-Any.is in
    let part = ap (total mass) c.as_slice-in-Any.ensures in
    let before : 3 * mass c.args.condition.now ≡ t = c.decreases in
    (omega (arith, size, whole, part, before), c.requires)

pub ground_condition-ground_condition-requires-in-Imply : goal.ground_condition-ground_condition-requires-in-Imply
ground_condition-ground_condition-requires-in-Imply t c =
    let size = mass-Imply c.in-Imply.first c.in-Imply.second in
    let whole = ap mass c.in-Imply.is in
    let part = ap mass c.get-in-Imply.ensures in
    let before : 3 * mass c.args.condition.now ≡ t = c.decreases in
    (omega (arith, size, whole, part, before), c.requires)

pub ground_condition-ground_condition-requires-in-Imply-2 : goal.ground_condition-ground_condition-requires-in-Imply-2
ground_condition-ground_condition-requires-in-Imply-2 t c =
    let size = mass-Imply c.in-Imply.first c.in-Imply.second in
    let whole = ap mass c.in-Imply.is in
    let part = ap mass c.get-in-Imply-2.ensures in
    let before : 3 * mass c.args.condition.now ≡ t = c.decreases in
    (omega (arith, size, whole, part, before), c.requires)

pub ground_condition-ground_ways-requires : goal.ground_condition-ground_ways-requires
ground_condition-ground_ways-requires t c =
    let size = mass-Exists c.in-Exists.variables c.in-Exists.inner in
    let whole = ap mass c.in-Exists.is in
    let part = ap mass c.get-in-Exists.ensures in
    let count = ap length c.as_slice-in-Exists.ensures in
    let before : 3 * mass c.args.condition.now ≡ t = c.decreases in
    (omega (arith, size, whole, part, count, before), c.requires)

pub ground_condition-ground_ways-requires-in-Forall : goal.ground_condition-ground_ways-requires-in-Forall
ground_condition-ground_ways-requires-in-Forall t c =
    let size = mass-Forall c.in-Forall.variables c.in-Forall.inner in
    let whole = ap mass c.in-Forall.is in
    let part = ap mass c.get-in-Forall.ensures in
    let count = ap length c.as_slice-in-Forall.ensures in
    let before : 3 * mass c.args.condition.now ≡ t = c.decreases in
    (omega (arith, size, whole, part, count, before), c.requires)

-- ---- what each form answers

pub ground_condition-returns-in_ok-new-in-Not : goal.ground_condition-returns-in_ok-new-in-Not
ground_condition-returns-in_ok-new-in-Not t c =
    ap Not (c.in_ok-new-in-Not.ensures ∙ c.in_ok-denied-in-Not.ensures)
    ∙ ground-Not (world_of c.args.within.now) (numbering_of c.args.within.now) c.args.condition.now c.in-Not.inner c.get.result.now
    (binding_of c.args.scope.now) c.in-Not.is c.get.ensures

pub ground_condition-returns-in_ok-each-in-All : goal.ground_condition-returns-in_ok-each-in-All
ground_condition-returns-in_ok-each-in-All t c =
    ap All (c.from_vec.ensures ∙ c.in_ok-each-in-All.ensures)
    ∙ ground-All (world_of c.args.within.now) (numbering_of c.args.within.now) c.args.condition.now c.in-All.parts c.as_slice.result.now
    (binding_of c.args.scope.now) c.in-All.is c.as_slice.ensures

pub ground_condition-returns-in_ok-each-in-Any : goal.ground_condition-returns-in_ok-each-in-Any
ground_condition-returns-in_ok-each-in-Any t c =
    ap Any (c.from_vec-in-Any.ensures ∙ c.in_ok-each-in-Any.ensures)
    ∙ ground-Any (world_of c.args.within.now) (numbering_of c.args.within.now) c.args.condition.now c.in-Any.others c.as_slice-in-Any.result.now
    (binding_of c.args.scope.now) c.in-Any.is c.as_slice-in-Any.ensures

pub ground_condition-returns-in_ok-both-in-Imply : goal.ground_condition-returns-in_ok-both-in-Imply
ground_condition-returns-in_ok-both-in-Imply t c =
    ap Any (c.in_ok-both-in-Imply.ensures
    ∙ (λ i. Not ((c.in_ok-new-in-Imply.ensures ∙ c.in_ok-denied-in-Imply.ensures) i) ∷ c.in_ok-follows-in-Imply.ensures i ∷ []))
    ∙ ground-Imply (world_of c.args.within.now) (numbering_of c.args.within.now) c.args.condition.now c.in-Imply.first c.in-Imply.second
    c.get-in-Imply.result.now c.get-in-Imply-2.result.now (binding_of c.args.scope.now) c.in-Imply.is c.get-in-Imply.ensures c.get-in-Imply-2.ensures

pub ground_condition-returns-in_ok-each-in-Exists : goal.ground_condition-returns-in_ok-each-in-Exists
ground_condition-returns-in_ok-each-in-Exists t c =
    ap Any (c.from_vec-in-Exists.ensures ∙ c.in_ok-each-in-Exists.ensures)
    ∙ ground-Exists (world_of c.args.within.now) (numbering_of c.args.within.now) c.args.condition.now c.in-Exists.inner c.get-in-Exists.result.now
    c.in-Exists.variables c.as_slice-in-Exists.result.now (binding_of c.args.scope.now) c.in-Exists.is c.get-in-Exists.ensures c.as_slice-in-Exists.ensures

pub ground_condition-returns-in_ok-each-in-Forall : goal.ground_condition-returns-in_ok-each-in-Forall
ground_condition-returns-in_ok-each-in-Forall t c =
    ap All (c.from_vec-in-Forall.ensures ∙ c.in_ok-each-in-Forall.ensures)
    ∙ ground-Forall (world_of c.args.within.now) (numbering_of c.args.within.now) c.args.condition.now c.in-Forall.inner c.get-in-Forall.result.now
    c.in-Forall.variables c.as_slice-in-Forall.result.now (binding_of c.args.scope.now) c.in-Forall.is c.get-in-Forall.ensures c.as_slice-in-Forall.ensures

-- ---- all ways to bind variables

pub ground_ways-returns-then-count_bindings-eq0 : goal.ground_ways-returns-then-count_bindings-eq0
ground_ways-returns-then-count_bindings-eq0 t c =
    let w = world_of c.args.within.now in
    let none = no_ways c.args.within.now c.args.variables.now (binding_of c.args.scope.now) (sym c.count_bindings.ensures ∙ c.if-count_bindings-eq0.true) in
    c.new-none.ensures.items ∙ sym (ap (map (ground_condition w (numbering_of c.args.within.now) c.args.inner.now)) none)

pub ground_ways-returns : goal.ground_ways-returns
ground_ways-returns t c =
    let each = map (ground_condition (world_of c.args.within.now) (numbering_of c.args.within.now) c.args.inner.now)
    (bindings (world_of c.args.within.now) c.args.variables.now (binding_of c.args.scope.now)) in
    subst (λ l. IfOk c.ground_bound.result (λ v. v.items ≡ l)) (none_before c.new-none.result.items each c.new-none.ensures.items) c.ground_bound.ensures
