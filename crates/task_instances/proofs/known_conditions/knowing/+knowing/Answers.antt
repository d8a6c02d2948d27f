use Rattle.std.proofs.Common.{◌≡◌, ℕ, Bool, Option, ◌∷◌, get_or, take, ◌-◌, true≢false, refl, ◌+◌, ◌*◌, length, drop, map, arith, cond, None, Some, false, ap, sym, ◌∙◌}
use Rattle.std.specs.Prelude.{◌==◌}
use Rattle.std.specs.List.{list_any}
use Rattle.ppddl_model.specs.State.{same_name}
use Rattle.ppddl_model.specs.Known.{known_not}
use Rattle.ppddl_model.specs.Objects.{ground_atom, bindings}
use Rattle.plain_list.specs.weighted.Mean.{total}
use Rattle.ppddl_model.specs.declared.tree.Condition.{Condition}
use Rattle.type_table.specs.Types.{object_at}
use Rattle.task_instances.specs.known_conditions.Known.{known_in, joined, joined_each}
use Rattle.ground_terms.specs.terms.Scopes.{binding_of}
use Rattle.task_instances.proofs.lemmas.known_conditions.KnowSteps.{each-nil, no_bindings, mass, mass-All, mass-Any, mass-Not, mass-Imply, mass-Exists, mass-Forall, mass-part, of_object, joined-none, map_map, first_variable, each-more, tail_is, if_ok, known-All, known-Any, known-Not, known-Imply, known-Exists, known-Forall}
use Rattle.task_instances.proofs.known_conditions.knowing.+knowing.Goals as goal

pub known-returns-in-Atom : goal.known-returns-in-Atom
known-returns-in-Atom t c =
    if_ok c.known_atom.result _ _ c.known_atom.ensures
    (ap (λ b. cond (list_any (same_name c.in-Atom.atom.predicate) c.args.facts.now.changing) None (Some b))
    (c.requires.keys.tell (ground_atom (binding_of c.args.scope.now) c.in-Atom.atom))
    ∙ ap (λ k. known_in c.args.table.now c.args.facts.now.changing c.args.facts.now.init.now k (binding_of c.args.scope.now)) (sym c.in-Atom.is))

pub known-returns-in-Equal : goal.known-returns-in-Equal
known-returns-in-Equal t c =
    ap Some c.is_same.ensures
    ∙ ap (λ k. known_in c.args.table.now c.args.facts.now.changing c.args.facts.now.init.now k (binding_of c.args.scope.now)) (sym c.in-Equal.is)

pub known-returns-in_ok-known-in-Not : goal.known-returns-in_ok-known-in-Not
known-returns-in_ok-known-in-Not t c =
    c.known_not.ensures ∙ ap known_not c.in_ok-known-in-Not.ensures
    ∙ known-Not c.args.table.now c.args.facts.now.changing c.args.facts.now.init.now c.args.condition.now c.in-Not.inner c.get.result.now
    (binding_of c.args.scope.now) c.in-Not.is c.get.ensures

pub known-returns-in-All : goal.known-returns-in-All
known-returns-in-All t c =
    if_ok c.known_parts.result _ _ c.known_parts.ensures
    (known-All c.args.table.now c.args.facts.now.changing c.args.facts.now.init.now c.args.condition.now c.in-All.parts c.as_slice.result.now
    (binding_of c.args.scope.now) c.in-All.is c.as_slice.ensures)

pub known-returns-in-Any : goal.known-returns-in-Any
known-returns-in-Any t c =
    if_ok c.known_parts-in-Any.result _ _ c.known_parts-in-Any.ensures
    (known-Any c.args.table.now c.args.facts.now.changing c.args.facts.now.init.now c.args.condition.now c.in-Any.parts c.as_slice-in-Any.result.now
    (binding_of c.args.scope.now) c.in-Any.is c.as_slice-in-Any.ensures)

pub known-returns-in_ok-follows-in-Imply : goal.known-returns-in_ok-follows-in-Imply
known-returns-in_ok-follows-in-Imply t c =
    c.joined.ensures
    ∙ ap (λ k. joined false k c.in_ok-follows-in-Imply.follows) (c.known_not-refuted.ensures ∙ ap known_not c.in_ok-known-in-Imply.ensures)
    ∙ ap (joined false (known_not (known_in c.args.table.now c.args.facts.now.changing c.args.facts.now.init.now c.get-in-Imply.result.now (binding_of c.args.scope.now))))
    c.in_ok-follows-in-Imply.ensures
    ∙ known-Imply c.args.table.now c.args.facts.now.changing c.args.facts.now.init.now c.args.condition.now c.in-Imply.first c.in-Imply.second
    c.get-in-Imply.result.now c.get-in-Imply-2.result.now (binding_of c.args.scope.now) c.in-Imply.is c.get-in-Imply.ensures c.get-in-Imply-2.ensures

pub known-returns-in-Exists : goal.known-returns-in-Exists
known-returns-in-Exists t c =
    if_ok c.known_quantified.result _ _ c.known_quantified.ensures
    (known-Exists c.args.table.now c.args.facts.now.changing c.args.facts.now.init.now c.args.condition.now c.in-Exists.inner c.get-in-Exists.result.now
    c.in-Exists.variables c.as_slice-in-Exists.result.now (binding_of c.args.scope.now) c.in-Exists.is c.get-in-Exists.ensures c.as_slice-in-Exists.ensures)

pub known-returns-in-Forall : goal.known-returns-in-Forall
known-returns-in-Forall t c =
    if_ok c.known_quantified-in-Forall.result _ _ c.known_quantified-in-Forall.ensures
    (known-Forall c.args.table.now c.args.facts.now.changing c.args.facts.now.init.now c.args.condition.now c.in-Forall.inner c.get-in-Forall.result.now
    c.in-Forall.variables c.as_slice-in-Forall.result.now (binding_of c.args.scope.now) c.in-Forall.is c.get-in-Forall.ensures c.as_slice-in-Forall.ensures)

pub known-known-requires : goal.known-known-requires
known-known-requires t c =
    let size = mass-Not c.in-Not.inner in
    let whole = ap mass c.in-Not.is in
    let part = ap mass c.get.ensures in
    let before : 3 * mass c.args.condition.now ≡ t = c.decreases in
    (omega (arith, size, whole, part, before), (c.requires.typed, c.requires.keys))

pub known-known_parts-requires : goal.known-known_parts-requires
known-known_parts-requires t c =
    let size = mass-All c.in-All.parts in
    let whole = ap mass c.in-All.is in
    let part = ap (total mass) c.as_slice.ensures in
    let before : 3 * mass c.args.condition.now ≡ t = c.decreases in
    (omega (arith, size, whole, part, before), (c.requires.typed, c.requires.keys))

pub known-known_parts-requires-in-Any : goal.known-known_parts-requires-in-Any
known-known_parts-requires-in-Any t c =
    let size = mass-Any c.in-Any.parts in
    let whole = ap mass c.in-Any.is in
    let part = ap (total mass) c.as_slice-in-Any.ensures in
    let before : 3 * mass c.args.condition.now ≡ t = c.decreases in
    (omega (arith, size, whole, part, before), (c.requires.typed, c.requires.keys))

pub known-known-requires-in-Imply : goal.known-known-requires-in-Imply
known-known-requires-in-Imply t c =
    let size = mass-Imply c.in-Imply.first c.in-Imply.second in
    let whole = ap mass c.in-Imply.is in
    let part = ap mass c.get-in-Imply.ensures in
    let before : 3 * mass c.args.condition.now ≡ t = c.decreases in
    (omega (arith, size, whole, part, before), (c.requires.typed, c.requires.keys))

pub known-known-requires-in-Imply-2 : goal.known-known-requires-in-Imply-2
known-known-requires-in-Imply-2 t c =
    let size = mass-Imply c.in-Imply.first c.in-Imply.second in
    let whole = ap mass c.in-Imply.is in
    let part = ap mass c.get-in-Imply-2.ensures in
    let before : 3 * mass c.args.condition.now ≡ t = c.decreases in
    (omega (arith, size, whole, part, before), (c.requires.typed, c.requires.keys))

pub known-known_quantified-requires : goal.known-known_quantified-requires
known-known_quantified-requires t c =
    let size = mass-Exists c.in-Exists.variables c.in-Exists.inner in
    let whole = ap mass c.in-Exists.is in
    let part = ap mass c.get-in-Exists.ensures in
    let count = ap length c.as_slice-in-Exists.ensures in
    let before : 3 * mass c.args.condition.now ≡ t = c.decreases in
    (omega (arith, size, whole, part, count, before), (c.requires.typed, c.requires.keys))

pub known-known_quantified-requires-in-Forall : goal.known-known_quantified-requires-in-Forall
known-known_quantified-requires-in-Forall t c =
    let size = mass-Forall c.in-Forall.variables c.in-Forall.inner in
    let whole = ap mass c.in-Forall.is in
    let part = ap mass c.get-in-Forall.ensures in
    let count = ap length c.as_slice-in-Forall.ensures in
    let before : 3 * mass c.args.condition.now ≡ t = c.decreases in
    (omega (arith, size, whole, part, count, before), (c.requires.typed, c.requires.keys))

pub known_parts-known-requires : goal.known_parts-known-requires
known_parts-known-requires t c =
    let within = mass-part c.args.parts.now c.loop-part.part-index c.part-item.result c.loop-part-test.true in
    let part = ap mass c.part-item.is in
    let before : 3 * total mass c.args.parts.now + 1 ≡ t = c.decreases in
    (omega (arith, within, part, before), (c.requires.typed, c.requires.keys))

pub known_bound-loop-object-init : goal.known_bound-loop-object-init
known_bound-loop-object-init t c =
    joined-none c.args.all _
    ∙ ap (joined_each c.args.all) (map_map (of_object c.args.table.now c.args.facts.now.changing c.args.facts.now.init.now c.args.all c.args.inner.now
    (drop 1 c.args.variables.now) c.index-variables-0.result (binding_of c.args.scope.now)) (object_at c.args.table.now) c.as_slice-object-items.result.now
    ∙ ap (map (of_object c.args.table.now c.args.facts.now.changing c.args.facts.now.init.now c.args.all c.args.inner.now
    (drop 1 c.args.variables.now) c.index-variables-0.result (binding_of c.args.scope.now)))
    (ap (map (object_at c.args.table.now)) c.as_slice-object-items.ensures ∙ c.in_ok-objects.ensures.objects))
    ∙ first_variable c.args.table.now c.args.facts.now.changing c.args.facts.now.init.now c.args.all c.args.inner.now c.args.variables.now
    c.index-variables-0.result (binding_of c.args.scope.now) (λ none. true≢false (sym (ap (λ k. k == 0) none) ∙ sym c.is_empty.ensures ∙ c.if-is_empty.false)) c.index-variables-0.is

pub known_bound-loop-object-preserved : goal.known_bound-loop-object-preserved
known_bound-loop-object-preserved t c =
    let w = c.args.table.now in
    let changing = c.args.facts.now.changing in
    let init = c.args.facts.now.init.now in
    let rest = drop 1 c.args.variables.now in
    let b = binding_of c.args.scope.now in
    let items = c.as_slice-object-items.result.now in
    let value : ℕ → Option Bool = λ o. of_object w changing init c.args.all c.args.inner.now rest c.index-variables-0.result b (object_at w o) in
    let here : c.in_ok-here.here ≡ joined_each c.args.all (map (known_in w changing init c.args.inner.now)
    (bindings w (take (length c.args.variables.now - 1) rest) ((c.as_slice.result.now, c.object_name.result.now) ∷ b))) = c.in_ok-here.ensures in
    let is : c.in_ok-here.here ≡ value (get_or items c.loop-object.object-index 0)
    = here
    ∙ ap (λ l. joined_each c.args.all (map (known_in w changing init c.args.inner.now) (bindings w l ((c.as_slice.result.now, c.object_name.result.now) ∷ b))))
    (tail_is c.args.variables.now)
    ∙ ap (λ n. joined_each c.args.all (map (known_in w changing init c.args.inner.now) (bindings w rest ((n, c.object_name.result.now) ∷ b)))) c.as_slice.ensures
    ∙ ap (of_object w changing init c.args.all c.args.inner.now rest c.index-variables-0.result b) c.object_name.ensures.name in
    ap (λ k. joined c.args.all k (joined_each c.args.all (map value (drop (c.loop-object.object-index + 1) items)))) c.joined-known_so_far.ensures
    ∙ each-more c.args.all value items c.loop-object.object-index (get_or items c.loop-object.object-index 0) 0 c.loop-object.known_so_far c.in_ok-here.here _
    c.loop-object-test.true refl is c.loop-object.invariant

pub known_parts-loop-part-preserved : goal.known_parts-loop-part-preserved
known_parts-loop-part-preserved t c =
    ap (λ k. joined c.args.all k (joined_each c.args.all (map (λ (x : Condition). known_in c.args.table.now c.args.facts.now.changing c.args.facts.now.init.now x
    (binding_of c.args.scope.now)) (drop (c.loop-part.part-index + 1) c.args.parts.now)))) c.joined-known_so_far.ensures
    ∙ each-more c.args.all (λ (x : Condition). known_in c.args.table.now c.args.facts.now.changing c.args.facts.now.init.now x (binding_of c.args.scope.now))
    c.args.parts.now c.loop-part.part-index c.part-item.result c.part-item.result c.loop-part.known_so_far c.in_ok-here.here _ c.loop-part-test.true c.part-item.is
    c.in_ok-here.ensures c.loop-part.invariant

pub known_quantified-returns-then-count_bindings-eq0 : goal.known_quantified-returns-then-count_bindings-eq0
known_quantified-returns-then-count_bindings-eq0 t c =
    let w = c.args.table.now in
    let b = binding_of c.args.scope.now in
    let none = no_bindings w c.args.variables.now b (sym c.count_bindings.ensures ∙ c.if-count_bindings-eq0.true) in
    sym (ap (λ l. joined_each c.args.all (map (known_in w c.args.facts.now.changing c.args.facts.now.init.now c.args.inner.now) l)) none ∙ each-nil c.args.all)
