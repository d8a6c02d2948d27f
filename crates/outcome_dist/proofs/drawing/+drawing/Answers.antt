use Rattle.std.proofs.Common.{rules, ◌≡◌, ℕ, ◌+◌, ◌-◌, ◌*◌, ◌≤◌, [], ◌∷◌, ◌++◌, List, length, take, drop, map, get_or, true≢false, refl, sym, ap, subst, ◌∙◌, arith}
use Rattle.std.specs.Prelude.{◌==◌, All, IfOk, IfErr, flat_map}
use Rattle.plain_list.specs.weighted.Mean.{total}
use Rattle.ppddl_model.specs.declared.tree.Branch.{Branch}
use Rattle.ppddl_model.specs.declared.tree.Effect.{Effect}
use Rattle.ppddl_model.specs.Objects.{World, Binding, bindings}
use Rattle.ppddl_model.specs.State.{Name}
use Rattle.ground_model.specs.declared.action.Choice.{Choice}
use Rattle.ground_model.specs.declared.limits.TheConstants.{MOST_CHOICES}
use Rattle.ground_meaning.specs.choices.Numbering.{Numbering}
use Rattle.ground_meaning.specs.choices.Joint.{idle, guard, choices, with_factor}
use Rattle.ground_meaning.specs.choices.Limits.{widest}
use Rattle.ground_meaning.proofs.lemmas.choices.Invariant.{choices_weigh}
use Rattle.type_table.specs.Types.{object_at}
use Rattle.ground_terms.specs.terms.Scopes.{binding_of}
use Rattle.outcome_dist.specs.lists.Piles.{Weighs, merging}
use Rattle.outcome_dist.specs.lists.Refusals.{IsTooMany}
use Rattle.outcome_dist.specs.conditions.Bindings.{world_of, numbering_of}
use Rattle.outcome_dist.specs.Draws.{IsWide, drawn, width, branches_width}
use Rattle.outcome_dist.proofs.EffectForms.{ch, wi, mass, branch_mass, mass-Both, mass-Forall, mass-When, mass-Chance, part-within}
use Rattle.outcome_dist.proofs.EffectForms.{choices-Both, width-Both, choices-Forall, width-Forall, choices-When, width-When, choices-Chance, width-Chance}
use Rattle.outcome_dist.proofs.EffectForms.{first_variable, flat-map, tail_is, ok_always, drop-all}
use Rattle.outcome_dist.proofs.Walks.{walk_start, walk_list, walk_one, walk_many, part_refused, put_refused, many_refused, drop_at}
use Rattle.outcome_dist.proofs.Gathering.{whole, gathered_list, gathered_more, gather_refused, with_the_rest, rest_refused, all_narrow, branch_is, whole_same, width_is}
use Rattle.outcome_dist.proofs.lemmas.conditions.GroundSteps.{no_ways}
use Rattle.outcome_dist.proofs.drawing.+drawing.Goals as goal

-- ---- calls

pub draw-draw_each-requires : goal.draw-draw_each-requires
draw-draw_each-requires t c =
    let size = mass-Both c.in-Both.parts in
    let whole = ap mass c.in-Both.is in
    let part = ap (total mass) c.as_slice.ensures in
    let before : 3 * mass c.args.effect.now ≡ t = c.decreases in
    (omega (arith, size, whole, part, before), c.requires)

pub draw-draw_ways-requires : goal.draw-draw_ways-requires
draw-draw_ways-requires t c =
    let size = mass-Forall c.in-Forall.variables c.in-Forall.inner in
    let whole = ap mass c.in-Forall.is in
    let part = ap mass c.get.ensures in
    let count = ap length c.as_slice-in-Forall.ensures in
    let before : 3 * mass c.args.effect.now ≡ t = c.decreases in
    (omega (arith, size, whole, part, count, before), c.requires)

pub draw-draw-requires : goal.draw-draw-requires
draw-draw-requires t c =
    let size = mass-When c.in-When.condition c.in-When.inner in
    let whole = ap mass c.in-When.is in
    let part = ap mass c.get-in-When.ensures in
    let before : 3 * mass c.args.effect.now ≡ t = c.decreases in
    (omega (arith, size, whole, part, before), c.requires)

pub draw-draw_branches-requires : goal.draw-draw_branches-requires
draw-draw_branches-requires t c =
    let size = mass-Chance c.in-Chance.branches in
    let whole = ap mass c.in-Chance.is in
    let part = ap (total branch_mass) c.as_slice-in-Chance.ensures in
    let before : 3 * mass c.args.effect.now ≡ t = c.decreases in
    (omega (arith, size, whole, part, before), c.requires)

pub draw_each-draw-requires : goal.draw_each-draw-requires
draw_each-draw-requires t c =
    let within = part-within mass c.args.parts.now c.loop-part.part-index c.part-item.result c.loop-part-test.true in
    let part = ap mass c.part-item.is in
    let before : 3 * total mass c.args.parts.now + 1 ≡ t = c.decreases in
    (omega (arith, within, part, before), c.requires)

pub draw_branches-draw-requires : goal.draw_branches-draw-requires
draw_branches-draw-requires t c =
    let within = part-within branch_mass c.args.branches.now c.loop-branch.branch-index c.branch-item.result c.loop-branch-test.true in
    let part = ap branch_mass c.branch-item.is in
    let before : 3 * total branch_mass c.args.branches.now + 1 ≡ t = c.decreases in
    (omega (arith, within, part, before), c.requires)

-- ---- forms

pub draw-returns-in_err-product-in-Both-clause-refused : goal.draw-returns-in_err-product-in-Both-clause-refused
draw-returns-in_err-product-in-Both-clause-refused t c =
    let w = world_of c.args.within.now in let n = numbering_of c.args.within.now in let b = binding_of c.args.scope.now in
    let k : IsWide c.in_err-product-in-Both.field-0.0 (widest w n c.args.effect.now b) =
    subst (IsWide c.in_err-product-in-Both.field-0.0) (width-Both w n c.args.effect.now c.in-Both.parts c.as_slice.result.now b c.in-Both.is c.as_slice.ensures)
    c.in_err-product-in-Both.ensures.refused in
    search (rules, k)

pub draw-returns-in_err-product-in-Forall-clause-refused : goal.draw-returns-in_err-product-in-Forall-clause-refused
draw-returns-in_err-product-in-Forall-clause-refused t c =
    let w = world_of c.args.within.now in let n = numbering_of c.args.within.now in let b = binding_of c.args.scope.now in
    let k : IsWide c.in_err-product-in-Forall.field-0.0 (widest w n c.args.effect.now b) =
    subst (IsWide c.in_err-product-in-Forall.field-0.0)
    ((λ i. width (c.in_ok-new-in-Forall.ensures i) (choices w n c.get.result.now) (widest w n c.get.result.now) (bindings w c.as_slice-in-Forall.result.now b))
    ∙ width-Forall w n c.args.effect.now c.in-Forall.inner c.get.result.now c.in-Forall.variables c.as_slice-in-Forall.result.now b c.in-Forall.is c.get.ensures
    c.as_slice-in-Forall.ensures) c.in_err-product-in-Forall.ensures.refused in
    search (rules, k)

pub draw-returns-in_err-drafts-in-When-clause-refused : goal.draw-returns-in_err-drafts-in-When-clause-refused
draw-returns-in_err-drafts-in-When-clause-refused t c =
    let w = world_of c.args.within.now in let n = numbering_of c.args.within.now in let b = binding_of c.args.scope.now in
    let k : IsWide c.in_err-drafts-in-When.field-0.0 (widest w n c.args.effect.now b) =
    subst (IsWide c.in_err-drafts-in-When.field-0.0)
    (width-When w n c.args.effect.now c.in-When.inner c.get-in-When.result.now c.in-When.condition b c.in-When.is c.get-in-When.ensures)
    c.in_err-drafts-in-When.ensures.refused in
    search (rules, k)

pub draw-returns-in_ok-product-in-Both-clause-found : goal.draw-returns-in_ok-product-in-Both-clause-found
draw-returns-in_ok-product-in-Both-clause-found t c =
    let w = world_of c.args.within.now in let n = numbering_of c.args.within.now in let b = binding_of c.args.scope.now in
    subst (λ l. IfOk c.into_list.result (λ v. v.items ≡ l))
    (c.in_ok-product-in-Both.ensures.found ∙ choices-Both w n c.args.effect.now c.in-Both.parts c.as_slice.result.now b c.in-Both.is c.as_slice.ensures)
    c.into_list.ensures.list

pub draw-returns-in_ok-product-in-Both-clause-narrow : goal.draw-returns-in_ok-product-in-Both-clause-narrow
draw-returns-in_ok-product-in-Both-clause-narrow t c =
    let w = world_of c.args.within.now in let n = numbering_of c.args.within.now in let b = binding_of c.args.scope.now in
    ok_always (widest w n c.args.effect.now b ≤ MOST_CHOICES)
    (subst (λ k. k ≤ MOST_CHOICES) (width-Both w n c.args.effect.now c.in-Both.parts c.as_slice.result.now b c.in-Both.is c.as_slice.ensures)
    c.in_ok-product-in-Both.ensures.narrow) c.into_list.result

pub draw-returns-in_ok-product-in-Forall-clause-found : goal.draw-returns-in_ok-product-in-Forall-clause-found
draw-returns-in_ok-product-in-Forall-clause-found t c =
    let w = world_of c.args.within.now in let n = numbering_of c.args.within.now in let b = binding_of c.args.scope.now in
    subst (λ l. IfOk c.into_list-in-Forall.result (λ v. v.items ≡ l))
    (c.in_ok-product-in-Forall.ensures.found
    ∙ (λ i. drawn (c.in_ok-new-in-Forall.ensures i) (choices w n c.get.result.now) (bindings w c.as_slice-in-Forall.result.now b))
    ∙ choices-Forall w n c.args.effect.now c.in-Forall.inner c.get.result.now c.in-Forall.variables c.as_slice-in-Forall.result.now b c.in-Forall.is c.get.ensures
    c.as_slice-in-Forall.ensures)
    c.into_list-in-Forall.ensures.list

pub draw-returns-in_ok-product-in-Forall-clause-narrow : goal.draw-returns-in_ok-product-in-Forall-clause-narrow
draw-returns-in_ok-product-in-Forall-clause-narrow t c =
    let w = world_of c.args.within.now in let n = numbering_of c.args.within.now in let b = binding_of c.args.scope.now in
    ok_always (widest w n c.args.effect.now b ≤ MOST_CHOICES)
    (subst (λ k. k ≤ MOST_CHOICES)
    ((λ i. width (c.in_ok-new-in-Forall.ensures i) (choices w n c.get.result.now) (widest w n c.get.result.now) (bindings w c.as_slice-in-Forall.result.now b))
    ∙ width-Forall w n c.args.effect.now c.in-Forall.inner c.get.result.now c.in-Forall.variables c.as_slice-in-Forall.result.now b c.in-Forall.is c.get.ensures
    c.as_slice-in-Forall.ensures)
    c.in_ok-product-in-Forall.ensures.narrow) c.into_list-in-Forall.result

pub draw-returns-in_ok-guard_all-in-When-clause-found : goal.draw-returns-in_ok-guard_all-in-When-clause-found
draw-returns-in_ok-guard_all-in-When-clause-found t c =
    let w = world_of c.args.within.now in let n = numbering_of c.args.within.now in let b = binding_of c.args.scope.now in
    c.in_ok-guard_all-in-When.ensures
    ∙ (λ i. map (guard (c.in_ok-test-in-When.ensures i))
    ((c.as_slice-in-When.ensures.value ∙ c.in_ok-drafts-in-When.ensures.found ∙ ap (λ e. choices w n e b) c.get-in-When.ensures) i))
    ∙ choices-When w n c.args.effect.now c.in-When.inner c.in-When.condition b c.in-When.is

pub draw-returns-in_ok-guard_all-in-When-clause-narrow : goal.draw-returns-in_ok-guard_all-in-When-clause-narrow
draw-returns-in_ok-guard_all-in-When-clause-narrow t c =
    let w = world_of c.args.within.now in let n = numbering_of c.args.within.now in let b = binding_of c.args.scope.now in
    subst (λ k. k ≤ MOST_CHOICES)
    (width-When w n c.args.effect.now c.in-When.inner c.get-in-When.result.now c.in-When.condition b c.in-When.is c.get-in-When.ensures)
    c.in_ok-drafts-in-When.ensures.narrow

pub draw-returns-in-Chance-clause-found : goal.draw-returns-in-Chance-clause-found
draw-returns-in-Chance-clause-found t c =
    let w = world_of c.args.within.now in let n = numbering_of c.args.within.now in let b = binding_of c.args.scope.now in
    subst (λ l. IfOk c.draw_branches.result (λ v. v.items ≡ l))
    (choices-Chance w n c.args.effect.now c.in-Chance.branches c.as_slice-in-Chance.result.now b c.in-Chance.is c.as_slice-in-Chance.ensures)
    c.draw_branches.ensures.found

pub draw-returns-in-Chance-clause-narrow : goal.draw-returns-in-Chance-clause-narrow
draw-returns-in-Chance-clause-narrow t c =
    let w = world_of c.args.within.now in let n = numbering_of c.args.within.now in let b = binding_of c.args.scope.now in
    subst (λ k. IfOk c.draw_branches.result (λ _. k ≤ MOST_CHOICES))
    (width-Chance w n c.args.effect.now c.in-Chance.branches c.as_slice-in-Chance.result.now b c.in-Chance.is c.as_slice-in-Chance.ensures)
    c.draw_branches.ensures.narrow

pub draw-returns-in-Chance-clause-refused : goal.draw-returns-in-Chance-clause-refused
draw-returns-in-Chance-clause-refused t c =
    let w = world_of c.args.within.now in let n = numbering_of c.args.within.now in let b = binding_of c.args.scope.now in
    subst (λ k. IfErr c.draw_branches.result (λ e. IsWide e k))
    (width-Chance w n c.args.effect.now c.in-Chance.branches c.as_slice-in-Chance.result.now b c.in-Chance.is c.as_slice-in-Chance.ensures)
    c.draw_branches.ensures.refused

-- ---- parts

pub draw_each-put-requires : goal.draw_each-put-requires
draw_each-put-requires t c =
    subst (λ l. All Weighs l) (sym c.in_ok-factor.ensures.found)
    (choices_weigh (world_of c.args.within.now) (numbering_of c.args.within.now) c.part-item.result (binding_of c.args.scope.now))

-- ---- bindings

pub draw_ways-returns-then-count_bindings-eq0-clause-found : goal.draw_ways-returns-then-count_bindings-eq0-clause-found
draw_ways-returns-then-count_bindings-eq0-clause-found t c =
    let w : World = world_of c.args.within.now in let n : Numbering = numbering_of c.args.within.now in
    sym (ap (drawn c.args.before (choices w n c.args.inner.now))
    (no_ways c.args.within.now c.args.variables.now (binding_of c.args.scope.now) (sym c.count_bindings.ensures ∙ c.if-count_bindings-eq0.true)))

pub draw_ways-returns-then-count_bindings-eq0-clause-narrow : goal.draw_ways-returns-then-count_bindings-eq0-clause-narrow
draw_ways-returns-then-count_bindings-eq0-clause-narrow t c =
    let w : World = world_of c.args.within.now in let n : Numbering = numbering_of c.args.within.now in
    subst (λ l. width c.args.before (choices w n c.args.inner.now) (widest w n c.args.inner.now) l ≤ MOST_CHOICES)
    (sym (no_ways c.args.within.now c.args.variables.now (binding_of c.args.scope.now) (sym c.count_bindings.ensures ∙ c.if-count_bindings-eq0.true)))
    (omega arith)

pub draw_bound-put-requires : goal.draw_bound-put-requires
draw_bound-put-requires t c =
    subst (λ l. All Weighs l) (sym c.in_ok-factor.ensures.found)
    (choices_weigh (world_of c.args.within.now) (numbering_of c.args.within.now) c.args.inner.now (binding_of c.args.scope.now))

pub draw_bound-loop-object-init : goal.draw_bound-loop-object-init
draw_bound-loop-object-init t c =
    let w : World = world_of c.args.within.now in let n : Numbering = numbering_of c.args.within.now in let b : Binding = binding_of c.args.scope.now in
    let f : Name → List Binding = λ (o : Name). bindings w (drop 1 c.args.variables.now) ((c.index-variables-0.result.name, o) ∷ b) in
    let items : List ℕ = c.as_slice-object-items.result.now in
    let objects = ap (map (object_at c.args.within.now.table.now)) c.as_slice-object-items.ensures ∙ c.in_ok-objects.ensures.objects in
    let all = first_variable w c.args.variables.now c.index-variables-0.result b
    (λ none. true≢false (sym (ap (λ k. k == 0) none) ∙ sym c.is_empty.ensures ∙ c.if-is_empty.false)) c.index-variables-0.is
    ∙ sym (flat-map f (object_at c.args.within.now.table.now) items ∙ ap (flat_map f) objects) in
    walk_list (choices w n c.args.inner.now) (widest w n c.args.inner.now) c.args.before (bindings w c.args.variables.now b) _ _ _ all
    (walk_start (choices w n c.args.inner.now) (widest w n c.args.inner.now) c.args.before c.args.before (bindings w c.args.variables.now b) refl)

pub draw_bound-loop-object-preserved : goal.draw_bound-loop-object-preserved
draw_bound-loop-object-preserved t c =
    let w : World = world_of c.args.within.now in let n : Numbering = numbering_of c.args.within.now in let b : Binding = binding_of c.args.scope.now in
    let vars = c.args.variables.now in
    let f : ℕ → List Binding = λ (o : ℕ). bindings w (drop 1 vars) ((c.index-variables-0.result.name, object_at c.args.within.now.table.now o) ∷ b) in
    let items : List ℕ = c.as_slice-object-items.result.now in
    let i : ℕ = c.loop-object.object-index in
    let seg : bindings w (take (length vars - 1) (drop 1 vars)) ((c.as_slice.result.now, c.object_name.result.now) ∷ b) ≡ f (get_or items i 0) =
    ap (λ l. bindings w l ((c.as_slice.result.now, c.object_name.result.now) ∷ b)) (tail_is vars)
    ∙ ap (λ k. bindings w (drop 1 vars) ((k, c.object_name.result.now) ∷ b)) c.as_slice.ensures
    ∙ ap (λ o. bindings w (drop 1 vars) ((c.index-variables-0.result.name, o) ∷ b)) c.object_name.ensures.name in
    walk_many (choices w n c.args.inner.now) (widest w n c.args.inner.now) c.loop-object.product c.in_ok-product.product (f (get_or items i 0)) (flat_map f (drop (i + 1) items)) _ _
    (walk_list (choices w n c.args.inner.now) (widest w n c.args.inner.now) c.loop-object.product (flat_map f (drop i items))
    (f (get_or items i 0) ++ flat_map f (drop (i + 1) items)) _ _ (ap (flat_map f) (drop_at items i (get_or items i 0) 0 c.loop-object-test.true refl)) c.loop-object.invariant)
    (c.in_ok-product.ensures.found ∙ ap (drawn c.loop-object.product (choices w n c.args.inner.now)) seg)
    (subst (λ l. width c.loop-object.product (choices w n c.args.inner.now) (widest w n c.args.inner.now) l ≤ MOST_CHOICES) seg c.in_ok-product.ensures.narrow)

pub draw_bound-returns-in_err-product-clause-refused : goal.draw_bound-returns-in_err-product-clause-refused
draw_bound-returns-in_err-product-clause-refused t c =
    let w : World = world_of c.args.within.now in let n : Numbering = numbering_of c.args.within.now in let b : Binding = binding_of c.args.scope.now in
    let vars = c.args.variables.now in
    let f : ℕ → List Binding = λ (o : ℕ). bindings w (drop 1 vars) ((c.index-variables-0.result.name, object_at c.args.within.now.table.now o) ∷ b) in
    let items : List ℕ = c.as_slice-object-items.result.now in
    let i : ℕ = c.loop-object.object-index in
    let seg : bindings w (take (length vars - 1) (drop 1 vars)) ((c.as_slice.result.now, c.object_name.result.now) ∷ b) ≡ f (get_or items i 0) =
    ap (λ l. bindings w l ((c.as_slice.result.now, c.object_name.result.now) ∷ b)) (tail_is vars)
    ∙ ap (λ k. bindings w (drop 1 vars) ((k, c.object_name.result.now) ∷ b)) c.as_slice.ensures
    ∙ ap (λ o. bindings w (drop 1 vars) ((c.index-variables-0.result.name, o) ∷ b)) c.object_name.ensures.name in
    let k : IsWide c.in_err-product.field-0.0 (width c.args.before (choices w n c.args.inner.now) (widest w n c.args.inner.now) (bindings w vars b)) =
    many_refused (choices w n c.args.inner.now) (widest w n c.args.inner.now) c.in_err-product.field-0.0 c.loop-object.product (f (get_or items i 0)) (flat_map f (drop (i + 1) items)) _ _
    (walk_list (choices w n c.args.inner.now) (widest w n c.args.inner.now) c.loop-object.product (flat_map f (drop i items))
    (f (get_or items i 0) ++ flat_map f (drop (i + 1) items)) _ _ (ap (flat_map f) (drop_at items i (get_or items i 0) 0 c.loop-object-test.true refl)) c.loop-object.invariant)
    (subst (λ l. IsWide c.in_err-product.field-0.0 (width c.loop-object.product (choices w n c.args.inner.now) (widest w n c.args.inner.now) l)) seg c.in_err-product.ensures.refused) in
    search (rules, k)

-- ---- branches

pub draw_branches-loop-branch-preserved : goal.draw_branches-loop-branch-preserved
draw_branches-loop-branch-preserved t c =
    let w : World = world_of c.args.within.now in let n : Numbering = numbering_of c.args.within.now in let b : Binding = binding_of c.args.scope.now in
    let x : Branch = c.branch-item.result in
    let i : ℕ = c.loop-branch.branch-index in
    let factor = branch_is n c.in_ok-own.own c.in_ok-inner.inner b c.args.within.now.table.now c.args.within.now.values.now x c.in-Ok.factor c.in-Ok-draw.drafts.items
    c.in-Ok.ensures c.in-Ok-draw.ensures.found in
    gathered_more w n c.in_ok-own.own c.in_ok-inner.inner b c.loop-branch.merged c.in_ok-merged-in-Ok-draw.merged x (drop (i + 1) c.args.branches.now) c.args.branches.now
    (gathered_list w n c.in_ok-own.own c.in_ok-inner.inner b c.loop-branch.merged (drop i c.args.branches.now) (x ∷ drop (i + 1) c.args.branches.now) c.args.branches.now
    (drop_at c.args.branches.now i x x c.loop-branch-test.true c.branch-item.is) c.loop-branch.invariant)
    (c.in_ok-merged-in-Ok-draw.ensures.put ∙ ap (merging c.loop-branch.merged) factor) c.in-Ok-draw.ensures.narrow

pub draw_branches-returns-in_err-merged-in-Ok-draw-clause-refused : goal.draw_branches-returns-in_err-merged-in-Ok-draw-clause-refused
draw_branches-returns-in_err-merged-in-Ok-draw-clause-refused t c =
    let w : World = world_of c.args.within.now in let n : Numbering = numbering_of c.args.within.now in let b : Binding = binding_of c.args.scope.now in
    let x : Branch = c.branch-item.result in
    let i : ℕ = c.loop-branch.branch-index in
    let factor = branch_is n c.in_ok-own.own c.in_ok-inner.inner b c.args.within.now.table.now c.args.within.now.values.now x c.in-Ok.factor c.in-Ok-draw.drafts.items
    c.in-Ok.ensures c.in-Ok-draw.ensures.found in
    let k : IsWide c.in_err-merged-in-Ok-draw.field-0.0 (branches_width w n c.args.branches.now b) =
    subst (IsWide c.in_err-merged-in-Ok-draw.field-0.0)
    (width_is n c.in_ok-own.own c.in_ok-inner.inner b c.args.within.now.table.now c.args.within.now.values.now c.args.branches.now c.in_ok-own.ensures c.in_ok-inner.ensures)
    (gather_refused w n c.in_ok-own.own c.in_ok-inner.inner b c.in_err-merged-in-Ok-draw.field-0.0 c.loop-branch.merged x (drop (i + 1) c.args.branches.now) c.args.branches.now
    (gathered_list w n c.in_ok-own.own c.in_ok-inner.inner b c.loop-branch.merged (drop i c.args.branches.now) (x ∷ drop (i + 1) c.args.branches.now) c.args.branches.now
    (drop_at c.args.branches.now i x x c.loop-branch-test.true c.branch-item.is) c.loop-branch.invariant)
    (subst (λ l. IsTooMany c.in_err-merged-in-Ok-draw.field-0.0 (merging c.loop-branch.merged l)) factor c.in_err-merged-in-Ok-draw.ensures.refused)) in
    search (rules, k)

pub draw_branches-returns-in_err-whole-clause-refused : goal.draw_branches-returns-in_err-whole-clause-refused
draw_branches-returns-in_err-whole-clause-refused t c =
    let w : World = world_of c.args.within.now in let n : Numbering = numbering_of c.args.within.now in let b : Binding = binding_of c.args.scope.now in
    let i : ℕ = c.loop-branch.branch-index in
    let past : length c.args.branches.now ≤ i = omega arith in
    let kept = gathered_list w n c.in_ok-own.own c.in_ok-inner.inner b c.loop-branch.merged (drop i c.args.branches.now) [] c.args.branches.now
    (drop-all i c.args.branches.now past) c.loop-branch.invariant in
    let rest = c.idle.ensures ∙ ap idle c.saturating_sub.ensures in
    let k : IsWide c.in_err-whole.field-0.0 (branches_width w n c.args.branches.now b) =
    subst (IsWide c.in_err-whole.field-0.0)
    (width_is n c.in_ok-own.own c.in_ok-inner.inner b c.args.within.now.table.now c.args.within.now.values.now c.args.branches.now c.in_ok-own.ensures c.in_ok-inner.ensures)
    (rest_refused w n c.in_ok-own.own c.in_ok-inner.inner b c.in_err-whole.field-0.0 c.loop-branch.merged c.args.branches.now c.in_ok-den.den c.in-Ok-total.used kept
    c.in_ok-den.ensures c.in-Ok-total.ensures
    (subst (λ (d : Choice). IsTooMany c.in_err-whole.field-0.0 (merging c.loop-branch.merged (d ∷ []))) rest c.in_err-whole.ensures.refused)) in
    search (rules, k)

pub draw_branches-returns-clause-found : goal.draw_branches-returns-clause-found
draw_branches-returns-clause-found t c =
    let w : World = world_of c.args.within.now in let n : Numbering = numbering_of c.args.within.now in let b : Binding = binding_of c.args.scope.now in
    let i : ℕ = c.loop-branch.branch-index in
    let past : length c.args.branches.now ≤ i = omega arith in
    let kept = gathered_list w n c.in_ok-own.own c.in_ok-inner.inner b c.loop-branch.merged (drop i c.args.branches.now) [] c.args.branches.now
    (drop-all i c.args.branches.now past) c.loop-branch.invariant in
    let rest = c.idle.ensures ∙ ap idle c.saturating_sub.ensures in
    c.into_list.ensures.list ∙ c.in_ok-whole.ensures.put ∙ ap (λ (d : Choice). merging c.loop-branch.merged (d ∷ [])) rest
    ∙ with_the_rest w n c.in_ok-own.own c.in_ok-inner.inner b c.loop-branch.merged c.args.branches.now c.in_ok-den.den c.in-Ok-total.used kept c.in_ok-den.ensures c.in-Ok-total.ensures
    ∙ whole_same n c.in_ok-own.own c.in_ok-inner.inner b c.args.within.now.table.now c.args.within.now.values.now c.args.branches.now c.in_ok-own.ensures c.in_ok-inner.ensures

pub draw_branches-returns-clause-narrow : goal.draw_branches-returns-clause-narrow
draw_branches-returns-clause-narrow t c =
    let w : World = world_of c.args.within.now in let n : Numbering = numbering_of c.args.within.now in let b : Binding = binding_of c.args.scope.now in
    let i : ℕ = c.loop-branch.branch-index in
    let past : length c.args.branches.now ≤ i = omega arith in
    let kept = gathered_list w n c.in_ok-own.own c.in_ok-inner.inner b c.loop-branch.merged (drop i c.args.branches.now) [] c.args.branches.now
    (drop-all i c.args.branches.now past) c.loop-branch.invariant in
    let rest = c.idle.ensures ∙ ap idle c.saturating_sub.ensures in
    let is : c.in_ok-whole.whole ≡ whole w n c.in_ok-own.own c.in_ok-inner.inner b c.args.branches.now =
    c.in_ok-whole.ensures.put ∙ ap (λ (d : Choice). merging c.loop-branch.merged (d ∷ [])) rest
    ∙ with_the_rest w n c.in_ok-own.own c.in_ok-inner.inner b c.loop-branch.merged c.args.branches.now c.in_ok-den.den c.in-Ok-total.used kept c.in_ok-den.ensures c.in-Ok-total.ensures in
    subst (λ k. k ≤ MOST_CHOICES)
    (width_is n c.in_ok-own.own c.in_ok-inner.inner b c.args.within.now.table.now c.args.within.now.values.now c.args.branches.now c.in_ok-own.ensures c.in_ok-inner.ensures)
    (all_narrow w n c.in_ok-own.own c.in_ok-inner.inner b c.loop-branch.merged c.args.branches.now kept
    (subst (λ l. length l ≤ MOST_CHOICES) is c.into_list.ensures.few))

-- ---- parts, one after another

pub draw_each-loop-part-init : goal.draw_each-loop-part-init
draw_each-loop-part-init t c =
    let w : World = world_of c.args.within.now in let n : Numbering = numbering_of c.args.within.now in let b : Binding = binding_of c.args.scope.now in
    walk_start (ch w n b) (wi w n b) (idle 1 ∷ []) c.in_ok-start.start c.args.parts.now c.in_ok-start.ensures

pub draw_each-loop-part-preserved : goal.draw_each-loop-part-preserved
draw_each-loop-part-preserved t c =
    let w : World = world_of c.args.within.now in let n : Numbering = numbering_of c.args.within.now in let b : Binding = binding_of c.args.scope.now in
    let x : Effect = c.part-item.result in
    let i : ℕ = c.loop-part.part-index in
    walk_one (ch w n b) (wi w n b) c.loop-part.product c.in_ok-product.product x (drop (i + 1) c.args.parts.now) _ _
    (walk_list (ch w n b) (wi w n b) c.loop-part.product (drop i c.args.parts.now) (x ∷ drop (i + 1) c.args.parts.now) _ _
    (drop_at c.args.parts.now i x x c.loop-part-test.true c.part-item.is) c.loop-part.invariant)
    (c.in_ok-product.ensures.put ∙ ap (with_factor c.loop-part.product) c.in_ok-factor.ensures.found) c.in_ok-factor.ensures.narrow c.in_ok-product.ensures.few

pub draw_each-returns-in_err-factor-clause-refused : goal.draw_each-returns-in_err-factor-clause-refused
draw_each-returns-in_err-factor-clause-refused t c =
    let w : World = world_of c.args.within.now in let n : Numbering = numbering_of c.args.within.now in let b : Binding = binding_of c.args.scope.now in
    let x : Effect = c.part-item.result in
    let i : ℕ = c.loop-part.part-index in
    let k : IsWide c.in_err-factor.field-0.0 (width (idle 1 ∷ []) (ch w n b) (wi w n b) c.args.parts.now) =
    part_refused (ch w n b) (wi w n b) c.in_err-factor.field-0.0 c.loop-part.product x (drop (i + 1) c.args.parts.now) _ _
    (walk_list (ch w n b) (wi w n b) c.loop-part.product (drop i c.args.parts.now) (x ∷ drop (i + 1) c.args.parts.now) _ _
    (drop_at c.args.parts.now i x x c.loop-part-test.true c.part-item.is) c.loop-part.invariant) c.in_err-factor.ensures.refused in
    search (rules, k)

pub draw_each-returns-in_err-product-clause-refused : goal.draw_each-returns-in_err-product-clause-refused
draw_each-returns-in_err-product-clause-refused t c =
    let w : World = world_of c.args.within.now in let n : Numbering = numbering_of c.args.within.now in let b : Binding = binding_of c.args.scope.now in
    let x : Effect = c.part-item.result in
    let i : ℕ = c.loop-part.part-index in
    let k : IsWide c.in_err-product.field-0.0 (width (idle 1 ∷ []) (ch w n b) (wi w n b) c.args.parts.now) =
    put_refused (ch w n b) (wi w n b) c.in_err-product.field-0.0 c.loop-part.product x (drop (i + 1) c.args.parts.now) _ _
    (walk_list (ch w n b) (wi w n b) c.loop-part.product (drop i c.args.parts.now) (x ∷ drop (i + 1) c.args.parts.now) _ _
    (drop_at c.args.parts.now i x x c.loop-part-test.true c.part-item.is) c.loop-part.invariant)
    (subst (λ l. IsTooMany c.in_err-product.field-0.0 (with_factor c.loop-part.product l)) c.in_ok-factor.ensures.found c.in_err-product.ensures.refused) in
    search (rules, k)
