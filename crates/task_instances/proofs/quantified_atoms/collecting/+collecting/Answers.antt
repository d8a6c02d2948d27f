use Rattle.std.proofs.Common.{◌≡◌, ◌+◌, ◌*◌, ◌<◌, ◌&&◌, [], length, refl, sym, ap, subst, ◌∙◌, arith}
use Rattle.std.specs.List.{list_all}
use Rattle.std.proofs.lemmas.Result.{on_ok_weaker}
use Rattle.plain_list.specs.weighted.Mean.{total}
use Rattle.ppddl_model.specs.Objects.{World, bindings}
use Rattle.ppddl_model.specs.Steps.{world}
use Rattle.ground_terms.specs.sizes.Counted.{counted}
use Rattle.task_instances.proofs.lemmas.facts.Mass.{mass, branch_mass, mass-Both, mass-Chance, mass-Forall, mass-When, part_mass}
use Rattle.task_instances.proofs.lemmas.facts.Ways.{no_ways}
use Rattle.task_instances.specs.quantified_atoms.Quantified.{all_pass, part_pass, IsWithAtoms}
use Rattle.task_instances.proofs.lemmas.quantified_atoms.Forms.{and_true, pass-Both, pass-Chance, pass-When, pass-Forall}
use Rattle.task_instances.proofs.lemmas.quantified_atoms.MoreVariables.{all_same, some_ways}
use Rattle.task_instances.proofs.quantified_atoms.collecting.+collecting.Goals as goal

-- ---- recursions end

pub add_atoms-add_each-requires : goal.add_atoms-add_each-requires
add_atoms-add_each-requires t c =
    let size = mass-Both c.in-Both.parts in
    let whole = ap mass c.in-Both.is in
    let part = ap (total mass) c.as_slice.ensures in
    let before : 3 * mass c.args.effect.now ≡ t = c.decreases in
    omega (arith, size, whole, part, before)

pub add_atoms-add_branches-requires : goal.add_atoms-add_branches-requires
add_atoms-add_branches-requires t c =
    let size = mass-Chance c.in-Chance.branches in
    let whole = ap mass c.in-Chance.is in
    let part = ap (total branch_mass) c.as_slice-in-Chance.ensures in
    let before : 3 * mass c.args.effect.now ≡ t = c.decreases in
    omega (arith, size, whole, part, before)

pub add_atoms-add_atoms-requires : goal.add_atoms-add_atoms-requires
add_atoms-add_atoms-requires t c =
    let size = mass-Forall c.in-Forall.variables c.in-Forall.inner in
    let whole = ap mass c.in-Forall.is in
    let part = ap mass c.get.ensures in
    let before : 3 * mass c.args.effect.now ≡ t = c.decreases in
    omega (arith, size, whole, part, before)

pub add_atoms-add_atoms-requires-in-When : goal.add_atoms-add_atoms-requires-in-When
add_atoms-add_atoms-requires-in-When t c =
    let size = mass-When c.in-When.field-0 c.in-When.inner in
    let whole = ap mass c.in-When.is in
    let part = ap mass c.get-in-When.ensures in
    let before : 3 * mass c.args.effect.now ≡ t = c.decreases in
    omega (arith, size, whole, part, before)

pub add_each-add_atoms-requires : goal.add_each-add_atoms-requires
add_each-add_atoms-requires t c =
    let within = part_mass mass c.args.parts.now c.loop-part.part-index c.part-item.result c.loop-part-test.true in
    let part = ap mass c.part-item.is in
    let before : 3 * total mass c.args.parts.now + 1 ≡ t = c.decreases in
    omega (arith, within, part, before)

pub add_branches-add_atoms-requires : goal.add_branches-add_atoms-requires
add_branches-add_atoms-requires t c =
    let within = part_mass branch_mass c.args.branches.now c.loop-branch.branch-index c.branch-item.result c.loop-branch-test.true in
    let part = ap branch_mass c.branch-item.is in
    let before : 3 * total branch_mass c.args.branches.now + 1 ≡ t = c.decreases in
    omega (arith, within, part, before)

-- ---- what is put in

pub add_atoms-returns-in-Both : goal.add_atoms-returns-in-Both
add_atoms-returns-in-Both t c =
    let w = world c.args.facts.now in
    on_ok_weaker {Q = IsWithAtoms w c.args.kind c.args.effect.now c.args.atoms.now.items c.add_each.new.atoms.items} c.add_each.result
    (λ is f b. is f b ∙ ap (λ t. all_pass w f c.args.atoms.now.items b && t)
    (pass-Both w f c.args.kind c.args.effect.now c.in-Both.parts c.as_slice.result.now b c.in-Both.is c.as_slice.ensures)) c.add_each.ensures

pub add_atoms-returns-in-Chance : goal.add_atoms-returns-in-Chance
add_atoms-returns-in-Chance t c =
    let w = world c.args.facts.now in
    on_ok_weaker {Q = IsWithAtoms w c.args.kind c.args.effect.now c.args.atoms.now.items c.add_branches.new.atoms.items} c.add_branches.result
    (λ is f b. is f b ∙ ap (λ t. all_pass w f c.args.atoms.now.items b && t)
    (pass-Chance w f c.args.kind c.args.effect.now c.in-Chance.branches c.as_slice-in-Chance.result.now b c.in-Chance.is c.as_slice-in-Chance.ensures))
    c.add_branches.ensures

pub add_atoms-returns-in-When : goal.add_atoms-returns-in-When
add_atoms-returns-in-When t c =
    let w = world c.args.facts.now in
    on_ok_weaker {Q = IsWithAtoms w c.args.kind c.args.effect.now c.args.atoms.now.items c.add_atoms-in-When.new.atoms.items} c.add_atoms-in-When.result
    (λ is f b. is f b ∙ ap (λ t. all_pass w f c.args.atoms.now.items b && t)
    (pass-When w f c.args.kind c.args.effect.now c.in-When.inner c.get-in-When.result.now c.in-When.field-0 b c.in-When.is c.get-in-When.ensures))
    c.add_atoms-in-When.ensures

pub add_atoms-returns-then-count_bindings-eq0 : goal.add_atoms-returns-then-count_bindings-eq0
add_atoms-returns-then-count_bindings-eq0 t c = λ f b.
    let w = world c.args.facts.now in
    let none = no_ways c.args.facts.now c.in-Forall.variables b
    (ap (λ (v : World). counted (length (bindings v c.in-Forall.variables []))) (sym c.table.ensures.table)
    ∙ ap (λ l. counted (length (bindings c.table.result.now l []))) (sym c.as_slice-in-Forall.ensures)
    ∙ sym c.count_bindings.ensures ∙ c.if-count_bindings-eq0.true) in
    and_true (all_pass w f c.args.atoms.now.items b)
    ∙ ap (λ t. all_pass w f c.args.atoms.now.items b && t)
    (ap (list_all (λ b'. part_pass w c.args.kind f b' c.in-Forall.inner)) (sym none)
    ∙ pass-Forall w f c.args.kind c.args.effect.now c.in-Forall.inner c.in-Forall.inner c.in-Forall.variables c.in-Forall.variables b c.in-Forall.is refl refl)

pub add_atoms-add_under-requires : goal.add_atoms-add_under-requires
add_atoms-add_under-requires t c =
    subst (λ l. 0 < length (bindings (world c.args.facts.now) l [])) (sym c.as_slice-in-Forall-2.ensures)
    (some_ways c.args.facts.now c.in-Forall.variables c.count_bindings.result
    (c.count_bindings.ensures
    ∙ ap (λ l. counted (length (bindings c.table.result.now l []))) c.as_slice-in-Forall.ensures
    ∙ ap (λ (v : World). counted (length (bindings v c.in-Forall.variables []))) c.table.ensures.table)
    c.if-count_bindings-eq0.false)

pub add_atoms-returns-in_ok-add_atoms-in-Forall : goal.add_atoms-returns-in_ok-add_atoms-in-Forall
add_atoms-returns-in_ok-add_atoms-in-Forall t c =
    let w = world c.args.facts.now in
    let k = c.args.kind in
    on_ok_weaker {Q = IsWithAtoms w k c.args.effect.now c.args.atoms.now.items c.add_under.new.atoms.items} c.add_under.result
    (λ is f b. is f b ∙ ap (λ t. all_pass w f c.args.atoms.now.items b && t)
    (all_same (all_pass w f c.as_slice-in-Forall-3.result.now) (λ b'. part_pass w k f b' c.get.result.now)
    (λ b'. ap (λ l. all_pass w f l b') c.as_slice-in-Forall-3.ensures.value
    ∙ c.in_ok-add_atoms-in-Forall.ensures f b'
    ∙ ap (λ l. all_pass w f l b' && part_pass w k f b' c.get.result.now) c.new-inside.ensures.items)
    (bindings w c.as_slice-in-Forall-2.result.now b)
    ∙ pass-Forall w f k c.args.effect.now c.in-Forall.inner c.get.result.now c.in-Forall.variables c.as_slice-in-Forall-2.result.now b
    c.in-Forall.is c.get.ensures c.as_slice-in-Forall-2.ensures)) c.add_under.ensures
