-- A negated atom, and the parts of a conjunction.
use Rattle.std.proofs.Common.{◌≡◌, take, true, sym, ap, subst, ◌∙◌, arith}
use Rattle.std.specs.List.{list_all}
use Rattle.std.proofs.lemmas.List.{take_all}
use Rattle.ground_model.specs.declared.condition.GroundCondition.TheVariants as condition
use Rattle.ground_model.specs.Packed.{has_bit}
use Rattle.ground_model.specs.Truth.{truth}
use Rattle.ground_step.proofs.Truth.{truth-All}
use Rattle.applicable_actions.specs.Masks.{AddsCondition}
use Rattle.applicable_actions.proofs.Adding.{adds-Not, adds-same}
use Rattle.applicable_actions.proofs.requirements.+collect.Goals as goal

pub returns-in_ok-add_literal-in-Atom-get : goal.returns-in_ok-add_literal-in-Atom-get
returns-in_ok-add_literal-in-Atom-get t c =
    subst
    (λ whole. AddsCondition whole (c.args.tests.now.items, c.args.atoms.now.items)
    (c.add_literal-in-Atom-get.new.tests.items, c.args.atoms.now.items) true)
    (sym (c.in-Not.is ∙ ap condition.Not (sym c.get.ensures ∙ c.in-Atom-get.is)))
    (adds-Not c.args.tests.now.items c.add_literal-in-Atom-get.new.tests.items c.args.atoms.now.items c.in-Atom-get.atom
    c.in_ok-add_literal-in-Atom-get.ensures)

pub returns-after-loop-part : goal.returns-after-loop-part
returns-after-loop-part t c =
    let all : take c.loop-part.part-index c.as_slice-part-items.result.now ≡ c.in-All.parts
    = take_all c.loop-part.part-index c.as_slice-part-items.result.now (omega arith) ∙ c.as_slice-part-items.ensures in
    adds-same (c.args.tests.now.items, c.args.atoms.now.items) (c.loop-part.tests.items, c.loop-part.atoms.items)
    (λ s. list_all (truth (has_bit s)) (take c.loop-part.part-index c.as_slice-part-items.result.now))
    (λ s. truth (has_bit s) c.args.condition.now) c.loop-part.is_whole
    (λ s. ap (list_all (truth (has_bit s))) all ∙ sym (truth-All (has_bit s) c.in-All.parts)
    ∙ ap (truth (has_bit s)) (sym c.in-All.is))
    c.loop-part.invariant
