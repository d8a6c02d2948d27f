use Rattle.std.proofs.Common.{[], length, refl}
use Rattle.ppddl_model.specs.Objects.{bindings}
use Rattle.ground_meaning.specs.choices.Limits.{condition_size, effect_size}
use Rattle.ground_terms.proofs.lemmas.sizes.Stopping.{sum_of_two, product_of_two}
use Rattle.ground_terms.proofs.lemmas.sizes.SizeSteps.{size-For, size-When, begun-Both, begun-Chance}
use Rattle.ground_terms.proofs.sizes.effects.+effect_size.Goals as goal

pub returns-in-Forall : goal.returns-in-Forall
returns-in-Forall t c =
    product_of_two c.saturating_add.result c.saturating_mul.result c.count_bindings.result c.effect_size-in-Forall.result
    (length (bindings c.args.table.now c.as_slice.result.now [])) (effect_size c.args.table.now c.get.result.now)
    (effect_size c.args.table.now c.args.effect.now) c.saturating_add.ensures c.saturating_mul.ensures
    c.count_bindings.ensures c.effect_size-in-Forall.ensures
    (size-For c.args.table.now c.args.effect.now c.in-Forall.inner c.get.result.now c.in-Forall.variables c.as_slice.result.now
    c.in-Forall.is c.get.ensures c.as_slice.ensures)

pub returns-in-When : goal.returns-in-When
returns-in-When t c =
    sum_of_two c.saturating_add-in-When-2.result c.saturating_add-in-When.result c.condition_size.result c.effect_size-in-When.result
    (condition_size c.args.table.now c.in-When.condition) (effect_size c.args.table.now c.get-in-When.result.now)
    (effect_size c.args.table.now c.args.effect.now) c.saturating_add-in-When-2.ensures c.saturating_add-in-When.ensures
    c.condition_size.ensures c.effect_size-in-When.ensures
    (size-When c.args.table.now c.args.effect.now c.in-When.condition c.in-When.inner c.get-in-When.result.now c.in-When.is c.get-in-When.ensures)

pub loop-part-init : goal.loop-part-init
loop-part-init t c = record {
  small = refl;
  rest = begun-Both c.args.table.now c.args.effect.now c.in-Both.parts c.as_slice-part-items.result.now c.in-Both.is c.as_slice-part-items.ensures;
}

pub loop-branch-init : goal.loop-branch-init
loop-branch-init t c = record {
  small = refl;
  rest = begun-Chance c.args.table.now c.args.effect.now c.in-Chance.branches c.as_slice-branch-items.result.now c.in-Chance.is c.as_slice-branch-items.ensures;
}
