use Rattle.std.proofs.Common.{[], length}
use Rattle.ppddl_model.specs.Objects.{bindings}
use Rattle.ground_meaning.specs.choices.Limits.{condition_size}
use Rattle.ground_terms.proofs.lemmas.sizes.Stopping.{sum_of_two, product_of_two}
use Rattle.ground_terms.proofs.lemmas.sizes.SizeSteps.{size-Imply, size-Quantified}
use Rattle.ground_terms.proofs.sizes.conditions.+condition_size.Goals as goal

pub returns-in-Imply : goal.returns-in-Imply
returns-in-Imply t c =
    sum_of_two c.saturating_add-in-Imply-2.result c.saturating_add-in-Imply.result c.condition_size-in-Imply.result c.condition_size-in-Imply-2.result
    (condition_size c.args.table.now c.get-in-Imply.result.now) (condition_size c.args.table.now c.get-in-Imply-2.result.now)
    (condition_size c.args.table.now c.args.condition.now) c.saturating_add-in-Imply-2.ensures c.saturating_add-in-Imply.ensures
    c.condition_size-in-Imply.ensures c.condition_size-in-Imply-2.ensures
    (size-Imply c.args.table.now c.args.condition.now c.in-Imply.first c.in-Imply.second c.get-in-Imply.result.now c.get-in-Imply-2.result.now
    c.in-Imply.is c.get-in-Imply.ensures c.get-in-Imply-2.ensures)

pub returns-in-Exists : goal.returns-in-Exists
returns-in-Exists t c =
    product_of_two c.saturating_add-in-Exists.result c.saturating_mul.result c.count_bindings.result c.condition_size-in-Exists.result
    (length (bindings c.args.table.now c.as_slice.result.now [])) (condition_size c.args.table.now c.get-in-Exists.result.now)
    (condition_size c.args.table.now c.args.condition.now) c.saturating_add-in-Exists.ensures c.saturating_mul.ensures
    c.count_bindings.ensures c.condition_size-in-Exists.ensures
    (size-Quantified c.args.table.now c.args.condition.now c.in-Exists.inner c.get-in-Exists.result.now c.in-Exists.variables c.as_slice.result.now
    c.in-Exists.is c.get-in-Exists.ensures c.as_slice.ensures)
