-- A part that is never true is one of all that are to hold.
use Rattle.std.proofs.Common.{sym, ap, ◌∙◌}
use Rattle.std.proofs.lemmas.List.Folds.{list_all_at}
use Rattle.ground_model.specs.Truth.{truth}
use Rattle.ground_step.proofs.prepared_choice.+is_never.Goals as goal

pub returns-then-is_never : goal.returns-then-is_never
returns-then-is_never n c = λ on bit.
    sym (c.loop-part.invariant bit)
    ∙ list_all_at (truth bit) c.as_slice-part-items.result.now c.loop-part.part-index c.part-item.result c.loop-part-test.true
    (ap (truth bit) (sym c.part-item.is) ∙ c.is_never.ensures c.if-is_never.true bit)
