-- The marks are those of the first parts.
use Rattle.std.proofs.Common.{List, take, ap, ◌∙◌, subst}
use Rattle.std.proofs.lemmas.List.{take_min}
use Rattle.ground_model.specs.declared.action.Guarded.{Guarded}
use Rattle.ground_step.specs.Acting.{AreActing}
use Rattle.ground_step.proofs.prepared_choice.PreparedChoice.new.Goals as goal

pub invariant_of-result : goal.invariant_of-result
invariant_of-result c =
    let parts : List Guarded = c.as_slice-parts.result.now in
    subst (AreActing c.acting_parts-acting.result)
    (ap (λ n. take n parts) c.min.ensures ∙ take_min 64 parts ∙ ap (λ xs. take 64 xs) c.as_slice-parts.ensures)
    c.acting_parts-acting.ensures
