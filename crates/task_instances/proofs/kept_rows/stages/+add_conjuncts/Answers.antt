use Rattle.std.proofs.Common.{◌++◌, length, ◌≤◌, ap, ◌∙◌, arith}
use Rattle.std.specs.Prelude.{flat_map}
use Rattle.task_instances.specs.kept_rows.Stages.{conjuncts_of, conditions_of}
use Rattle.task_instances.proofs.lemmas.kept_rows.BindSteps.{take_all}
use Rattle.task_instances.proofs.lemmas.kept_rows.Conjoined.{conjuncts-All}
use Rattle.task_instances.proofs.kept_rows.stages.+add_conjuncts.Goals as goal

pub returns-after-loop-part : goal.returns-after-loop-part
returns-after-loop-part t c =
    let past : length c.as_slice-part-items.result.now ≤ c.loop-part.part-index = omega arith in
    c.loop-part.invariant
    ∙ ap (λ l. conditions_of c.args.conjuncts.now.items ++ flat_map conjuncts_of l) (take_all c.loop-part.part-index c.as_slice-part-items.result.now past)
    ∙ ap (λ l. conditions_of c.args.conjuncts.now.items ++ l)
    (conjuncts-All c.args.condition.now c.in-All.parts c.as_slice-part-items.result.now c.in-All.is c.as_slice-part-items.ensures)
