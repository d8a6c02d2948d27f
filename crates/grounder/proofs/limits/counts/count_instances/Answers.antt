use Rattle.std.proofs.Common.{◌+◌, refl, ap, ◌∙◌}
use Rattle.plain_list.specs.weighted.Mean.{total}
use Rattle.ppddl_model.specs.declared.tree.Task.{Task}
use Rattle.ground_terms.specs.sizes.Counted.{counted}
use Rattle.grounder.proofs.lemmas.limits.Counting.{tried_by_table, all_tried}
use Rattle.grounder.proofs.limits.counts.count_instances.Goals as goal

pub loop-action-init : goal.loop-action-init
loop-action-init c = record {
  small = refl;
  rest =
      ap (λ l. counted (0 + total (tried_by_table c.args.facts.now) l))
      (c.as_slice-action-items.ensures ∙ ap (λ (t : Task). t.domain.actions) c.task.ensures)
      ∙ all_tried c.args.facts.now;
}
