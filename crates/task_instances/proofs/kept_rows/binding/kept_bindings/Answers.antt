use Rattle.std.proofs.Common.{[], length, filter, sym, ap, ◌∙◌}
use Rattle.ppddl_model.specs.Objects.{World, bindings}
use Rattle.ground_terms.specs.sizes.Counted.{counted}
use Rattle.task_instances.specs.facts.Facts.{table_of}
use Rattle.task_instances.proofs.lemmas.facts.Ways.{no_ways}
use Rattle.task_instances.specs.kept_rows.Rows.{Table}
use Rattle.task_instances.specs.kept_rows.Kept.{is_kept_under}
use Rattle.task_instances.proofs.lemmas.kept_rows.BindSteps.{all_added, none_kept}
use Rattle.task_instances.proofs.kept_rows.binding.kept_bindings.Goals as goal

pub returns-then-count_bindings-eq0 : goal.returns-then-count_bindings-eq0
returns-then-count_bindings-eq0 c =
    let task = c.args.facts.now in
    let action = c.args.action.now in
    let count = c.count_bindings.ensures
    ∙ ap (λ (w : World). counted (length (bindings w c.as_slice-params.result.now []))) c.table.ensures.table
    ∙ ap (λ l. counted (length (bindings (table_of task) l []))) c.as_slice-params.ensures in
    none_kept task action c.new-rows.result (ap (λ (t : Table). t.rows) c.new-rows.ensures)
    (ap (filter (is_kept_under task action)) (no_ways task action.params [] (sym count ∙ c.if-count_bindings-eq0.true)))

pub returns : goal.returns
returns c =
    all_added c.args.facts.now c.args.action.now c.new-rows.result c.bind_stages-bound.new.rows (ap (λ (t : Table). t.rows) c.new-rows.ensures)
    c.in_ok-bound.ensures
