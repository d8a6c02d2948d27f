use Rattle.std.proofs.Common.{◌≡◌, [], length, ap, ◌∙◌}
use Rattle.ppddl_model.specs.Objects.{bindings}
use Rattle.ground_meaning.specs.choices.Joint.{den_of}
use Rattle.ground_meaning.specs.choices.Limits.{condition_size}
use Rattle.ground_terms.specs.sizes.Counted.{counted}
use Rattle.task_instances.specs.facts.Facts.{table_of}
use Rattle.grounder.proofs.lemmas.limits.Counting.{tried_by_table, too_fine, too_large, fits}
use Rattle.grounder.proofs.limits.actions.with_action.Goals as goal

pub returns-then-denominator-gt-MOST_DENOMINATOR-clause-step : goal.returns-then-denominator-gt-MOST_DENOMINATOR-clause-step
returns-then-denominator-gt-MOST_DENOMINATOR-clause-step c =
    let fine : c.denominator.result ≡ counted (den_of (table_of c.args.facts.now) c.args.action.now.effect)
    = c.denominator.ensures ∙ ap (λ w. counted (den_of w c.args.action.now.effect)) c.table.ensures.table in
    too_fine c.args.facts.now c.args.action.now c.args.size c.denominator.result fine c.if-denominator-gt-MOST_DENOMINATOR.true

pub returns-then-whole-gt-MOST_GROUND_SIZE-clause-step : goal.returns-then-whole-gt-MOST_GROUND_SIZE-clause-step
returns-then-whole-gt-MOST_GROUND_SIZE-clause-step c =
    let fine : c.denominator.result ≡ counted (den_of (table_of c.args.facts.now) c.args.action.now.effect)
    = c.denominator.ensures ∙ ap (λ w. counted (den_of w c.args.action.now.effect)) c.table.ensures.table in
    let ways : c.count_bindings-tried.result ≡ counted (tried_by_table c.args.facts.now c.args.action.now)
    = c.count_bindings-tried.ensures
    ∙ ap (λ w. counted (length (bindings w c.as_slice.result.now []))) c.table-2.ensures.table
    ∙ ap (λ l. counted (length (bindings (table_of c.args.facts.now) l []))) c.as_slice.ensures in
    let each : c.condition_size.result ≡ counted (condition_size (table_of c.args.facts.now) c.args.action.now.condition)
    = c.condition_size.ensures ∙ ap (λ w. counted (condition_size w c.args.action.now.condition)) c.table-3.ensures.table in
    too_large c.args.facts.now c.args.action.now c.args.size c.denominator.result c.count_bindings-tried.result c.condition_size.result
    c.saturating_mul-sizes.result c.saturating_add-whole.result fine c.if-denominator-gt-MOST_DENOMINATOR.false c.requires ways each
    c.saturating_mul-sizes.ensures c.saturating_add-whole.ensures c.if-whole-gt-MOST_GROUND_SIZE.true

pub returns-clause-step : goal.returns-clause-step
returns-clause-step c =
    let fine : c.denominator.result ≡ counted (den_of (table_of c.args.facts.now) c.args.action.now.effect)
    = c.denominator.ensures ∙ ap (λ w. counted (den_of w c.args.action.now.effect)) c.table.ensures.table in
    let ways : c.count_bindings-tried.result ≡ counted (tried_by_table c.args.facts.now c.args.action.now)
    = c.count_bindings-tried.ensures
    ∙ ap (λ w. counted (length (bindings w c.as_slice.result.now []))) c.table-2.ensures.table
    ∙ ap (λ l. counted (length (bindings (table_of c.args.facts.now) l []))) c.as_slice.ensures in
    let each : c.condition_size.result ≡ counted (condition_size (table_of c.args.facts.now) c.args.action.now.condition)
    = c.condition_size.ensures ∙ ap (λ w. counted (condition_size w c.args.action.now.condition)) c.table-3.ensures.table in
    fits c.args.facts.now c.args.action.now c.args.size c.denominator.result c.count_bindings-tried.result c.condition_size.result
    c.saturating_mul-sizes.result c.saturating_add-whole.result fine c.if-denominator-gt-MOST_DENOMINATOR.false c.requires ways each
    c.saturating_mul-sizes.ensures c.saturating_add-whole.ensures c.if-whole-gt-MOST_GROUND_SIZE.false
