use Rattle.std.proofs.Common.{sym, ap, ◌∙◌}
use Rattle.std.specs.List.{list_any}
use Rattle.ppddl_model.specs.State.{same_name}
use Rattle.ppddl_model.specs.Changing.{changing_predicates}
use Rattle.type_table.specs.Numbered.{number_of}
use Rattle.task_instances.specs.facts.Facts.{table_of, predicate_names}
use Rattle.task_instances.specs.declared.kept_rows.pattern.Pattern.{Pattern}
use Rattle.task_instances.specs.kept_rows.Patterns.{HasSlots}
use Rattle.task_instances.proofs.lemmas.kept_rows.Testing.{number_given, given_slots, pattern_is}
use Rattle.task_instances.proofs.kept_rows.test.fact_pattern.Goals as goal

pub returns : goal.returns
returns c =
    let task = c.args.facts.now in
    let atom = c.args.atom.now in
    let p : Pattern = record { predicate = c.in-Some.predicate; slots = c.in-Some-2.slots } in
    let given = number_given (list_any (same_name c.as_slice.result.now) (changing_predicates task)) (number_of (predicate_names task) c.as_slice.result.now)
    c.in-Some.predicate c.in-Some.ensures in
    let slots : HasSlots (table_of task) c.args.params.now atom.args c.in-Some-2.slots.items
    = given_slots (table_of task) c.table.result.now c.args.params.now atom.args c.as_slice-2.result.now c.in_ok-slots.field-0 c.in-Some-2.slots
    c.table.ensures.table c.as_slice-2.ensures c.in-Some-2.is c.in_ok-slots.ensures in
    record {
      fixed = ap (λ n. list_any (same_name n) (changing_predicates task)) (sym c.as_slice.ensures) ∙ given.0;
      is =
          pattern_is (predicate_names task) (table_of task) c.args.params.now atom p
          (ap (number_of (predicate_names task)) (sym c.as_slice.ensures) ∙ given.1) slots;
    }
