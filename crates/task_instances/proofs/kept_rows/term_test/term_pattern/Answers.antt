use Rattle.std.proofs.Common.{length, sym, ap, ◌∙◌}
use Rattle.std.proofs.lemmas.Bool.{eqb-true}
use Rattle.type_table.specs.Numbered.{number_of}
use Rattle.task_instances.specs.facts.Facts.{table_of, function_names}
use Rattle.task_instances.specs.declared.kept_rows.pattern.Pattern.{Pattern}
use Rattle.task_instances.specs.kept_rows.Patterns.{HasSlots}
use Rattle.task_instances.proofs.lemmas.kept_rows.Testing.{given_slots, pattern_is}
use Rattle.task_instances.proofs.kept_rows.term_test.term_pattern.Goals as goal

pub returns : goal.returns
returns c =
    let task = c.args.facts.now in
    let q = c.args.term.now in
    let atom = q.atom.now in
    let p : Pattern = record { predicate = c.in-Some.predicate; slots = c.in-Some-2.slots } in
    let slots : HasSlots (table_of task) c.args.params.now atom.args c.in-Some-2.slots.items
    = given_slots (table_of task) c.table.result.now c.args.params.now atom.args c.as_slice-args.result.now c.in_ok-slots.field-0 c.in-Some-2.slots
    c.table.ensures.table c.as_slice-args.ensures c.in-Some-2.is c.in_ok-slots.ensures in
    record {
      plain = ap length (sym c.as_slice-variables.ensures.value) ∙ eqb-true (length c.as_slice-variables.result.now) 0 (sym c.is_empty.ensures ∙ c.if-not-is_empty.false);
      free = sym c.is_settled.ensures ∙ c.if-is_settled.false;
      is =
          pattern_is (function_names task) (table_of task) c.args.params.now atom p
          (ap (number_of (function_names task)) (sym c.as_slice.ensures) ∙ sym c.in-Some.ensures) slots;
    }
