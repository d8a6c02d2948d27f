use Rattle.std.proofs.Common.{◌≡◌, ◌+◌, ◌≤◌, true, false, length, sym, ap, ◌∙◌, arith}
use Rattle.std.specs.List.{list_any}
use Rattle.ppddl_model.specs.State.{same_name}
use Rattle.type_table.specs.Numbered.{with_name}
use Rattle.task_instances.proofs.lemmas.fact_rows.Adding.{name_more, name_end}
use Rattle.grounder.specs.ObjectNames.{object_name}
use Rattle.grounder.proofs.Counting.{same_with, one_more}
use Rattle.grounder.proofs.objects.add_names.Goals as goal

pub loop-object-preserved-then-has : goal.loop-object-preserved-then-has
loop-object-preserved-then-has c =
    let names = c.loop-object.names in
    let there : list_any (same_name (object_name c.object-item.result)) names ≡ true
    = ap (λ n. list_any (same_name n) names) (sym c.as_slice-name.ensures) ∙ sym c.has.ensures ∙ c.if-has.true in
    let few = c.loop-object.invariant.few in
    record {
      names =
          name_more object_name c.args.declared.now c.loop-object.object-index c.object-item.result names names _ c.loop-object-test.true
          c.object-item.is (same_with names (object_name c.object-item.result) there) c.loop-object.invariant.names;
      count = c.loop-object.invariant.count;
      few = omega (arith, few);
    }

pub loop-object-preserved : goal.loop-object-preserved
loop-object-preserved c =
    let names = c.loop-object.names in
    let name = object_name c.object-item.result in
    let new : list_any (same_name name) names ≡ false
    = ap (λ n. list_any (same_name n) names) (sym c.as_slice-name.ensures) ∙ sym c.has.ensures ∙ c.if-has.false in
    let put : c.add.new.self ≡ with_name names name = c.in_ok-add.ensures ∙ ap (with_name names) c.as_slice-name.ensures in
    let more : length c.add.new.self ≡ length names + 1 = ap length put ∙ one_more names name new in
    let count = c.loop-object.invariant.count in
    let few = c.loop-object.invariant.few in
    record {
      names =
          name_more object_name c.args.declared.now c.loop-object.object-index c.object-item.result names c.add.new.self _ c.loop-object-test.true
          c.object-item.is put c.loop-object.invariant.names;
      count = omega (arith, more, count);
      few = omega (arith, few);
    }

pub returns-clause-names : goal.returns-clause-names
returns-clause-names c =
    let past : length c.args.declared.now ≤ c.loop-object.object-index = omega arith in
    name_end object_name c.args.declared.now c.loop-object.object-index c.loop-object.names _ past c.loop-object.invariant.names
