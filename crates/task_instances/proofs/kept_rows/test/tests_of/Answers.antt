use Rattle.std.proofs.Common.{[], ◌∷◌, ◌++◌, take, sym, ap, subst, ◌∙◌}
use Rattle.std.specs.Prelude.{All}
use Rattle.std.specs.Borrow.{Bor}
use Rattle.std.proofs.lemmas.List.{map-append}
use Rattle.std.proofs.lemmas.List.Elements.{All-nil, All-cons, All-append}
use Rattle.ppddl_model.specs.declared.tree.Condition.{Condition}
use Rattle.ground_terms.proofs.lemmas.terms.Giving.{one_more}
use Rattle.task_instances.specs.declared.kept_rows.test.Test.{Test}
use Rattle.task_instances.specs.kept_rows.Patterns.{IsTest, conditions_in}
use Rattle.task_instances.specs.kept_rows.Stages.{conditions_of}
use Rattle.task_instances.proofs.kept_rows.test.tests_of.Goals as goal

pub loop-condition-preserved : goal.loop-condition-preserved
loop-condition-preserved c =
    let is_test = IsTest c.args.facts.now c.args.params.now in
    let test : Test = c.in_ok-test_of.field-0 in
    let before = c.loop-condition.tests.items in
    let conditions = c.args.conditions.now in
    let place = c.loop-condition.condition-index in
    let condition : Bor Condition = c.condition-item.result in
    record {
      conditions =
          ap conditions_in c.in_ok-push.ensures.items
          ∙ map-append (λ (t : Test). t.condition.now) before (test ∷ [])
          ∙ (λ i. c.loop-condition.invariant.conditions i ++ c.in_ok-test_of.ensures.condition i ∷ [])
          ∙ sym (map-append (λ (r : Bor Condition). r.now) (take place conditions) (condition ∷ []))
          ∙ ap conditions_of (sym (one_more conditions place condition c.loop-condition-test.true c.condition-item.is));
      tests =
          subst (All is_test) (sym c.in_ok-push.ensures.items)
          (All-append is_test before (test ∷ []) c.loop-condition.invariant.tests
          (All-cons is_test test [] c.in_ok-test_of.ensures.test (All-nil is_test)));
    }
