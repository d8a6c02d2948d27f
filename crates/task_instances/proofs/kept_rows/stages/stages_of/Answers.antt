use Rattle.std.proofs.Common.{◌≡◌, ℕ, ◌+◌, ◌-◌, ◌≤◌, not, filter, length, take, drop, reverse, refl, sym, ap, subst, ◌∙◌, arith}
use Rattle.std.proofs.lemmas.List.{drop_all}
use Rattle.ppddl_model.specs.declared.tree.Param.{Param}
use Rattle.ppddl_model.specs.Objects.{World}
use Rattle.task_instances.specs.facts.Facts.{table_of}
use Rattle.task_instances.specs.kept_rows.Stages.{names_variable, conjuncts_of, conditions_of, AreStages, IsRange}
use Rattle.task_instances.specs.kept_rows.Patterns.{ArePrepared}
use Rattle.task_instances.proofs.lemmas.kept_rows.Staging.{made_first, next_made}
use Rattle.task_instances.proofs.lemmas.kept_rows.Testing.{next_prepared}
use Rattle.task_instances.proofs.kept_rows.stages.stages_of.Goals as goal

pub loop-place-init : goal.loop-place-init
loop-place-init c =
    let table = table_of c.args.facts.now in
    let params = c.as_slice-params.result.now in
    let parts = conjuncts_of c.args.action.now.condition in
    let first = conditions_of c.in_ok-first.first.items in
    record {
      within = omega arith;
      made =
          subst (λ l. AreStages table (drop (length params) params) parts first (reverse l)) (sym c.new-stages.ensures.items)
          (made_first table parts (drop (length params) params) first (drop_all (length params) params (omega arith)) c.in_ok-first.ensures);
      prepared = subst (λ l. ArePrepared c.args.facts.now c.args.action.now.params (length params) (reverse l)) (sym c.new-stages.ensures.items) tt;
    }

pub loop-place-preserved : goal.loop-place-preserved
loop-place-preserved c =
    let table = table_of c.args.facts.now in
    let params = c.as_slice-params.result.now in
    let parts = conjuncts_of c.args.action.now.condition in
    let first = conditions_of c.loop-place.first.items in
    let others = conditions_of c.in_ok-naming.field-0.others.items in
    let stages = c.loop-place.stages.items in
    let place : ℕ = c.loop-place.place in
    let p : Param = c.index-params-place.result in
    let within : place ≤ length params = c.loop-place.invariant.within in
    let again : place - 1 + 1 ≡ place = omega arith in
    let objects = c.in_ok-objects.objects in
    let range : IsRange table objects p
    = subst (λ (w : World). IsRange w objects p) c.table.ensures.table
    (record { are = c.in_ok-objects.ensures.objects; within = c.in_ok-objects.ensures.within }) in
    record {
      within = omega (arith, within);
      made =
          next_made table parts params place p _ first others stages c.push.new.self.items (omega arith) within c.index-params-place.is
          c.in_ok-push.ensures.items refl range
          (c.in_ok-tests.ensures.conditions ∙ ap conditions_of c.as_slice-in-loop-place-2.ensures.value ∙ c.in_ok-naming.ensures.naming ∙ (λ i. filter (names_variable (c.as_slice-in-loop-place.ensures i)) (conditions_of (c.as_slice.ensures.value i))))
          (c.in_ok-naming.ensures.others
          ∙ (λ i. filter (λ x. not (names_variable (c.as_slice-in-loop-place.ensures i) x)) (conditions_of (c.as_slice.ensures.value i))))
          c.loop-place.invariant.made;
      prepared =
          next_prepared c.args.facts.now c.args.action.now.params _ place _ stages c.push.new.self.items (omega arith) c.in_ok-push.ensures.items
          (ap (λ k. take k params) again ∙ ap (take place) c.as_slice-params.ensures) c.in_ok-tests.ensures.tests c.loop-place.invariant.prepared;
    }

pub returns-clause-stages : goal.returns-clause-stages
returns-clause-stages c =
    let table = table_of c.args.facts.now in
    let params = c.as_slice-params.result.now in
    let parts = conjuncts_of c.args.action.now.condition in
    let first = conditions_of c.loop-place.first.items in
    let stages = c.loop-place.stages.items in
    let none : c.loop-place.place ≡ 0 = omega arith in
    subst (λ l. AreStages table l parts first c.reverse.new.self.items) (ap (λ k. drop k params) none ∙ c.as_slice-params.ensures)
    (subst (AreStages table (drop c.loop-place.place params) parts first) (sym c.reverse.ensures.items) c.loop-place.invariant.made)

pub returns-clause-prepared : goal.returns-clause-prepared
returns-clause-prepared c =
    let none : c.loop-place.place ≡ 0 = omega arith in
    subst (λ k. ArePrepared c.args.facts.now c.args.action.now.params k c.reverse.new.self.items) none
    (subst (ArePrepared c.args.facts.now c.args.action.now.params c.loop-place.place) (sym c.reverse.ensures.items) c.loop-place.invariant.prepared)
