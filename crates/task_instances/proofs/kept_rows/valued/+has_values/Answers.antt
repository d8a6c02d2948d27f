use Rattle.std.proofs.Common.{◌≡◌, Bool, true≢false, map, drop, sym, ap, subst, ◌∙◌}
use Rattle.std.specs.Prelude.{◌==◌}
use Rattle.std.specs.List.{list_all}
use Rattle.ppddl_model.specs.declared.tree.Param.{Param}
use Rattle.ppddl_model.specs.State.{Name}
use Rattle.ppddl_model.specs.Objects.{World, objects_of}
use Rattle.ppddl_model.specs.Steps.{world}
use Rattle.type_table.specs.Types.{object_at}
use Rattle.ground_terms.specs.terms.Scopes.{binding_of}
use Rattle.task_instances.specs.facts.Facts.{table_of}
use Rattle.task_instances.specs.quantified_atoms.Needed.{params_of}
use Rattle.task_instances.proofs.lemmas.kept_rows.Valuing.{valued_object, first_valued_of, all-map}
use Rattle.task_instances.proofs.kept_rows.valued.+has_values.Goals as goal

pub loop-object-init : goal.loop-object-init
loop-object-init t c =
    let w = world c.args.facts.now in
    let table = table_of c.args.facts.now in
    let items = c.as_slice-object-items.result.now in
    let first : Param = c.index-variables-0.result.now in
    let value : Name → Bool = valued_object w c.args.term.now (params_of (drop 1 c.args.variables.now)) first (binding_of c.args.scope.now) in
    let listed : map (object_at table) items ≡ objects_of table first
    = ap (map (object_at table)) c.as_slice-object-items.ensures
    ∙ subst (λ (v : World). map (object_at v) c.in_ok-objects.objects ≡ objects_of v first) c.table.ensures.table c.in_ok-objects.ensures.objects in
    all-map value (object_at table) items ∙ ap (list_all value) listed
    ∙ first_valued_of w c.args.term.now c.args.variables.now c.index-variables-0.result (binding_of c.args.scope.now)
    (λ none. true≢false (sym (ap (λ k. k == 0) none) ∙ sym c.is_empty.ensures ∙ c.if-is_empty.false)) c.index-variables-0.is
