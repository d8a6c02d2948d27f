use Rattle.std.proofs.Common.{◌≡◌, ℕ, suc, List, true, false, true≢false, ◌-◌, ◌<◌, ◌≤◌, [], ◌∷◌, ◌++◌, length, map, filter, take, drop, get_or, append-nil, refl, sym, ap, subst, ◌∙◌, arith, length-drop}
use Rattle.std.specs.Prelude.{◌==◌, All, flat_map, OnOk}
use Rattle.std.proofs.lemmas.Bool.{eqb-true}
use Rattle.std.proofs.lemmas.List.Elements.{All-head, All-get_or}
use Rattle.ppddl_model.specs.Objects.{World, objects_of, bindings}
use Rattle.ppddl_model.specs.Steps.{world}
use Rattle.type_table.specs.Types.{object_at}
use Rattle.ground_terms.specs.terms.Scopes.{binding_of}
use Rattle.task_instances.specs.facts.Facts.{table_of}
use Rattle.task_instances.specs.declared.kept_rows.stages.Stage.{Stage}
use Rattle.task_instances.specs.kept_rows.Kept.{bound_to, is_kept_under, IsAdded}
use Rattle.task_instances.specs.kept_rows.Stages.{may_all_hold, tests_of, params_of, HasRange, IsLeft}
use Rattle.task_instances.specs.kept_rows.Patterns.{conditions_in, TestStands, ArePrepared}
use Rattle.task_instances.proofs.lemmas.kept_rows.BindSteps.{ways_with, all_ways, way_more, way_all, added_both, nothing_added, bound_none, cons_is, tail_is, end_long, pushed_suc, bound_there, same_scope, next_bound, next_rest, next_long, next_within, shorter_again}
use Rattle.task_instances.proofs.lemmas.kept_rows.Staging.{open_at_end, way_at_end, still_left, none_left}
use Rattle.task_instances.proofs.lemmas.kept_rows.Testing.{tests_stand}
use Rattle.task_instances.proofs.kept_rows.binding.+bind.Goals as goal

pub add_row-requires-clause-long : goal.add_row-requires-clause-long
add_row-requires-clause-long t c =
    ap length c.as_slice.ensures.value
    ∙ end_long (length c.args.row.now.items) c.args.action.now.params c.args.stages.now c.requires.rest c.requires.long (eqb-true (length c.args.stages.now) 0 (sym c.is_empty.ensures ∙ c.if-is_empty.true))

pub add_row-requires-clause-bound : goal.add_row-requires-clause-bound
add_row-requires-clause-bound t c =
    let table = table_of c.args.facts.now in
    ap (λ l. bound_to table c.args.action.now.params l []) (c.as_slice.ensures.value ∙ sym (append-nil c.args.row.now.items))
    ∙ c.requires.bound [] ∙ bound_none table (params_of c.args.stages.now) (binding_of c.args.scope.now)

pub add_row-requires-clause-open : goal.add_row-requires-clause-open
add_row-requires-clause-open t c =
    open_at_end c.args.facts.now c.args.action.now.condition c.args.stages.now (binding_of c.args.scope.now)
    (eqb-true (length c.args.stages.now) 0 (sym c.is_empty.ensures ∙ c.if-is_empty.true)) c.requires.left

pub returns-then-is_empty-clause-rows : goal.returns-then-is_empty-clause-rows
returns-then-is_empty-clause-rows t c =
    subst (λ bs. OnOk c.add_row.result (IsAdded c.args.facts.now c.args.action.now bs c.args.rows.now c.add_row.new.rows))
    (way_at_end c.args.facts.now c.args.stages.now (binding_of c.args.scope.now) (eqb-true (length c.args.stages.now) 0 (sym c.is_empty.ensures ∙ c.if-is_empty.true)))
    c.add_row.ensures

pub bind-requires : goal.bind-requires
bind-requires t c =
    let task = c.args.facts.now in
    let table = table_of task in
    let action = c.args.action.now in
    let params = action.params in
    let stages = c.args.stages.now in
    let stage : Stage = c.index-stages-0.result in
    let items = c.as_slice-object-items.result.now in
    let i = c.loop-object.object-index in
    let o : ℕ = get_or items i 0 in
    let row = c.args.row.now.items in
    let b = binding_of c.args.scope.now in
    let name = c.as_slice-in-loop-object.result.now in
    let object = c.object_name.result.now in
    let some : length stages ≡ 0 → ⊥ = λ none. true≢false (sym (ap (λ k. k == 0) none) ∙ sym c.is_empty.ensures ∙ c.if-is_empty.false) in
    let split : stages ≡ stage ∷ drop 1 stages = cons_is stages stage some c.index-stages-0.is in
    let before : IsLeft task action.condition (stage ∷ drop 1 stages) b = subst (λ l. IsLeft task action.condition l b) split c.requires.left in
    let listed : items ≡ stage.objects = c.as_slice-object-items.ensures in
    let within : i < length stage.objects = subst (λ l. i < length l) listed c.loop-object-test.true in
    let named : name ≡ stage.param.now.name = c.as_slice-in-loop-object.ensures in
    let at : object ≡ object_at table o
    = c.object_name.ensures.name ∙ ap (λ (v : World). object_at v o) c.table.ensures.table in
    let is : (stage.param.now.name, object_at table (get_or stage.objects i 0)) ∷ b ≡ (name, object) ∷ b
    = ap (λ l. (stage.param.now.name, object_at table (get_or l i 0)) ∷ b) (sym listed)
    ∙ same_scope table params (params_of (drop 1 stages)) stage.param.now o row (row ++ o ∷ []) b name object refl named at in
    let tested : c.in_ok-may.may ≡ may_all_hold task ((name, object) ∷ b) (tests_of stage)
    = c.in_ok-may.ensures ∙ ap (λ l. may_all_hold task ((name, object) ∷ b) (conditions_in l)) c.as_slice-in-loop-object-2.ensures.value in
    let ways = ways_with table (world task) (params_of (drop 1 stages)) stage.param.now b in
    let pushed = c.push.new.self.items in
    let behind : take (length stages - 1) (drop 1 stages) ≡ drop 1 stages = tail_is stages in
    let put : pushed ≡ row ++ o ∷ [] = c.in_ok-push.ensures.items ∙ ap (λ l. l ++ o ∷ []) c.loop-object.invariant.row in
    let are : stage.param.now ∷ params_of (drop 1 stages) ≡ drop (length row) params = ap params_of (sym split) ∙ c.requires.rest in
    let may : may_all_hold task ((name, object) ∷ b) (tests_of stage) ≡ true = sym tested ∙ c.if-not-may.false in
    let here : o < length table.objects
    = All-get_or (λ q. q < length table.objects) items i 0 c.loop-object-test.true
    (subst (All (λ q. q < length table.objects)) (sym listed) (All-head (HasRange table) stage (drop 1 stages) before.ranges).within) in
    let size : length (take (length stages - 1) (drop 1 stages)) ≡ length stages - 1 = ap length behind ∙ length-drop 1 stages in
    let count : length stages ≡ t = c.decreases in
    let less : length (take (length stages - 1) (drop 1 stages)) < t = omega (arith, size, count, some) in
    let width = c.loop-object.invariant.rows.width ∙ c.requires.width in
    let rest = ap params_of behind ∙ next_rest table params (params_of (drop 1 stages)) stage.param.now o row pushed b name object put named at are in
    let long = next_long table params (params_of (drop 1 stages)) stage.param.now o row pushed b name object put named at are in
    let inside = next_within table params (params_of (drop 1 stages)) stage.param.now o row pushed b name object put named at c.requires.within here in
    let bound = λ (more : List ℕ).
    next_bound table params (params_of (drop 1 stages)) stage.param.now o row pushed b name object put named at
    (λ r. c.requires.bound r ∙ ap (λ l. bound_to table (params_of l) r b) split) more
    ∙ ap (λ l. bound_to table (params_of l) more ((name, object) ∷ b)) (sym behind) in
    let prepared = subst (λ l. ArePrepared task params (length pushed) l) (sym behind)
    (subst (λ k. ArePrepared task params k (drop 1 stages)) (sym (pushed_suc row pushed o put))
    (subst (λ l. ArePrepared task params (length row) l) split c.requires.prepared).1) in
    let left = subst (λ l. IsLeft task action.condition l ((name, object) ∷ b)) (sym behind)
    (still_left task action stage (drop 1 stages) b ((name, object) ∷ b) i within is before may) in
    (less, (width, (rest, (long, (inside, (bound, (c.requires.terms, (c.requires.valued, (prepared, left)))))))))

pub may_all_pass-requires : goal.may_all_pass-requires
may_all_pass-requires t c =
    let task = c.args.facts.now in
    let table = table_of task in
    let action = c.args.action.now in
    let params = action.params in
    let stages = c.args.stages.now in
    let stage : Stage = c.index-stages-0.result in
    let items = c.as_slice-object-items.result.now in
    let i = c.loop-object.object-index in
    let o : ℕ = get_or items i 0 in
    let row = c.args.row.now.items in
    let b = binding_of c.args.scope.now in
    let name = c.as_slice-in-loop-object.result.now in
    let object = c.object_name.result.now in
    let some : length stages ≡ 0 → ⊥ = λ none. true≢false (sym (ap (λ k. k == 0) none) ∙ sym c.is_empty.ensures ∙ c.if-is_empty.false) in
    let split : stages ≡ stage ∷ drop 1 stages = cons_is stages stage some c.index-stages-0.is in
    let before : IsLeft task action.condition (stage ∷ drop 1 stages) b = subst (λ l. IsLeft task action.condition l b) split c.requires.left in
    let listed : items ≡ stage.objects = c.as_slice-object-items.ensures in
    let within : i < length stage.objects = subst (λ l. i < length l) listed c.loop-object-test.true in
    let named : name ≡ stage.param.now.name = c.as_slice-in-loop-object.ensures in
    let at : object ≡ object_at table o
    = c.object_name.ensures.name ∙ ap (λ (v : World). object_at v o) c.table.ensures.table in
    let is : (stage.param.now.name, object_at table (get_or stage.objects i 0)) ∷ b ≡ (name, object) ∷ b
    = ap (λ l. (stage.param.now.name, object_at table (get_or l i 0)) ∷ b) (sym listed)
    ∙ same_scope table params (params_of (drop 1 stages)) stage.param.now o row (row ++ o ∷ []) b name object refl named at in
    let pushed = c.push.new.self.items in
    let put : pushed ≡ row ++ o ∷ [] = c.in_ok-push.ensures.items ∙ ap (λ l. l ++ o ∷ []) c.loop-object.invariant.row in
    let are : stage.param.now ∷ params_of (drop 1 stages) ≡ drop (length row) params = ap params_of (sym split) ∙ c.requires.rest in
    let here : o < length table.objects
    = All-get_or (λ q. q < length table.objects) items i 0 c.loop-object-test.true
    (subst (All (λ q. q < length table.objects)) (sym listed) (All-head (HasRange table) stage (drop 1 stages) before.ranges).within) in
    let long = next_long table params (params_of (drop 1 stages)) stage.param.now o row pushed b name object put named at are in
    let inside = next_within table params (params_of (drop 1 stages)) stage.param.now o row pushed b name object put named at c.requires.within here in
    let bound = bound_there table params (params_of (drop 1 stages)) stage.param.now o row pushed b name object put named at
    (λ r. c.requires.bound r ∙ ap (λ l. bound_to table (params_of l) r b) split) in
    let tests = (subst (λ l. ArePrepared task params (length row) l) split c.requires.prepared).0 in
    let size = pushed_suc row pushed o put in
    subst (λ l. All (TestStands task c.as_slice-in-loop-object-3.result.now ((name, object) ∷ b)) l) (sym c.as_slice-in-loop-object-2.ensures.value)
    (subst (λ r. All (TestStands task r ((name, object) ∷ b)) stage.tests.items) (sym c.as_slice-in-loop-object-3.ensures.value)
    (tests_stand task params pushed ((name, object) ∷ b) (suc (length row)) stage.tests.items tests size (omega (arith, long, size)) inside bound))

pub loop-object-preserved-then-not-may : goal.loop-object-preserved-then-not-may
loop-object-preserved-then-not-may t c =
    let task = c.args.facts.now in
    let table = table_of task in
    let action = c.args.action.now in
    let params = action.params in
    let stages = c.args.stages.now in
    let stage : Stage = c.index-stages-0.result in
    let items = c.as_slice-object-items.result.now in
    let i = c.loop-object.object-index in
    let o : ℕ = get_or items i 0 in
    let row = c.args.row.now.items in
    let b = binding_of c.args.scope.now in
    let name = c.as_slice-in-loop-object.result.now in
    let object = c.object_name.result.now in
    let some : length stages ≡ 0 → ⊥ = λ none. true≢false (sym (ap (λ k. k == 0) none) ∙ sym c.is_empty.ensures ∙ c.if-is_empty.false) in
    let split : stages ≡ stage ∷ drop 1 stages = cons_is stages stage some c.index-stages-0.is in
    let before : IsLeft task action.condition (stage ∷ drop 1 stages) b = subst (λ l. IsLeft task action.condition l b) split c.requires.left in
    let listed : items ≡ stage.objects = c.as_slice-object-items.ensures in
    let within : i < length stage.objects = subst (λ l. i < length l) listed c.loop-object-test.true in
    let named : name ≡ stage.param.now.name = c.as_slice-in-loop-object.ensures in
    let at : object ≡ object_at table o
    = c.object_name.ensures.name ∙ ap (λ (v : World). object_at v o) c.table.ensures.table in
    let is : (stage.param.now.name, object_at table (get_or stage.objects i 0)) ∷ b ≡ (name, object) ∷ b
    = ap (λ l. (stage.param.now.name, object_at table (get_or l i 0)) ∷ b) (sym listed)
    ∙ same_scope table params (params_of (drop 1 stages)) stage.param.now o row (row ++ o ∷ []) b name object refl named at in
    let tested : c.in_ok-may.may ≡ may_all_hold task ((name, object) ∷ b) (tests_of stage)
    = c.in_ok-may.ensures ∙ ap (λ l. may_all_hold task ((name, object) ∷ b) (conditions_in l)) c.as_slice-in-loop-object-2.ensures.value in
    let ways = ways_with table (world task) (params_of (drop 1 stages)) stage.param.now b in
    let may : may_all_hold task ((name, object) ∷ b) (tests_of stage) ≡ false = sym tested ∙ c.if-not-may.true in
    let pushed = c.push.new.self.items in
    let put : pushed ≡ row ++ o ∷ [] = c.in_ok-push.ensures.items ∙ ap (λ l. l ++ o ∷ []) c.loop-object.invariant.row in
    let counted : c.len-bound.result ≡ length row = omega (arith, c.len-bound.ensures, c.args.row.now.ok.0) in
    record {
      row = c.truncate.ensures.items ∙ shorter_again table params (params_of (drop 1 stages)) stage.param.now o row pushed b name object put named at c.len-bound.result pushed counted refl;
      rows =
          subst (λ bs. IsAdded task action bs c.args.rows.now c.loop-object.rows) (sym (way_more ways items i c.loop-object-test.true))
          (added_both task action (flat_map ways (take i items)) (ways o) c.args.rows.now c.loop-object.rows c.loop-object.rows
          c.loop-object.invariant.rows
          (nothing_added task action (ways o) c.loop-object.rows
          (ap (λ x. filter (is_kept_under task action) (bindings (world task) (params_of (drop 1 stages)) x))
          (same_scope table params (params_of (drop 1 stages)) stage.param.now o row (row ++ o ∷ []) b name object refl named at)
          ∙ none_left task action stage (drop 1 stages) b ((name, object) ∷ b) i within is before may)));
    }

pub loop-object-preserved : goal.loop-object-preserved
loop-object-preserved t c =
    let task = c.args.facts.now in
    let table = table_of task in
    let action = c.args.action.now in
    let params = action.params in
    let stages = c.args.stages.now in
    let stage : Stage = c.index-stages-0.result in
    let items = c.as_slice-object-items.result.now in
    let i = c.loop-object.object-index in
    let o : ℕ = get_or items i 0 in
    let row = c.args.row.now.items in
    let b = binding_of c.args.scope.now in
    let name = c.as_slice-in-loop-object.result.now in
    let object = c.object_name.result.now in
    let some : length stages ≡ 0 → ⊥ = λ none. true≢false (sym (ap (λ k. k == 0) none) ∙ sym c.is_empty.ensures ∙ c.if-is_empty.false) in
    let split : stages ≡ stage ∷ drop 1 stages = cons_is stages stage some c.index-stages-0.is in
    let before : IsLeft task action.condition (stage ∷ drop 1 stages) b = subst (λ l. IsLeft task action.condition l b) split c.requires.left in
    let listed : items ≡ stage.objects = c.as_slice-object-items.ensures in
    let within : i < length stage.objects = subst (λ l. i < length l) listed c.loop-object-test.true in
    let named : name ≡ stage.param.now.name = c.as_slice-in-loop-object.ensures in
    let at : object ≡ object_at table o
    = c.object_name.ensures.name ∙ ap (λ (v : World). object_at v o) c.table.ensures.table in
    let is : (stage.param.now.name, object_at table (get_or stage.objects i 0)) ∷ b ≡ (name, object) ∷ b
    = ap (λ l. (stage.param.now.name, object_at table (get_or l i 0)) ∷ b) (sym listed)
    ∙ same_scope table params (params_of (drop 1 stages)) stage.param.now o row (row ++ o ∷ []) b name object refl named at in
    let tested : c.in_ok-may.may ≡ may_all_hold task ((name, object) ∷ b) (tests_of stage)
    = c.in_ok-may.ensures ∙ ap (λ l. may_all_hold task ((name, object) ∷ b) (conditions_in l)) c.as_slice-in-loop-object-2.ensures.value in
    let ways = ways_with table (world task) (params_of (drop 1 stages)) stage.param.now b in
    let pushed = c.push.new.self.items in
    let behind : take (length stages - 1) (drop 1 stages) ≡ drop 1 stages = tail_is stages in
    let put : pushed ≡ row ++ o ∷ [] = c.in_ok-push.ensures.items ∙ ap (λ l. l ++ o ∷ []) c.loop-object.invariant.row in
    let are : stage.param.now ∷ params_of (drop 1 stages) ≡ drop (length row) params = ap params_of (sym split) ∙ c.requires.rest in
    let counted : c.len-bound.result ≡ length row = omega (arith, c.len-bound.ensures, c.args.row.now.ok.0) in
    record {
      row = c.truncate-in-loop-object.ensures.items ∙ shorter_again table params (params_of (drop 1 stages)) stage.param.now o row pushed b name object put named at c.len-bound.result c.bind.new.row.items counted c.in_ok-bind.ensures.row;
      rows =
          subst (λ bs. IsAdded task action bs c.args.rows.now c.bind.new.rows) (sym (way_more ways items i c.loop-object-test.true))
          (added_both task action (flat_map ways (take i items)) (ways o) c.args.rows.now c.loop-object.rows c.bind.new.rows
          c.loop-object.invariant.rows
          (subst (λ bs. IsAdded task action bs c.loop-object.rows c.bind.new.rows)
          (ap (λ l. bindings (world task) (params_of l) ((name, object) ∷ b)) behind
          ∙ ap (bindings (world task) (params_of (drop 1 stages))) (sym (same_scope table params (params_of (drop 1 stages)) stage.param.now o row pushed b name object put named at)))
          c.in_ok-bind.ensures.rows));
    }

pub returns-clause-rows : goal.returns-clause-rows
returns-clause-rows t c =
    let task = c.args.facts.now in
    let table = table_of task in
    let action = c.args.action.now in
    let stages = c.args.stages.now in
    let stage : Stage = c.index-stages-0.result in
    let items = c.as_slice-object-items.result.now in
    let b = binding_of c.args.scope.now in
    let some : length stages ≡ 0 → ⊥ = λ none. true≢false (sym (ap (λ k. k == 0) none) ∙ sym c.is_empty.ensures ∙ c.if-is_empty.false) in
    let split : stages ≡ stage ∷ drop 1 stages = cons_is stages stage some c.index-stages-0.is in
    let before : IsLeft task action.condition (stage ∷ drop 1 stages) b = subst (λ l. IsLeft task action.condition l b) split c.requires.left in
    let past : length items ≤ c.loop-object.object-index = omega arith in
    let listed : map (object_at table) items ≡ objects_of table stage.param.now
    = ap (map (object_at table)) c.as_slice-object-items.ensures ∙ (All-head (HasRange table) stage (drop 1 stages) before.ranges).are in
    subst (λ bs. IsAdded task action bs c.args.rows.now c.loop-object.rows)
    (way_all (ways_with table (world task) (params_of (drop 1 stages)) stage.param.now b) items c.loop-object.object-index past
    ∙ all_ways task (params_of (stage ∷ drop 1 stages)) stage.param.now b items (λ none. absurd (omega (arith, none))) refl listed
    ∙ ap (λ l. bindings (world task) (params_of l) b) (sym split))
    c.loop-object.invariant.rows
