-- Instances that differ from the one before in their names alone.
use Rattle.std.proofs.Common.{◌≡◌, ℕ, ◌+◌, ◌-◌, ◌*◌, ◌<◌, Bool, true, false, not, ◌||◌, cond, List, [], ◌∷◌, ◌++◌, map, length, get_or, Option, Some, None, refl, sym, ap, subst, ◌∙◌, arith}
use Rattle.std.specs.Prelude.{nat_eq, nat_lt, slice_get, All, IfSome, Result, Ok}
use Rattle.std.specs.List.{list_any}
use Rattle.std.proofs.lemmas.Bool.{and_parts, or_left, or_right, eqb-true, ltb-true}
use Rattle.std.proofs.lemmas.List.{length_push}
use Rattle.plain_list.specs.Results.{◌>>=◌}
use Rattle.plain_list.proofs.Results.{bind_ok, ok_is}
use Rattle.ppddl_model.specs.declared.tree.Action.{Action}
use Rattle.ppddl_model.specs.declared.tree.Param.{Param}
use Rattle.ppddl_model.specs.declared.tree.Task.{Task}
use Rattle.ppddl_model.specs.State.{Name, same_name}
use Rattle.ppddl_model.specs.Objects.{World, Binding, bound}
use Rattle.ppddl_model.specs.Steps.{instance_name, world}
use Rattle.ppddl_model.proofs.States.{same_name-Decides}
use Rattle.type_table.specs.Types.{object_at}
use Rattle.type_table.proofs.Lists.{by_test, map_length}
use Rattle.ground_model.specs.declared.action.Choice.{Choice}
use Rattle.ground_model.specs.declared.action.GroundAction.{GroundAction}
use Rattle.ground_model.specs.declared.condition.GroundCondition.{GroundCondition}
use Rattle.ground_meaning.specs.choices.Numbering.{ground_condition}
use Rattle.ground_meaning.specs.choices.Joint.{Joint, joint, charged_choices}
use Rattle.ground_meaning.specs.choices.Limits.{widest, is_dear}
use Rattle.ground_meaning.specs.declared.refusals.limits.LimitCode.{LimitCode}
use Rattle.ground_meaning.specs.declared.refusals.limits.LimitCode.TheVariants.{Choices, GroundSize, OutcomeCost}
use Rattle.ground_meaning.specs.refusals.Atoms.{numbering_of}
use Rattle.ground_meaning.specs.refusals.Limits.{checked, within}
use Rattle.task_instances.specs.variables.Named.{effect_names, action_names, named_parameters, StandAlike}
use Rattle.task_instances.proofs.lemmas.variables.Alike.{condition_alike, charged_alike, joint_alike, widest_alike}
use Rattle.task_instances.specs.facts.Facts.{table_of}
use Rattle.task_instances.specs.kept_rows.Kept.{bound_to, binding_of_row, IsRow}
use Rattle.task_instances.specs.kept_rows.Stages.{names_variable}
use Rattle.grounder.specs.instance_names.Names.{instance_of_row}
use Rattle.grounder.specs.declared.actions.GroundActions.{GroundActions}
use Rattle.grounder.specs.actions.Growing.{sized_actions, action_or_limit, with_ground_action}
use Rattle.grounder.specs.actions.Repeating.{agree_where, agrees_before, under_name, IsLike, IsLast}

-- ---- rows that agree give what is named the same objects

module _ (w : World) (named : Name → Bool) where
  one_more : (v : Name) (o p : ℕ) (b b' : Binding) → (not (named v) || nat_eq o p) ≡ true → StandAlike named b b'
      → StandAlike named ((v, object_at w o) ∷ b) ((v, object_at w p) ∷ b')
  one_more v o p b b' agree same u is = by_test (same_name v u)
      (λ e.
      let known : named v ≡ true = ap named ((same_name-Decides v u).0 e) ∙ is in
      let equal : nat_eq o p ≡ true = sym (ap (λ t. not t || nat_eq o p) known) ∙ agree in
      ap (λ t. cond t (object_at w o) (bound b u)) e
      ∙ ap (object_at w) (eqb-true o p equal)
      ∙ sym (ap (λ t. cond t (object_at w p) (bound b' u)) e))
      (λ e. ap (λ t. cond t (object_at w o) (bound b u)) e ∙ same u is ∙ sym (ap (λ t. cond t (object_at w p) (bound b' u)) e))

  rows_alike : (ps : List Param) (row other : List ℕ) (b b' : Binding) → length row ≡ length ps → length other ≡ length ps
      → agree_where (map (λ (p : Param). named p.name) ps) row other ≡ true → StandAlike named b b'
      → StandAlike named (bound_to w ps row b) (bound_to w ps other b')
  rows_alike [] row other b b' long wide agree same = same
  rows_alike (p ∷ ps) [] other b b' long wide agree same = absurd (omega arith)
  rows_alike (p ∷ ps) (o ∷ row) [] b b' long wide agree same = absurd (omega arith)
  rows_alike (p ∷ ps) (o ∷ row) (q ∷ other) b b' long wide agree same =
      let parts = and_parts (not (named p.name) || nat_eq o q) (agree_where (map (λ (x : Param). named x.name) ps) row other) agree in
      rows_alike ps row other ((p.name, object_at w o) ∷ b) ((p.name, object_at w q) ∷ b') (omega arith) (omega arith) parts.1
      (one_more p.name o q b b' parts.0 same)

-- ---- the same action under another name

abbrev shaped : ℕ → List Choice → List ℕ → GroundCondition → Joint → Result GroundAction LimitCode
shaped wide charged name condition j =
    within wide Choices
    >>= λ _. checked (not (list_any is_dear charged)) OutcomeCost
    >>= λ _. Ok (record { name = name; condition = condition; choices = j.list; den = j.den })

other_name : (wide : ℕ) (charged : List Choice) (name other : List ℕ) (condition : GroundCondition) (j : Joint) (x : GroundAction)
    → shaped wide charged name condition j ≡ Ok x → shaped wide charged other condition j ≡ Ok (under_name other x)
other_name wide charged name other condition j x is =
    let act : List ℕ → GroundAction = λ k. record { name = k; condition = condition; choices = j.list; den = j.den } in
    let cheap : List ℕ → Result GroundAction LimitCode = λ k. checked (not (list_any is_dear charged)) OutcomeCost >>= λ _. Ok (act k) in
    let first = bind_ok (within wide Choices) (λ _. cheap name) x is in
    let second = bind_ok (checked (not (list_any is_dear charged)) OutcomeCost) (λ _. Ok (act name)) x first.2 in
    let same : act name ≡ x = ok_is {E = LimitCode} (act name) x second.2 in
    ap (λ r. r >>= λ _. cheap other) first.1
    ∙ ap (λ r. r >>= λ _. Ok (act other)) second.1
    ∙ ap (λ y. Ok (under_name other y)) same

module _ (task : Task) (base : ℕ) (a : Action) (row other : List ℕ) (long : length row ≡ length a.params)
    (wide : length other ≡ length a.params) (agree : agree_where (named_parameters a) row other ≡ true) where
  abbrev b : Binding
  b = binding_of_row (table_of task) a.params row

  abbrev b' : Binding
  b' = binding_of_row (table_of task) a.params other

  alike : StandAlike (λ v. action_names v a) b b'
  alike = rows_alike (table_of task) (λ v. action_names v a) a.params row other [] [] long wide agree (λ v is. refl)

  in_effect : StandAlike (λ v. effect_names v a.effect) b b'
  in_effect v is = alike v (or_right (names_variable v a.condition) (effect_names v a.effect) is)

  in_condition : StandAlike (λ v. names_variable v a.condition) b b'
  in_condition v is = alike v (or_left (names_variable v a.condition) (effect_names v a.effect) is)

  -- the limits and the action are those of the other row, but for the name
  as_other : action_or_limit task base (instance_of_row task a row)
      ≡ shaped (widest (world task) (numbering_of task) a.effect b')
      (charged_choices (world task) (numbering_of task) a.effect b' base) (instance_name (instance_of_row task a row))
      (ground_condition (world task) (numbering_of task) a.condition b') (joint (world task) (numbering_of task) a.effect b' base)
  as_other = λ i. shaped (widest_alike (world task) (numbering_of task) a.effect b b' in_effect i)
      (charged_alike (world task) (numbering_of task) a.effect b b' in_effect base i) (instance_name (instance_of_row task a row))
      (condition_alike (world task) (numbering_of task) a.condition b b' in_condition i)
      (joint_alike (world task) (numbering_of task) a.effect b b' in_effect base i)

  pub repeated : (x : GroundAction) → action_or_limit task base (instance_of_row task a other) ≡ Ok x
      → IsLike task base (instance_of_row task a row) x
  repeated x is =
      as_other
      ∙ other_name (widest (world task) (numbering_of task) a.effect b')
      (charged_choices (world task) (numbering_of task) a.effect b' base) (instance_name (instance_of_row task a other))
      (instance_name (instance_of_row task a row)) (ground_condition (world task) (numbering_of task) a.condition b')
      (joint (world task) (numbering_of task) a.effect b' base) x is

-- ---- the row before

last_put : {X : Type 0} (xs : List X) (x : X) → slice_get (xs ++ x ∷ []) (length (xs ++ x ∷ []) - 1) ≡ Some x
last_put xs x =
    let long : length (xs ++ x ∷ []) - 1 ≡ length xs = simp length_push (omega arith) in
    ap (slice_get (xs ++ x ∷ [])) long ∙ at_end xs x
  where
    at_end : {X : Type 0} (xs : List X) (x : X) → slice_get (xs ++ x ∷ []) (length xs) ≡ Some x
    at_end [] x = refl
    at_end (y ∷ xs) x = at_end xs x

asked_is : {X : Type 0} (asked : Bool) (o : Option X) (x : X) → Some x ≡ cond asked o None → (asked ≡ true) × (o ≡ Some x)
asked_is true o x is = (refl, sym is)
asked_is false o x is = absurd cc

module _ (task : Task) (base : ℕ) (a : Action) (rows : List (List ℕ)) where
  abbrev row_at : ℕ → List ℕ
  row_at place = get_or rows place []

  -- the row before that at a place is that of the last action, where there is one
  abbrev pub HasLast : ℕ → List GroundAction → Type 0
  HasLast place list = 0 < place → IsLast task base (instance_of_row task a (row_at (place - 1))) list

  module _ (each : All (IsRow (table_of task) (length a.params)) rows) (named : List Bool) (are : named ≡ named_parameters a) where
    pub rows_wide : All (λ (row : List ℕ). length row ≡ length named) rows
    rows_wide =
        let same : length named ≡ length a.params = ap length are ∙ sym (map_length (λ (p : Param). action_names p.name a) a.params) in
        λ k d below. (each k d below).long ∙ sym same

    module _ (place : ℕ) (inside : place < length rows) (list : List GroundAction) (last : HasLast place list) where
      agreed : (x : GroundAction) → agrees_before named rows place ≡ true → slice_get list (length list - 1) ≡ Some x
          → IsLike task base (instance_of_row task a (row_at place)) x
      agreed x agree at =
          let parts = and_parts (nat_lt 0 place) (agree_where named (row_at place) (row_at (place - 1))) agree in
          let later : 0 < place = ltb-true 0 place parts.0 in
          let before = last later in
          let same : before.action ≡ x = cc (before.stands, at) in
          let below : place - 1 < length rows = omega arith in
          repeated task base a (row_at place) (row_at (place - 1)) (each place [] inside).long (each (place - 1) [] below).long
          (ap (λ l. agree_where l (row_at place) (row_at (place - 1))) (sym are) ∙ parts.1) x (before.formed ∙ ap Ok same)

      pub is_like : (like : Option GroundAction) (asked : Bool) (row : List ℕ) → asked ≡ agrees_before named rows place
          → like ≡ cond asked (slice_get list (length list - 1)) None → row ≡ row_at place
          → IfSome like (IsLike task base (instance_of_row task a row))
      is_like None asked row tests is at = tt
      is_like (Some x) asked row tests is at =
          let parts = asked_is asked (slice_get list (length list - 1)) x is in
          subst (λ r. IsLike task base (instance_of_row task a r) x) (sym at) (agreed x (sym tests ∙ parts.0) parts.1)

-- an action that is put behind others is the last
pub put_last : (task : Task) (base : ℕ) (a : Action) (rows : List (List ℕ)) (place effect : ℕ) (row : List ℕ) (g next : GroundActions) (x : GroundAction)
    → row ≡ get_or rows place [] → action_or_limit task base (instance_of_row task a row) ≡ Ok x → with_ground_action g x effect ≡ Ok next
    → HasLast task base a rows (place + 1) next.list
put_last task base a rows place effect row g next x at formed put later =
    let whole : GroundActions = sized_actions (g.list ++ x ∷ []) (g.size + length x.choices * effect) in
    let parts = bind_ok (within (g.size + length x.choices * effect) GroundSize) (λ _. Ok whole) next put in
    let same : whole ≡ next = ok_is {E = LimitCode} whole next parts.2 in
    let before : place + 1 - 1 ≡ place = omega arith in
    record {
      action = x;
      stands = subst (λ (l : List GroundAction). slice_get l (length l - 1) ≡ Some x) (λ j. (same j).list) (last_put g.list x);
      formed = ap (λ k. action_or_limit task base (instance_of_row task a (get_or rows k []))) before
          ∙ ap (λ r. action_or_limit task base (instance_of_row task a r)) (sym at) ∙ formed;
    }
