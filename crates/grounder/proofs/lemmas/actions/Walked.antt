-- Instances that are put in one after another, and kept instances by their rows.
use Rattle.std.proofs.Common.{◌≡◌, ℕ, ◌+◌, ◌<◌, Bool, List, [], ◌∷◌, ◌++◌, map, filter, length, drop, drop-cons, get_or, add-one, refl, sym, ap, ◌∙◌}
use Rattle.std.specs.Prelude.{flat_map, Result, Ok, Err}
use Rattle.std.proofs.lemmas.List.Elements.{filter-append}
use Rattle.plain_list.specs.Results.{◌>>=◌}
use Rattle.plain_list.proofs.Results.{bind_assoc, bind_cong}
use Rattle.type_table.proofs.Lists.{by_test}
use Rattle.ppddl_model.specs.declared.tree.Action.{Action}
use Rattle.ppddl_model.specs.declared.tree.Task.{Task}
use Rattle.ppddl_model.specs.Objects.{Binding, bindings}
use Rattle.ppddl_model.specs.Changing.{is_kept, kept_instances}
use Rattle.ppddl_model.specs.Steps.{Instance, world}
use Rattle.ground_model.specs.declared.action.GroundAction.{GroundAction}
use Rattle.ground_meaning.specs.choices.Limits.{effect_size}
use Rattle.ground_meaning.specs.declared.refusals.limits.LimitCode.{LimitCode}
use Rattle.ground_meaning.specs.declared.refusals.refusal.GroundRefusal.{GroundRefusal}
use Rattle.ground_terms.specs.sizes.Counted.{counted}
use Rattle.ground_terms.proofs.lemmas.sizes.Forgetting.{effect_forgets}
use Rattle.task_instances.specs.facts.Facts.{table_of}
use Rattle.task_instances.specs.kept_rows.Rows.{Table}
use Rattle.task_instances.specs.kept_rows.Kept.{binding_of_row, AreKept}
use Rattle.grounder.specs.instance_names.Names.{instance_of_row}
use Rattle.grounder.specs.declared.actions.GroundActions.{GroundActions}
use Rattle.grounder.specs.actions.Growing.{room_for, with_ground_action, kept_instances_of, action_or_limit, with_instances, IsAnswerOf}
use Rattle.grounder.proofs.lemmas.actions.Tests.{refused_then, refused_same}
use Rattle.grounder.proofs.lemmas.actions.Rooms.{room_counted, effect_is}

-- ---- one instance

module _ (task : Task) (base : ℕ) (g : GroundActions) (i : Instance) (more : List Instance) (effect : ℕ)
    (sized : effect ≡ counted (effect_size (world task) i.action.effect)) where
  abbrev each : ℕ
  each = effect_size (world task) i.action.effect

  abbrev rest : GroundActions → Result GroundActions LimitCode
  rest next = with_instances task base next more

  abbrev with_it : GroundAction → Result GroundActions LimitCode
  with_it a = with_ground_action g a each >>= rest

  abbrev then_formed : Result (Unit {0}) LimitCode → Result GroundActions LimitCode
  then_formed r = r >>= λ _. action_or_limit task base i >>= with_it

  room_is : room_for g effect ≡ room_for g each
  room_is = ap (room_for g) sized ∙ room_counted g each

  pub no_room : (e : GroundRefusal) → IsAnswerOf {X = Unit {0}} (Err e) (room_for g effect)
      → IsAnswerOf {X = GroundActions} (Err e) (with_instances task base g (i ∷ more))
  no_room e is =
      refused_then {X = Unit {0}} {Y = GroundActions} e (room_for g each) (λ _. action_or_limit task base i >>= with_it)
      (refused_same {X = Unit {0}} e (room_for g effect) (room_for g each) room_is is)

  module _ (room : room_for g effect ≡ Ok tt) where
    has_room : room_for g each ≡ Ok tt
    has_room = sym room_is ∙ room

    roomy : with_instances task base g (i ∷ more) ≡ (action_or_limit task base i >>= with_it)
    roomy = ap then_formed has_room

    same_size : effect ≡ each
    same_size = sized ∙ effect_is g each has_room

    pub not_formed : (e : GroundRefusal) → IsAnswerOf {X = GroundAction} (Err e) (action_or_limit task base i)
        → IsAnswerOf {X = GroundActions} (Err e) (with_instances task base g (i ∷ more))
    not_formed e is =
        refused_same {X = GroundActions} e (action_or_limit task base i >>= with_it) (with_instances task base g (i ∷ more)) (sym roomy)
        (refused_then {X = GroundAction} {Y = GroundActions} e (action_or_limit task base i) with_it is)

    module _ (a : GroundAction) (formed : action_or_limit task base i ≡ Ok a) where
      reached : with_instances task base g (i ∷ more) ≡ (with_ground_action g a effect >>= rest)
      reached = roomy ∙ ap (λ r. r >>= with_it) formed ∙ ap (λ n. with_ground_action g a n >>= rest) (sym same_size)

      pub not_put : (e : GroundRefusal) → IsAnswerOf {X = GroundActions} (Err e) (with_ground_action g a effect)
          → IsAnswerOf {X = GroundActions} (Err e) (with_instances task base g (i ∷ more))
      not_put e is =
          refused_same {X = GroundActions} e (with_ground_action g a effect >>= rest) (with_instances task base g (i ∷ more)) (sym reached)
          (refused_then {X = GroundActions} {Y = GroundActions} e (with_ground_action g a effect) rest is)

      pub put_in : (next : GroundActions) → with_ground_action g a effect ≡ Ok next → with_instances task base next more ≡ with_instances task base g (i ∷ more)
      put_in next is = sym (reached ∙ ap (λ r. r >>= rest) is)

-- ---- instances behind others

pub with_append : (task : Task) (base : ℕ) (g : GroundActions) (xs ys : List Instance)
    → with_instances task base g (xs ++ ys) ≡ (with_instances task base g xs >>= λ next. with_instances task base next ys)
with_append task base g [] ys = refl
with_append task base g (i ∷ xs) ys =
    let each : ℕ = effect_size (world task) i.action.effect in
    let formed : Result GroundAction LimitCode = action_or_limit task base i in
    let put : GroundAction → Result GroundActions LimitCode = λ a. with_ground_action g a each in
    let first : GroundActions → Result GroundActions LimitCode = λ next. with_instances task base next xs in
    let last : GroundActions → Result GroundActions LimitCode = λ next. with_instances task base next ys in
    let both : GroundActions → Result GroundActions LimitCode = λ next. with_instances task base next (xs ++ ys) in
    let of_put : (a : GroundAction) → (put a >>= both) ≡ ((put a >>= first) >>= last)
    = λ a. bind_cong (put a) both (λ next. first next >>= last) (λ next. with_append task base next xs ys) ∙ sym (bind_assoc (put a) first last) in
    let of_formed : (formed >>= λ a. put a >>= both) ≡ ((formed >>= λ a. put a >>= first) >>= last)
    = bind_cong formed (λ a. put a >>= both) (λ a. (put a >>= first) >>= last) of_put ∙ sym (bind_assoc formed (λ a. put a >>= first) last) in
    ap (λ r. room_for g each >>= λ _. r) of_formed
    ∙ sym (bind_assoc (room_for g each) (λ _. formed >>= λ a. put a >>= first) last)

-- ---- kept instances

filter-map : {X Y : Type 0} (p : Y → Bool) (g : X → Y) (xs : List X) → filter p (map g xs) ≡ map g (filter (λ x. p (g x)) xs)
filter-map p g [] = refl
filter-map p g (x ∷ xs) = by_test (p (g x))
    (λ e. rw e (ap (λ l. g x ∷ l) (filter-map p g xs)))
    (λ e. rw e (filter-map p g xs))

filter-flat : {X Y : Type 0} (p : Y → Bool) (f : X → List Y) (xs : List X) → filter p (flat_map f xs) ≡ flat_map (λ x. filter p (f x)) xs
filter-flat p f [] = refl
filter-flat p f (x ∷ xs) = filter-append p (f x) (flat_map f xs) ∙ ap (λ l. filter p (f x) ++ l) (filter-flat p f xs)

map-map : {X Y Z : Type 0} (g : Y → Z) (f : X → Y) (xs : List X) → map (λ x. g (f x)) xs ≡ map g (map f xs)
map-map g f [] = refl
map-map g f (x ∷ xs) = ap (λ l. g (f x) ∷ l) (map-map g f xs)

module _ (task : Task) where
  abbrev instance_of : Action → Binding → Instance
  instance_of a b = record { action = a; binding = b }

  pub kept_by_action : kept_instances task ≡ flat_map (kept_instances_of task) task.domain.actions
  kept_by_action =
      filter-flat (is_kept task) (λ (a : Action). map (instance_of a) (bindings (world task) a.params [])) task.domain.actions

  pub by_rows : (a : Action) (t : Table) → AreKept task a t → map (instance_of_row task a) t.rows ≡ kept_instances_of task a
  by_rows a t kept =
      map-map (instance_of a) (binding_of_row (table_of task) a.params) t.rows
      ∙ ap (map (instance_of a)) kept.bound
      ∙ sym (filter-map (is_kept task) (instance_of a) (bindings (world task) a.params []))

  -- what the table says of an effect's size is so in the task
  pub size_in_task : (a : Action) (table effect : _) → table ≡ table_of task → effect ≡ counted (effect_size table a.effect)
      → effect ≡ counted (effect_size (world task) a.effect)
  size_in_task a table effect same is =
      is ∙ ap (λ w. counted (effect_size w a.effect)) same ∙ ap counted (sym (effect_forgets (table_of task) task.problem.values a.effect))

-- ---- one more in a list

pub drop_at : {X : Type 0} (xs : List X) (i : ℕ) (d : X) → i < length xs → drop i xs ≡ get_or xs i d ∷ drop (i + 1) xs
drop_at xs i d within = drop-cons xs i d within ∙ ap (λ k. get_or xs i d ∷ drop k xs) (sym (add-one i))
