-- One row more, and one action more.
use Rattle.std.proofs.Common.{◌≡◌, ℕ, ◌+◌, ◌<◌, List, [], ◌∷◌, ◌++◌, map, length, drop, get_or, sym, ap, ◌∙◌}
use Rattle.std.specs.Prelude.{flat_map, Result, Ok, Err}
use Rattle.plain_list.specs.Results.{◌>>=◌}
use Rattle.ppddl_model.specs.declared.tree.Action.{Action}
use Rattle.ppddl_model.specs.declared.tree.Task.{Task}
use Rattle.ppddl_model.specs.Changing.{kept_instances}
use Rattle.ppddl_model.specs.Steps.{Instance, world}
use Rattle.ground_model.specs.declared.action.GroundAction.{GroundAction}
use Rattle.ground_meaning.specs.choices.Limits.{effect_size}
use Rattle.ground_meaning.specs.declared.refusals.limits.LimitCode.{LimitCode}
use Rattle.ground_meaning.specs.declared.refusals.refusal.GroundRefusal.{GroundRefusal}
use Rattle.ground_terms.specs.sizes.Counted.{counted}
use Rattle.task_instances.specs.kept_rows.Rows.{Table}
use Rattle.task_instances.specs.kept_rows.Kept.{AreKept}
use Rattle.grounder.specs.instance_names.Names.{instance_of_row}
use Rattle.grounder.specs.declared.actions.GroundActions.{GroundActions}
use Rattle.grounder.specs.actions.Growing.{no_actions, room_for, with_ground_action, kept_instances_of, action_or_limit, with_instances, IsAnswerOf}
use Rattle.grounder.proofs.lemmas.actions.Tests.{refused_then, refused_same}
use Rattle.grounder.proofs.lemmas.actions.Walked.{no_room, not_formed, not_put, put_in, with_append, kept_by_action, by_rows, drop_at}

module _ (task : Task) (base : ℕ) (a : Action) (rows : List (List ℕ)) (place : ℕ) (row : List ℕ) (g : GroundActions) (effect : ℕ)
    (whole : Result GroundActions LimitCode) (sized : effect ≡ counted (effect_size (world task) a.effect)) (within : place < length rows)
    (at : row ≡ get_or rows place []) (before : with_instances task base g (map (instance_of_row task a) (drop place rows)) ≡ whole) where
  abbrev here : Instance
  here = instance_of_row task a row

  abbrev later : List Instance
  later = map (instance_of_row task a) (drop (place + 1) rows)

  split : map (instance_of_row task a) (drop place rows) ≡ here ∷ later
  split = ap (map (instance_of_row task a)) (drop_at rows place [] within) ∙ ap (λ r. instance_of_row task a r ∷ later) (sym at)

  from_here : with_instances task base g (here ∷ later) ≡ whole
  from_here = ap (with_instances task base g) (sym split) ∙ before

  pub row_has_no_room : (e : GroundRefusal) → IsAnswerOf {X = Unit {0}} (Err e) (room_for g effect) → IsAnswerOf {X = GroundActions} (Err e) whole
  row_has_no_room e is =
      refused_same {X = GroundActions} e (with_instances task base g (here ∷ later)) whole from_here (no_room task base g here later effect sized e is)

  module _ (room : room_for g effect ≡ Ok tt) where
    pub row_is_not_formed : (e : GroundRefusal) → IsAnswerOf {X = GroundAction} (Err e) (action_or_limit task base here)
        → IsAnswerOf {X = GroundActions} (Err e) whole
    row_is_not_formed e is =
        refused_same {X = GroundActions} e (with_instances task base g (here ∷ later)) whole from_here
        (not_formed task base g here later effect sized room e is)

    module _ (x : GroundAction) (formed : action_or_limit task base here ≡ Ok x) where
      pub row_is_not_put : (e : GroundRefusal) → IsAnswerOf {X = GroundActions} (Err e) (with_ground_action g x effect)
          → IsAnswerOf {X = GroundActions} (Err e) whole
      row_is_not_put e is =
          refused_same {X = GroundActions} e (with_instances task base g (here ∷ later)) whole from_here
          (not_put task base g here later effect sized room x formed e is)

      pub row_is_put : (next : GroundActions) → with_ground_action g x effect ≡ Ok next → with_instances task base next later ≡ whole
      row_is_put next is = put_in task base g here later effect sized room x formed next is ∙ from_here

module _ (task : Task) (base : ℕ) (actions : List Action) (place : ℕ) (a : Action) (t : Table) (g : GroundActions)
    (whole : Result GroundActions LimitCode) (within : place < length actions) (at : a ≡ get_or actions place a) (kept : AreKept task a t)
    (before : with_instances task base g (flat_map (kept_instances_of task) (drop place actions)) ≡ whole) where
  abbrev these : List Instance
  these = map (instance_of_row task a) t.rows

  abbrev others : List Instance
  others = flat_map (kept_instances_of task) (drop (place + 1) actions)

  abbrev then_others : GroundActions → Result GroundActions LimitCode
  then_others next = with_instances task base next others

  parted : these ++ others ≡ flat_map (kept_instances_of task) (drop place actions)
  parted =
      ap (λ l. l ++ others) (by_rows task a t kept) ∙ ap (λ x. kept_instances_of task x ++ others) at
      ∙ ap (flat_map (kept_instances_of task)) (sym (drop_at actions place a within))

  from_these : (with_instances task base g these >>= then_others) ≡ whole
  from_these = sym (with_append task base g these others) ∙ ap (with_instances task base g) parted ∙ before

  pub action_is_refused : (e : GroundRefusal) → IsAnswerOf {X = GroundActions} (Err e) (with_instances task base g these)
      → IsAnswerOf {X = GroundActions} (Err e) whole
  action_is_refused e is =
      refused_same {X = GroundActions} e (with_instances task base g these >>= then_others) whole from_these
      (refused_then {X = GroundActions} {Y = GroundActions} e (with_instances task base g these) then_others is)

  pub action_is_added : (next : GroundActions) → with_instances task base g these ≡ Ok next → with_instances task base next others ≡ whole
  action_is_added next is = sym (ap (λ r. r >>= then_others) is) ∙ from_these

pub all_kept : (task : Task) (base tested : ℕ) (none : GroundActions) (actions : List Action) → none ≡ no_actions tested → actions ≡ task.domain.actions
    → with_instances task base none (flat_map (kept_instances_of task) actions) ≡ with_instances task base (no_actions tested) (kept_instances task)
all_kept task base tested none actions is are =
    (λ j. with_instances task base (is j) (flat_map (kept_instances_of task) (are j))) ∙ ap (with_instances task base (no_actions tested)) (sym (kept_by_action task))
