use Rattle.std.proofs.Common.{◌≡◌, ℕ, ◌<◌, Err, Ok, List, [], map, length, get_or, refl, sym, subst, ◌∙◌, arith}
use Rattle.std.specs.Prelude.{IfSome, Result}
use Rattle.std.specs.Option.{option_copied}
use Rattle.std.proofs.lemmas.Result.{err_from_is_err_and}
use Rattle.ppddl_model.specs.declared.tree.Action.{Action}
use Rattle.ppddl_model.specs.declared.tree.Task.{Task}
use Rattle.ppddl_model.specs.Steps.{world}
use Rattle.ground_model.specs.declared.action.GroundAction.{GroundAction}
use Rattle.ground_meaning.specs.choices.Limits.{effect_size}
use Rattle.ground_meaning.specs.declared.refusals.limits.LimitCode.{LimitCode}
use Rattle.ground_meaning.specs.declared.refusals.refusal.GroundRefusal.{GroundRefusal}
use Rattle.ground_terms.specs.sizes.Counted.{counted}
use Rattle.task_instances.specs.facts.Facts.{table_of}
use Rattle.task_instances.specs.kept_rows.Kept.{IsRow}
use Rattle.grounder.specs.instance_names.Names.{Names, names_of, instance_of_row}
use Rattle.grounder.specs.declared.actions.GroundActions.{GroundActions}
use Rattle.grounder.specs.actions.Answers.{IsBindingOf}
use Rattle.grounder.specs.actions.Forming.{IsFine}
use Rattle.grounder.specs.actions.Growing.{action_or_limit, with_instances, IsAnswerOf}
use Rattle.grounder.specs.actions.Repeating.{IsLike}
use Rattle.grounder.proofs.lemmas.actions.Tests.{handed_on}
use Rattle.grounder.proofs.lemmas.actions.Walked.{size_in_task}
use Rattle.grounder.proofs.lemmas.actions.Stepping.{row_has_no_room, row_is_not_formed, row_is_not_put, row_is_put}
use Rattle.grounder.proofs.lemmas.actions.Repeating.{rows_wide, is_like, put_last}
use Rattle.grounder.proofs.actions.walking.add_action.Goals as goal

-- what is answered of the instances that are named is answered of those of the action
answer_of : (names : Names) (task : Task) (base : ℕ) (a : Action) (row : List ℕ) (r : Result GroundAction GroundRefusal) → names ≡ names_of task a
    → IsAnswerOf r (action_or_limit names.task base (instance_of_row names.task names.action row))
    → IsAnswerOf r (action_or_limit task base (instance_of_row task a row))
answer_of names task base a row r same is =
    subst (λ (n : Names). IsAnswerOf r (action_or_limit n.task base (instance_of_row n.task n.action row))) same is

pub returns-in_err-room_for : goal.returns-in_err-room_for
returns-in_err-room_for c =
    let rows : List (List ℕ) = c.args.rows.now.rows in
    let whole : Result GroundActions LimitCode =
    with_instances c.args.facts.now c.args.base c.args.before (map (instance_of_row c.args.facts.now c.args.action.now) rows) in
    let sized : c.effect_size-effect.result ≡ counted (effect_size (world c.args.facts.now) c.args.action.now.effect) =
    size_in_task c.args.facts.now c.args.action.now c.args.within.now.table.now c.effect_size-effect.result c.requires.named.table
    c.effect_size-effect.ensures in
    let within : c.loop-place.place < length rows = omega (arith, c.len-place-end.ensures, c.loop-place-test.true) in
    let p = err_from_is_err_and c.from_residual-in_err-room_for.result c.from_residual-in_err-room_for.ensures.1 in
    handed_on c.from_residual-in_err-room_for.result c.in_err-room_for.field-0.0 p.0 whole p.1 p.2
    (row_has_no_room c.args.facts.now c.args.base c.args.action.now rows c.loop-place.place (get_or rows c.loop-place.place []) c.loop-place.grown c.effect_size-effect.result
    whole sized within refl c.loop-place.invariant.rest
    c.in_err-room_for.field-0.0 c.in_err-room_for.ensures)

pub returns-in_err-formed : goal.returns-in_err-formed
returns-in_err-formed c =
    let rows : List (List ℕ) = c.args.rows.now.rows in
    let whole : Result GroundActions LimitCode =
    with_instances c.args.facts.now c.args.base c.args.before (map (instance_of_row c.args.facts.now c.args.action.now) rows) in
    let sized : c.effect_size-effect.result ≡ counted (effect_size (world c.args.facts.now) c.args.action.now.effect) =
    size_in_task c.args.facts.now c.args.action.now c.args.within.now.table.now c.effect_size-effect.result c.requires.named.table
    c.effect_size-effect.ensures in
    let within : c.loop-place.place < length rows = omega (arith, c.len-place-end.ensures, c.loop-place-test.true) in
    let p = err_from_is_err_and c.from_residual-in_err-formed.result c.from_residual-in_err-formed.ensures.1 in
    handed_on c.from_residual-in_err-formed.result c.in_err-formed.field-0.0 p.0 whole p.1 p.2
    (row_is_not_formed c.args.facts.now c.args.base c.args.action.now rows c.loop-place.place c.row.result.now c.loop-place.grown c.effect_size-effect.result
    whole sized within c.row.ensures c.loop-place.invariant.rest
    c.in_ok-room_for.ensures c.in_err-formed.field-0.0
    (answer_of c.loop-place.names c.args.facts.now c.args.base c.args.action.now c.row.result.now (Err c.in_err-formed.field-0.0) c.loop-place.invariant.same
    c.in_err-formed.ensures.answer))

pub returns-in_err-grown : goal.returns-in_err-grown
returns-in_err-grown c =
    let rows : List (List ℕ) = c.args.rows.now.rows in
    let whole : Result GroundActions LimitCode =
    with_instances c.args.facts.now c.args.base c.args.before (map (instance_of_row c.args.facts.now c.args.action.now) rows) in
    let sized : c.effect_size-effect.result ≡ counted (effect_size (world c.args.facts.now) c.args.action.now.effect) =
    size_in_task c.args.facts.now c.args.action.now c.args.within.now.table.now c.effect_size-effect.result c.requires.named.table
    c.effect_size-effect.ensures in
    let within : c.loop-place.place < length rows = omega (arith, c.len-place-end.ensures, c.loop-place-test.true) in
    let p = err_from_is_err_and c.from_residual-in_err-grown.result c.from_residual-in_err-grown.ensures.1 in
    handed_on c.from_residual-in_err-grown.result c.in_err-grown.field-0.0 p.0 whole p.1 p.2
    (row_is_not_put c.args.facts.now c.args.base c.args.action.now rows c.loop-place.place c.row.result.now c.loop-place.grown c.effect_size-effect.result
    whole sized within c.row.ensures c.loop-place.invariant.rest
    c.in_ok-room_for.ensures c.in_ok-formed.formed
    (answer_of c.loop-place.names c.args.facts.now c.args.base c.args.action.now c.row.result.now (Ok c.in_ok-formed.formed) c.loop-place.invariant.same
    c.in_ok-formed.ensures.answer)
    c.in_err-grown.field-0.0 c.in_err-grown.ensures)

pub loop-place-preserved : goal.loop-place-preserved
loop-place-preserved c =
    let rows : List (List ℕ) = c.args.rows.now.rows in
    let whole : Result GroundActions LimitCode =
    with_instances c.args.facts.now c.args.base c.args.before (map (instance_of_row c.args.facts.now c.args.action.now) rows) in
    let sized : c.effect_size-effect.result ≡ counted (effect_size (world c.args.facts.now) c.args.action.now.effect) =
    size_in_task c.args.facts.now c.args.action.now c.args.within.now.table.now c.effect_size-effect.result c.requires.named.table
    c.effect_size-effect.ensures in
    let within : c.loop-place.place < length rows = omega (arith, c.len-place-end.ensures, c.loop-place-test.true) in
    let formed : action_or_limit c.args.facts.now c.args.base (instance_of_row c.args.facts.now c.args.action.now c.row.result.now) ≡ Ok c.in_ok-formed.formed =
    answer_of c.loop-place.names c.args.facts.now c.args.base c.args.action.now c.row.result.now (Ok c.in_ok-formed.formed) c.loop-place.invariant.same
    c.in_ok-formed.ensures.answer in
    record {
      rest =
          row_is_put c.args.facts.now c.args.base c.args.action.now rows c.loop-place.place c.row.result.now c.loop-place.grown c.effect_size-effect.result
          whole sized within c.row.ensures c.loop-place.invariant.rest
          c.in_ok-room_for.ensures c.in_ok-formed.formed formed c.in_ok-grown.grown c.in_ok-grown.ensures;
      same = c.in_ok-formed.ensures.same ∙ c.loop-place.invariant.same;
      last =
          put_last c.args.facts.now c.args.base c.args.action.now rows c.loop-place.place c.effect_size-effect.result c.row.result.now c.loop-place.grown
          c.in_ok-grown.grown c.in_ok-formed.formed c.row.ensures formed c.in_ok-grown.ensures;
    }

pub agrees_before-requires-clause-wide : goal.agrees_before-requires-clause-wide
agrees_before-requires-clause-wide c =
    let rows : List (List ℕ) = c.args.rows.now.rows in
    rows_wide c.args.facts.now c.args.base c.args.action.now rows c.requires.rows c.as_slice.result.now (c.as_slice.ensures.value ∙ c.in_ok-named.ensures)

pub next_action-requires-clause-named : goal.next_action-requires-clause-named
next_action-requires-clause-named c =
    subst (λ (n : Names). IsBindingOf n.task c.args.within.now) (sym c.loop-place.invariant.same) c.requires.named

pub next_action-requires-clause-action : goal.next_action-requires-clause-action
next_action-requires-clause-action c = λ i. (c.loop-place.invariant.same i).action

pub next_action-requires-clause-fine : goal.next_action-requires-clause-fine
next_action-requires-clause-fine c = subst (λ (n : Names). IsFine n.task n.action) (sym c.loop-place.invariant.same) c.requires.fine

pub next_action-requires-clause-row : goal.next_action-requires-clause-row
next_action-requires-clause-row c =
    let within : c.loop-place.place < length c.args.rows.now.rows = omega (arith, c.len-place-end.ensures, c.loop-place-test.true) in
    subst (λ (n : Names). IsRow (table_of n.task) (length n.action.params) c.row.result.now) (sym c.loop-place.invariant.same)
    (subst (IsRow (table_of c.args.facts.now) (length c.args.action.now.params)) (sym c.row.ensures) (c.requires.rows c.loop-place.place [] within))

pub next_action-requires-clause-like : goal.next_action-requires-clause-like
next_action-requires-clause-like c =
    let rows : List (List ℕ) = c.args.rows.now.rows in
    let within : c.loop-place.place < length rows = omega (arith, c.len-place-end.ensures, c.loop-place-test.true) in
    subst
    (λ (n : Names). IfSome (option_copied c.last_if-like.result) (IsLike n.task c.args.base (instance_of_row n.task n.action c.row.result.now)))
    (sym c.loop-place.invariant.same)
    (is_like c.args.facts.now c.args.base c.args.action.now rows c.requires.rows c.as_slice.result.now (c.as_slice.ensures.value ∙ c.in_ok-named.ensures)
    c.loop-place.place within c.loop-place.grown.list c.loop-place.invariant.last (option_copied c.last_if-like.result) c.agrees_before.result
    c.row.result.now c.agrees_before.ensures c.last_if-like.ensures c.row.ensures)
