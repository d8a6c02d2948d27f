use Rattle.std.proofs.Common.{◌≡◌, length, arith}
use Rattle.std.specs.Prelude.{flat_map, Result}
use Rattle.std.proofs.lemmas.Result.{err_from_is_err_and}
use Rattle.std.proofs.lemmas.Slice.Zip.{AllZip-long}
use Rattle.ground_meaning.specs.declared.refusals.limits.LimitCode.{LimitCode}
use Rattle.task_instances.specs.kept_rows.Kept.{AreKept}
use Rattle.grounder.specs.declared.actions.GroundActions.{GroundActions}
use Rattle.grounder.specs.actions.Growing.{kept_instances_of, with_instances}
use Rattle.grounder.proofs.lemmas.actions.Tests.{handed_on}
use Rattle.grounder.proofs.lemmas.actions.Rows.{kept_at}
use Rattle.grounder.proofs.lemmas.actions.Stepping.{action_is_refused, action_is_added}
use Rattle.grounder.proofs.actions.walking.add_actions.Goals as goal

pub bounds-kept-place : goal.bounds-kept-place
bounds-kept-place c =
    let long : length c.args.kept.now ≡ length c.args.actions.now = AllZip-long (AreKept c.args.facts.now) c.args.actions.now c.args.kept.now c.requires.kept in
    omega (arith, long, c.loop-place-test.true)

pub add_action-requires-clause-rows : goal.add_action-requires-clause-rows
add_action-requires-clause-rows c =
    let kept : AreKept c.args.facts.now c.index-actions-place.result c.index-kept-place.result =
    kept_at c.args.facts.now c.args.actions.now c.args.kept.now c.loop-place.place c.index-actions-place.result c.index-kept-place.result
    c.requires.kept c.loop-place-test.true c.index-actions-place.is c.index-kept-place.is in
    kept.each

pub returns-in_err-grown : goal.returns-in_err-grown
returns-in_err-grown c =
    let kept : AreKept c.args.facts.now c.index-actions-place.result c.index-kept-place.result =
    kept_at c.args.facts.now c.args.actions.now c.args.kept.now c.loop-place.place c.index-actions-place.result c.index-kept-place.result
    c.requires.kept c.loop-place-test.true c.index-actions-place.is c.index-kept-place.is in
    let whole : Result GroundActions LimitCode =
    with_instances c.args.facts.now c.args.base c.args.before (flat_map (kept_instances_of c.args.facts.now) c.args.actions.now) in
    let p = err_from_is_err_and c.from_residual.result c.from_residual.ensures.1 in
    handed_on c.from_residual.result c.in_err-grown.field-0.0 p.0 whole p.1 p.2
    (action_is_refused c.args.facts.now c.args.base c.args.actions.now c.loop-place.place c.index-actions-place.result c.index-kept-place.result
    c.loop-place.grown whole c.loop-place-test.true c.index-actions-place.is kept c.loop-place.invariant
    c.in_err-grown.field-0.0 c.in_err-grown.ensures)

pub loop-place-preserved : goal.loop-place-preserved
loop-place-preserved c =
    let kept : AreKept c.args.facts.now c.index-actions-place.result c.index-kept-place.result =
    kept_at c.args.facts.now c.args.actions.now c.args.kept.now c.loop-place.place c.index-actions-place.result c.index-kept-place.result
    c.requires.kept c.loop-place-test.true c.index-actions-place.is c.index-kept-place.is in
    let whole : Result GroundActions LimitCode =
    with_instances c.args.facts.now c.args.base c.args.before (flat_map (kept_instances_of c.args.facts.now) c.args.actions.now) in
    action_is_added c.args.facts.now c.args.base c.args.actions.now c.loop-place.place c.index-actions-place.result c.index-kept-place.result
    c.loop-place.grown whole c.loop-place-test.true c.index-actions-place.is kept c.loop-place.invariant
    c.in_ok-grown.grown c.in_ok-grown.ensures
