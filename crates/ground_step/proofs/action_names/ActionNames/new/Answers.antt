-- Each name is new, since names differ, and goes behind the others.
use Rattle.std.proofs.Common.{◌<◌, List, length, ap, ◌∙◌, arith, map, get_or}
use Rattle.ground_model.specs.declared.action.GroundAction.{GroundAction}
use Rattle.ground_step.specs.Names.{action_names}
use Rattle.ground_step.proofs.Names.{name_put, name_read, names_apart, map_length}
use Rattle.ground_step.proofs.action_names.ActionNames.new.Goals as goal

pub loop-action-preserved : goal.loop-action-preserved
loop-action-preserved c =
    let problem = c.args.problem.now in
    let items = c.actions-action-items.result.now in
    let within : c.loop-action.action-index < length problem.actions
    = omega (arith, c.loop-action-test.true, ap length c.loop-action.invariant.1) in
    let read = c.action-item.is ∙ ap (λ (xs : List GroundAction). get_or xs c.loop-action.action-index c.action-item.result) c.loop-action.invariant.1 in (
      ap (map (λ name. name.now)) c.in-Ok.ensures.keys
          ∙ name_put (λ name. name.now) (action_names problem)
          (names_apart problem.actions c.actions.ensures.valid.names_differ)
          c.loop-action.set.keys c.loop-action.action-index c.as_slice.result
          (omega (arith, within, map_length (λ (a : GroundAction). a.name) problem.actions))
          c.loop-action.invariant.0
          (c.as_slice.ensures ∙ name_read problem.actions c.loop-action.action-index c.action-item.result within read),
      c.loop-action.invariant.1,
    )
