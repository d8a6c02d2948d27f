use Rattle.std.proofs.Common.{◌≡◌, map, take}
use Rattle.ground_step.specs.Names.{action_names}
use Rattle.ground_step.proofs.action_names.ActionNames.new.Given as goal

abbrev pub invariant-loop-action : goal.invariant-loop-action
invariant-loop-action l =
    (map (λ name. name.now) l.set.keys ≡ take l.action-index (action_names l.problem))
    × (l.action-items ≡ l.problem.actions)
