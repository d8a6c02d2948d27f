use Rattle.std.proofs.Common.{◌≡◌, ◌++◌, take}
use Rattle.std.specs.List.{flat_map}
use Rattle.plan_report.specs.Reports.{action_lines}
use Rattle.plan_report.proofs.grounded.push_actions.Given as goal

abbrev pub invariant-loop-action : goal.invariant-loop-action
invariant-loop-action l = l.out.items ≡ l.initial.out.items ++ flat_map (action_lines l.atoms) (take l.action-index l.actions)
