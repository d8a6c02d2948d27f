use Rattle.std.proofs.Common.{◌≡◌, ◌≤◌, drop}
use Rattle.ground_meaning.specs.declared.refusals.limits.TheConstants.{MOST_GROUND_SIZE}
use Rattle.ground_meaning.specs.refusals.Limits.{actions_within}
use Rattle.grounder.proofs.limits.actions.actions_within.Given as goal

abbrev pub invariant-loop-action : goal.invariant-loop-action
invariant-loop-action l = record {
  small : l.size ≤ MOST_GROUND_SIZE;
  rest : actions_within l.facts l.size (drop l.action-index l.actions) ≡ actions_within l.facts 0 l.actions;
}
