-- No name so far is longer.
use Rattle.std.proofs.Common.{◌≡◌, ◌≤◌, ◌<◌, ◌^◌, ℕ, length, Some}
use Rattle.std.specs.List.{slice_get}
use Rattle.ground_model.specs.declared.action.GroundAction.{GroundAction}
use Rattle.policy_server.proofs.query_buffer.most_act.Given as goal

abbrev pub invariant-loop-action : goal.invariant-loop-action
invariant-loop-action l = record {
  least : 7 ≤ l.most;
  within : l.most < 2 ^ 63;
  names : (k : ℕ) (a : GroundAction) → k < l.action-index → slice_get l.action-items k ≡ Some a → length a.name ≤ l.most;
}
