use Rattle.std.proofs.Common.{◌≡◌, ◌≤◌, map}
use Rattle.std.specs.Prelude.{All}
use Rattle.std.specs.List.{range_with_len}
use Rattle.brtdp_trial.specs.Draws.{draw_of}
use Rattle.policy_walk.specs.Buffers.{IsBufferOf}
use Rattle.policy_walk.specs.declared.ends.Walk.{Walk}
use Rattle.policy_walk.specs.declared.limits.TheConstants.{MOST_WALK_COST}
use Rattle.policy_walk.specs.Policies.{policy_by}
use Rattle.policy_walk.specs.Walks.{walk}
use Rattle.plan_app.proofs.walking.walks_of.Given as goal

abbrev pub invariant-loop-number : goal.invariant-loop-number
invariant-loop-number l =
    IsBufferOf l.problem l.buffer
    × (l.walks.items ≡ map (λ i. walk l.problem (policy_by l.policy) (draw_of l.walking.seed i) l.walking.steps) (range_with_len 0 l.number))
    × All (λ (w : Walk). w.cost ≤ MOST_WALK_COST) l.walks.items
