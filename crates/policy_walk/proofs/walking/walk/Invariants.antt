use Rattle.std.proofs.Common.{◌≡◌, ℕ, ◌+◌, ◌-◌, ◌*◌, ◌≤◌}
use Rattle.brtdp_trial.specs.Draws.{Place, draw_of}
use Rattle.ground_model.specs.Ground.{Ground}
use Rattle.policy_walk.specs.Buffers.{IsBufferOf}
use Rattle.policy_walk.specs.declared.buffer.WalkBuffer.{WalkBuffer}
use Rattle.policy_walk.specs.Policies.{Policy, policy_by}
use Rattle.policy_walk.specs.Walks.{walk_on, walk}
use Rattle.policy_walk.proofs.walking.walk.Given as goal

-- so many steps are made at this cost, and what follows from here is the whole walk
pub record Stands (g : Ground) (policy : Policy) (seed number most : ℕ) (draws : Place) (buffer : WalkBuffer) (made cost : ℕ) : Type 0 where
  pub room : IsBufferOf g buffer
  pub next_draw : draws ≡ record { seed = seed; number = number; next = made + 1 }
  pub few : made ≤ most
  pub bounded : cost ≤ made * 10000000000000
  pub rest : walk g policy (draw_of seed number) most ≡ walk_on g policy (draw_of seed number) (most - made) made cost buffer.state

abbrev pub invariant-loop-draws : goal.invariant-loop-draws
invariant-loop-draws l =
    Stands l.fn.problem (policy_by l.fn.policy) l.fn.seed l.fn.number l.fn.steps l.draws l.buffer l.made l.cost

abbrev pub decreases-loop-draws : goal.decreases-loop-draws
decreases-loop-draws l = l.fn.steps - l.made
