-- A walk, one turn after another.
use Rattle.std.proofs.Common.{◌≡◌, ℕ, suc, zero, ◌+◌, true, false, cond, Option, None, Some, ap, ◌∙◌}
use Rattle.ground_model.specs.declared.action.Choice.{Choice}
use Rattle.ground_model.specs.Packed.{State, has_bit}
use Rattle.ground_model.specs.Choices.{cost_of, next_state}
use Rattle.ground_model.specs.Ground.{Ground}
use Rattle.ground_model.specs.Steps.{ground_process}
use Rattle.policy_walk.specs.declared.ends.Walk.{Walk}
use Rattle.policy_walk.specs.declared.ends.WalkEnd.TheVariants.{Goal, GaveUp, Open}
use Rattle.policy_walk.specs.Policies.{Policy}
use Rattle.policy_walk.specs.Walks.{choice_drawn, ended, stopped, walk_on}

module _ (g : Ground) (policy : Policy) (steps cost : ℕ) (s : State) where
  at_goal : (goes : ℕ → Walk) → (ground_process g).goal s ≡ true → stopped g policy steps cost s goes ≡ ended Goal steps cost
  at_goal goes on =
      ap (λ b. cond b (ended Goal steps cost) (elim (policy s) [ None ↦ ended GaveUp steps (cost + g.penalty) | Some k ↦ goes k ])) on

  off_goal : (goes : ℕ → Walk) (o : Option ℕ) → (ground_process g).goal s ≡ false → policy s ≡ o
      → stopped g policy steps cost s goes ≡ elim o [ None ↦ ended GaveUp steps (cost + g.penalty) | Some k ↦ goes k ]
  off_goal goes o off acts =
      ap (λ b. cond b (ended Goal steps cost) (elim (policy s) [ None ↦ ended GaveUp steps (cost + g.penalty) | Some k ↦ goes k ])) off
      ∙ ap (λ x. elim x [ None ↦ ended GaveUp steps (cost + g.penalty) | Some k ↦ goes k ]) acts

  module _ (draw : ℕ → ℕ) where
    go_by : ℕ → Option Choice → Walk
    go_by left None = ended Open steps cost
    go_by left (Some c) = walk_on g policy draw left (steps + 1) (cost + cost_of (has_bit s) c) (next_state s c)

    pub ends_at_goal : (left : ℕ) → (ground_process g).goal s ≡ true → walk_on g policy draw left steps cost s ≡ ended Goal steps cost
    ends_at_goal zero on = at_goal _ on
    ends_at_goal (suc left) on = at_goal _ on

    pub ends_giving_up : (left : ℕ) → (ground_process g).goal s ≡ false → policy s ≡ None
        → walk_on g policy draw left steps cost s ≡ ended GaveUp steps (cost + g.penalty)
    ends_giving_up zero off quits = off_goal _ None off quits
    ends_giving_up (suc left) off quits = off_goal _ None off quits

    pub stays_open : (k : ℕ) → (ground_process g).goal s ≡ false → policy s ≡ Some k
        → walk_on g policy draw 0 steps cost s ≡ ended Open steps cost
    stays_open k off acts = off_goal (λ _. ended Open steps cost) (Some k) off acts

    pub goes_on : (left k : ℕ) (c : Choice) → (ground_process g).goal s ≡ false → policy s ≡ Some k
        → choice_drawn g k (draw (steps + 1)) ≡ Some c
        → walk_on g policy draw (suc left) steps cost s
        ≡ walk_on g policy draw left (steps + 1) (cost + cost_of (has_bit s) c) (next_state s c)
    unfolding go_by
    goes_on left k c off acts is_drawn =
        off_goal (λ j. go_by left (choice_drawn g j (draw (steps + 1)))) (Some k) off acts ∙ ap (go_by left) is_drawn
