-- Each walk is a run of the process of its ground problem.
use Rattle.std.proofs.Common.{◌≡◌, ℕ, suc, zero, ◌+◌, ◌/◌, ◌≤◌, Bool, true, false, cond, List, [], ◌∷◌, length, Option, None, Some, refl, sym, subst, ◌∙◌, arith}
use Rattle.std.specs.Prelude.{Contains}
use Rattle.std.specs.List.{slice_get}
use Rattle.plain_list.proofs.Members.{Contains-map}
use Rattle.plain_list.specs.weighted.Mean.{total}
use Rattle.decision_process.specs.Process.{Outcome}
use Rattle.decision_process.specs.Policies.{IsPolicy}
use Rattle.ground_model.specs.declared.action.Choice.{Choice}
use Rattle.ground_model.specs.declared.action.GroundAction.{GroundAction}
use Rattle.ground_model.specs.Packed.{State, has_bit}
use Rattle.ground_model.specs.Choices.{cost_of, next_state}
use Rattle.ground_model.specs.Ground.{Ground}
use Rattle.ground_model.specs.Invariant.{IsGroundProblem}
use Rattle.ground_model.specs.Steps.{den_of, outcome_of, start_of, step, step_at, ground_process, ground_starts}
use Rattle.ground_model.proofs.Steps.{outcomes_have_weight, starts_have_weight}
use Rattle.policy_walk.specs.declared.ends.Walk.{Walk}
use Rattle.policy_walk.specs.declared.ends.WalkEnd.TheVariants.{Goal, GaveUp, Open}
use Rattle.policy_walk.specs.Laws as laws
use Rattle.policy_walk.specs.Policies.{Policy}
use Rattle.policy_walk.specs.Runs.{price, IsStep, AreSteps, IsEndAt, IsRunOf}
use Rattle.policy_walk.specs.Walks.{choice_drawn, ended, walk_on, walk}
use Rattle.policy_walk.proofs.Steps.{start_is, action_at, choice_is}

module _ (g : Ground) (is : IsGroundProblem g) (policy : Policy) (opens : IsPolicy (ground_process g) policy) where
  -- what is left of a run that stands in s
  record IsRest (left steps cost : ℕ) (s : State) (w : Walk) : Type 0 where
    outcomes : List (Outcome State)
    last : State
    path : AreSteps (ground_process g) policy s outcomes last
    steps_are : w.steps ≡ steps + length outcomes
    few : w.steps ≤ steps + left
    cost_is : w.cost ≡ cost + total (λ (o : Outcome State). o.cost) outcomes + price (ground_process g) w.end
    ends : IsEndAt (ground_process g) policy last w.end
    all_made : w.end ≡ Open → w.steps ≡ steps + left

  -- by whether s is a goal, and what the policy does there
  by_state : (left steps cost : ℕ) (s : State) (goes : ℕ → Walk) (b : Bool) (o : Option ℕ)
      → (ground_process g).goal s ≡ b → policy s ≡ o
      → ((k : ℕ) → (ground_process g).goal s ≡ false → policy s ≡ Some k → IsRest left steps cost s (goes k))
      → IsRest left steps cost s (cond b (ended Goal steps cost) (elim o [ None ↦ ended GaveUp steps (cost + g.penalty) | Some k ↦ goes k ]))
  by_state left steps cost s goes true o on acts rest = record {
    outcomes = [];
    last = s;
    path = refl;
    steps_are = omega arith;
    few = omega arith;
    cost_is = omega arith;
    ends = on;
    all_made = λ left_open. absurd cc;
  }
  by_state left steps cost s goes false None off quits rest = record {
    outcomes = [];
    last = s;
    path = refl;
    steps_are = omega arith;
    few = omega arith;
    cost_is = omega arith;
    ends = (off, quits);
    all_made = λ left_open. absurd cc;
  }
  by_state left steps cost s goes false (Some k) off acts rest = rest k off acts

  stays : (steps cost : ℕ) (s : State) (k : ℕ) → (ground_process g).goal s ≡ false → policy s ≡ Some k
      → IsRest 0 steps cost s (ended Open steps cost)
  stays steps cost s k off acts = record {
    outcomes = [];
    last = s;
    path = refl;
    steps_are = omega arith;
    few = omega arith;
    cost_is = omega arith;
    ends = (off, λ none. absurd (let both : Some k ≡ None = sym acts ∙ none in cc));
    all_made = λ left_open. omega arith;
  }

  is_step : (s : State) (k : ℕ) (a : GroundAction) (c : Choice) → (ground_process g).goal s ≡ false → policy s ≡ Some k
      → slice_get g.actions k ≡ Some a → Contains a.choices c
      → IsStep (ground_process g) policy s (outcome_of (den_of g.actions / a.den) s c)
  is_step s k a c off acts found member =
      let inside : Contains (step g k s) (outcome_of (den_of g.actions / a.den) s c) =
      subst (λ x. Contains (step_at (den_of g.actions) x s) (outcome_of (den_of g.actions / a.den) s c)) (sym found)
      (Contains-map (outcome_of (den_of g.actions / a.den) s) a.choices c member) in record {
        goes_on = off;
        action = k;
        takes = acts;
        is_open = opens s k off acts;
        outcome = inside;
        positive = outcomes_have_weight g is k s (outcome_of (den_of g.actions / a.den) s c) inside;
      }

  one_more : (left steps cost : ℕ) (s : State) (o : Outcome State) (w : Walk) → IsStep (ground_process g) policy s o
      → IsRest left (steps + 1) (cost + o.cost) o.next w → IsRest (suc left) steps cost s w
  one_more left steps cost s o w first rest = record {
    outcomes = o ∷ rest.outcomes;
    last = rest.last;
    path = (first, rest.path);
    steps_are = let h = rest.steps_are in omega (arith, h);
    few = let h = rest.few in omega (arith, h);
    cost_is = let h = rest.cost_is in omega (arith, h);
    ends = rest.ends;
    all_made = λ left_open. let h = rest.all_made left_open in omega (arith, h);
  }

  module _ (draw : ℕ → ℕ) where
    go_by : ℕ → ℕ → ℕ → State → Option Choice → Walk
    go_by left steps cost s None = ended Open steps cost
    go_by left steps cost s (Some c) = walk_on g policy draw left (steps + 1) (cost + cost_of (has_bit s) c) (next_state s c)

    rest_is : (left steps cost : ℕ) (s : State) → IsRest left steps cost s (walk_on g policy draw left steps cost s)
    unfolding go_by
    rest_is zero steps cost s =
        by_state 0 steps cost s (λ _. ended Open steps cost) ((ground_process g).goal s) (policy s) refl refl (stays steps cost s)
    rest_is (suc left) steps cost s =
        by_state (suc left) steps cost s (λ k. go_by left steps cost s (choice_drawn g k (draw (steps + 1))))
        ((ground_process g).goal s) (policy s) refl refl
        (λ k off acts.
        let action = action_at g is k s (opens s k off acts) in
        let choice = choice_is g is k action.0 action.1 (draw (steps + 1)) in
        subst (λ x. IsRest (suc left) steps cost s (go_by left steps cost s x)) (sym choice.1)
        (one_more left steps cost s (outcome_of (den_of g.actions / action.0.den) s choice.0) _
        (is_step s k action.0 choice.0 off acts action.1 choice.2)
        (rest_is left (steps + 1) (cost + cost_of (has_bit s) choice.0) (next_state s choice.0))))

    pub walk_is_run : (most : ℕ) → IsRunOf (ground_process g) (ground_starts g) policy most (walk g policy draw most)
    walk_is_run most =
        let first = start_is g is (draw 0) in
        let rest = rest_is most 0 0 first.0.state in
        let inside = Contains-map start_of g.starts first.0 first.2 in
        subst (λ x. IsRunOf (ground_process g) (ground_starts g) policy most
        (elim x [ None ↦ ended Open 0 0 | Some start ↦ walk_on g policy draw most 0 0 start.state ])) (sym first.1) (record {
          start = start_of first.0;
          is_start = inside;
          start_positive = starts_have_weight g is (start_of first.0) inside;
          outcomes = rest.outcomes;
          last = rest.last;
          path = rest.path;
          steps = let h = rest.steps_are in omega (arith, h);
          few = let h = rest.few in omega (arith, h);
          cost = let h = rest.cost_is in omega (arith, h);
          ends = rest.ends;
          all_made = λ left_open. let h = rest.all_made left_open in omega (arith, h);
        })

pub walks_are_runs : laws.WalksAreRuns
walks_are_runs g is policy opens draw most = walk_is_run g is policy opens draw most
