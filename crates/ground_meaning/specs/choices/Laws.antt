-- The laws of joint choices, as statements.
--     EqualChoicesAreFound       the test of choices finds those that are equal but for their weights
--     ConditionsHold             a condition on packed states holds exactly where that of the task does
--     ChoicesSumToDenominator    the weights of the choices sum to the denominator, which is not 0
--     JointIsOutcomes            in each state that agrees with the facts, each change has the same chance by
--                                the joint choices as by the outcomes of the effect, over each common multiple
--                                of its denominators
--     JointIsNext                so each pair of a next state and a cost has
--     JointIsStep                and has it by the step of an instance of a task
--     JointMeetsInvariant        within the limits, joint choices are those of a ground action
use Rattle.std.specs.Prelude.{◌≡◌, ◌≢◌, ℕ, ◌+◌, ◌^◌, ◌<◌, ◌≤◌, Bool, true, IsTrue, All, AllPairs}
use Rattle.std.specs.Prelude.{List, length, Contains}
use Rattle.std.specs.Int.{◌∣◌}
use Rattle.plain_list.specs.weighted.Mean.{total, IsAlike}
use Rattle.decision_process.specs.Process.{Outcome}
use Rattle.ppddl_model.specs.declared.tree.Condition.{Condition}
use Rattle.ppddl_model.specs.declared.tree.Effect.{Effect}
use Rattle.ppddl_model.specs.declared.tree.Task.{Task}
use Rattle.ppddl_model.specs.State.{GroundAtom, State}
use Rattle.ppddl_model.specs.Objects.{World, Binding}
use Rattle.ppddl_model.specs.Truth.{holds}
use Rattle.ppddl_model.specs.Functions.{are_valued}
use Rattle.ppddl_model.specs.Draws.{EachDraw}
use Rattle.ppddl_model.specs.Denominator.{denominators, draws}
use Rattle.ppddl_model.specs.Chances.{SumWithinOne, AllSumWithinOne}
use Rattle.ppddl_model.specs.Costs.{unconditional_cost}
use Rattle.ppddl_model.specs.Outcomes.{Entry, outcomes}
use Rattle.ppddl_model.specs.Steps.{Instance, Charges, world, base_cost, after, step, step_den}
use Rattle.ground_model.specs.declared.action.Choice.{Choice}
use Rattle.ground_model.specs.declared.limits.TheConstants.{MOST_CHOICES}
use Rattle.ground_model.specs.Packed as packed
use Rattle.ground_model.specs.Packed.{has_bit, is_inside}
use Rattle.ground_model.specs.Truth.{truth}
use Rattle.ground_model.specs.Choices.{next_state, cost_of}
use Rattle.ground_model.specs.Invariant.{IsDistribution, IsChoice}
use Rattle.ground_meaning.specs.choices.Numbering.{Numbering, ground_condition}
use Rattle.ground_meaning.specs.choices.Same.{same_choice}
use Rattle.ground_meaning.specs.choices.Joint.{weight_of, with_weight, den_of, choices, Joint, joint}
use Rattle.ground_meaning.specs.choices.Change.{change_of, entry_change, condition_atoms}
use Rattle.ground_meaning.specs.choices.Change.{AgreesOn, Describes, IsView}
use Rattle.ground_meaning.specs.choices.Limits.{IsWithinLimits}

abbrev pub EqualChoicesAreFound : Type 0
EqualChoicesAreFound = (x y : Choice) → same_choice x y ≡ true
    → with_weight 0 x ≡ with_weight 0 y

abbrev pub ConditionsHold : World → Numbering → Type 0
ConditionsHold w n = (bit : ℕ → Bool) (s : State) (c : Condition) (b : Binding)
    → AgreesOn n bit s (condition_atoms w c b)
    → truth bit (ground_condition w n c b) ≡ holds w c b s

module _ (w : World) (n : Numbering) where
  abbrev pub ChoicesSumToDenominator : Type 0
  ChoicesSumToDenominator = (e : Effect) → EachDraw SumWithinOne e → (b : Binding)
      → (total weight_of (choices w n e b) ≡ den_of w e) × (0 < den_of w e)

  abbrev pub JointIsOutcomes : Type 0
  JointIsOutcomes = (order : List GroundAtom) (bit : ℕ → Bool) (s : State)
      → (e : Effect) → EachDraw SumWithinOne e
      → (den : ℕ) → All (λ d. d ∣ den) (denominators e)
      → (b : Binding) → Describes w n order bit s e b → (base : ℕ)
      → IsAlike weight_of (change_of order bit) (λ (x : Entry). x.weight) (entry_change base)
      (joint w n e b base).list (joint w n e b base).den (outcomes w den e b s) (den ^ draws w e)

  abbrev pub JointIsNext : Type 0
  JointIsNext = (order : List GroundAtom) → AllPairs (λ x y. x ≢ y) order
      → (view : packed.State → State) → IsView order view
      → (s : packed.State) → IsTrue (is_inside (length order) s)
      → (e : Effect) → EachDraw SumWithinOne e
      → (den : ℕ) → All (λ d. d ∣ den) (denominators e)
      → (b : Binding) → Describes w n order (has_bit s) (view s) e b
      → (base : ℕ) → All (IsChoice (length order)) (joint w n e b base).list
      → IsAlike {X = State × ℕ} weight_of (λ c. (view (next_state s c), cost_of (has_bit s) c))
      (λ (x : Entry). x.weight) (λ x. (after (view s) x, x.cost + base))
      (joint w n e b base).list (joint w n e b base).den (outcomes w den e b (view s))
      (den ^ draws w e)

  abbrev pub JointMeetsInvariant : Type 0
  JointMeetsInvariant = (e : Effect) → EachDraw SumWithinOne e
      → (b : Binding) → are_valued w e b ≡ true
      → (base : ℕ) → 1 ≤ unconditional_cost w e + base → IsWithinLimits w n e b base
      → IsDistribution weight_of (joint w n e b base).list (joint w n e b base).den
      × All (IsChoice (length n.atoms)) (joint w n e b base).list
      × (length (joint w n e b base).list ≤ MOST_CHOICES)

module _ (task : Task) (charges : Charges) (n : Numbering) where
  abbrev pub joint_of : Instance → Joint
  joint_of i = joint (world task) n i.action.effect i.binding (base_cost task charges)

  abbrev pub JointIsStep : Type 0
  JointIsStep = AllSumWithinOne task
      → (order : List GroundAtom) → AllPairs (λ x y. x ≢ y) order
      → (view : packed.State → State) → IsView order view
      → (s : packed.State) → IsTrue (is_inside (length order) s)
      → (i : Instance) → Contains task.domain.actions i.action
      → Describes (world task) n order (has_bit s) (view s) i.action.effect i.binding
      → All (IsChoice (length order)) (joint_of i).list
      → IsAlike {X = State × ℕ} weight_of (λ c. (view (next_state s c), cost_of (has_bit s) c))
      (λ (o : Outcome State). o.weight) (λ o. (o.next, o.cost))
      (joint_of i).list (joint_of i).den (step task charges i (view s)) (step_den task)
