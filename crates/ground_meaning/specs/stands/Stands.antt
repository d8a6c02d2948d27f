-- When a ground problem stands for a planning task. Its atoms are the task's changing atoms by their texts, and its actions the kept
-- instances in order. A packed state stands for the state of its true atoms and of the facts that never change; in each such state the
-- goal, what is open, and the chances of what follows are the same on both sides.
-- Source: grounding of PDDL tasks (Helmert 2009), with the joint choices of PPDDL 1.0's effects.
--     true_texts bit texts       the texts of the atoms whose bit is set; the first text is that of atom 0
--     state_of g task s          the state for which a packed state stands
--     packed_of g task t         the packed state of the changing atoms that are true in t
--     by_atoms g task            how the two processes are compared: states by their atoms, codes by kept instances
--     IsActionOf a i             the ground action has the instance's name, is open where it is, and its choices have the chances of its step
--     Stands g task charges      the ground problem stands for the task
--     IsGroundOf g task charges  it does, and no denominator of the two is 0
use Rattle.std.specs.Prelude.{◌≡◌, ◌↔◌, ℕ, suc, Bool, IsTrue, cond, ◌&&◌, List, [], ◌∷◌, ◌++◌, map, length, get_or, nat_lt, Contains}
use Rattle.std.specs.List.{list_any, slice_get, AllZip}
use Rattle.plain_list.specs.Texts.{list_text}
use Rattle.plain_list.specs.weighted.Mean.{IsAlike}
use Rattle.decision_process.specs.Process.{Outcome, Start}
use Rattle.decision_process.specs.homomorphism.Homomorphism.{Mapping}
use Rattle.ppddl_model.specs.declared.tree.Task.{Task}
use Rattle.ppddl_model.specs.State.{same_name, State, has}
use Rattle.ppddl_model.specs.Chances.{HasPositiveDenominators}
use Rattle.ppddl_model.specs.Changing.{kept_instances, changing_atoms, state_of_texts}
use Rattle.ppddl_model.specs.Steps.{Instance, instance_name, Charges, is_open, is_goal, step, step_den, starts, start_den}
use Rattle.ground_model.specs.declared.action.Choice.{Choice}
use Rattle.ground_model.specs.declared.action.GroundAction.{GroundAction}
use Rattle.ground_model.specs.Packed as packed
use Rattle.ground_model.specs.Packed.{has_bit, words_for, is_inside}
use Rattle.ground_model.specs.Truth.{truth}
use Rattle.ground_model.specs.Choices.{cost_of, next_state}
use Rattle.ground_model.specs.Ground.{Ground}
use Rattle.ground_model.specs.Invariant.{IsGroundProblem}
use Rattle.ground_model.specs.Steps.{ground_starts}

abbrev pub true_texts : (ℕ → Bool) → List (List ℕ) → List (List ℕ)
true_texts bit [] = []
true_texts bit (text ∷ more) = cond (bit 0) (text ∷ []) [] ++ true_texts (λ q. bit (suc q)) more

-- a changing atom with this text is true
abbrev pub has_text_true : Task → State → List ℕ → Bool
has_text_true task t text = list_any (λ a. same_name text (list_text a) && has t a) (changing_atoms task)

module _ (g : Ground) (task : Task) where
  abbrev pub IsInside : packed.State → Type 0
  IsInside s = IsTrue (is_inside (length g.atoms) s)

  abbrev pub state_of : packed.State → State
  state_of s = state_of_texts task (true_texts (has_bit s) g.atoms)

  abbrev pub packed_of : State → packed.State
  packed_of t =
      packed.packed (λ q. nat_lt q (length g.atoms) && has_text_true task t (get_or g.atoms q [])) (words_for (length g.atoms))

  abbrev pub by_atoms : Mapping packed.State State ℕ Instance
  by_atoms = record {
    valid = is_inside (length g.atoms);
    state = state_of;
    action = λ code. slice_get (kept_instances task) code;
  }

  module _ (charges : Charges) where
    pub record IsActionOf (a : GroundAction) (i : Instance) : Type 0 where
      pub name : a.name ≡ instance_name i
      pub opens : (s : packed.State) → IsInside s → truth (has_bit s) a.condition ≡ is_open task i (state_of s)
      pub chances : (s : packed.State) → IsInside s
          → IsAlike {X = State × ℕ} (λ (c : Choice). c.weight) (λ c. (state_of (next_state s c), cost_of (has_bit s) c))
          (λ (o : Outcome State). o.weight) (λ o. (o.next, o.cost))
          a.choices a.den (step task charges i (state_of s)) (step_den task)

    pub record Stands : Type 0 where
      pub atoms : (text : List ℕ) → Contains g.atoms text ↔ Contains (map list_text (changing_atoms task)) text
      pub penalty : g.penalty ≡ charges.penalty
      pub goals : (s : packed.State) → IsInside s → truth (has_bit s) g.goal ≡ is_goal task (state_of s)
      pub actions : AllZip IsActionOf g.actions (kept_instances task)
      pub starts : IsAlike (λ (x : Start packed.State). x.weight) (λ x. state_of x.state)
          (λ (x : Start State). x.weight) (λ x. x.state)
          (ground_starts g) g.start_den (starts task) (start_den task)

    pub record IsGroundOf : Type 0 where
      pub is_problem : IsGroundProblem g
      pub denominators : HasPositiveDenominators task
      pub stands : Stands
