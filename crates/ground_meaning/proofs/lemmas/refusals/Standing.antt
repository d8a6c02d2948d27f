-- The ground problem of a well-formed task stands for it, where the joint choices of its instances are those of ground actions.
use Rattle.std.proofs.Common.{◌≡◌, Bool, true, false, List, [], ◌∷◌, map, length, refl, sym, subst, ◌∙◌}
use Rattle.std.specs.Prelude.{All, Contains, IsTrue, flat_map, ◌&&◌}
use Rattle.std.specs.List.{AllZip}
use Rattle.std.proofs.lemmas.Bool.{and_parts}
use Rattle.std.proofs.lemmas.List.{length-map}
use Rattle.std.proofs.lemmas.List.Elements.{Contains-append_left}
use Rattle.plain_list.specs.Texts.{list_text}
use Rattle.plain_list.proofs.Members.{Contains-first, Contains-later, Contains-flat_map}
use Rattle.ppddl_model.specs.declared.tree.Task.{Task}
use Rattle.ppddl_model.specs.State.{GroundAtom}
use Rattle.ppddl_model.specs.Changing.{literals, known_of, is_kept, kept_instances, changing_atoms, chance_atoms}
use Rattle.ppddl_model.specs.Known.{is_not_false}
use Rattle.ppddl_model.specs.Functions.{are_valued}
use Rattle.ppddl_model.specs.Truth.{holds}
use Rattle.ppddl_model.specs.Steps.{Instance, Charges, world, instances, is_open}
use Rattle.ppddl_model.specs.WellFormed.{IsWellFormed}
use Rattle.ppddl_model.proofs.WellFormed.{well_formed_sums}
use Rattle.ground_model.specs.Packed as packed
use Rattle.ground_model.specs.Packed.{has_bit, is_inside}
use Rattle.ground_model.specs.Truth.{truth}
use Rattle.ground_model.specs.Invariant.{IsChoice}
use Rattle.ground_meaning.specs.stands.Stands.{state_of, IsActionOf, Stands}
use Rattle.ground_meaning.proofs.lemmas.stands.Lists.{Contains-filter_cases}
use Rattle.ground_meaning.specs.choices.Change.{IsNumbered, Describes}
use Rattle.ground_meaning.proofs.lemmas.choices.Conditions.{condition_law}
use Rattle.ground_meaning.proofs.lemmas.choices.Step.{step_law}
use Rattle.ground_meaning.specs.refusals.Atoms.{order_of, numbering_of}
use Rattle.ground_meaning.specs.refusals.Problem.{joint_of, ground_action, ground_problem}
use Rattle.ground_meaning.proofs.lemmas.refusals.Order.{text_is_there, text_is_ones}
use Rattle.ground_meaning.proofs.lemmas.refusals.Instances.{all_from, instance_parts, kept_is_instance}
use Rattle.ground_meaning.proofs.lemmas.refusals.Agreeing.{condition_agrees, goal_agrees, tested_agrees, is_numbered, is_view, order_differs}
use Rattle.ground_meaning.proofs.lemmas.refusals.Starting.{starts_are_alike}

-- each item of a list with what it is mapped to
zip_map : {X Y : Type 0} (R : Y → X → Type 0) (f : X → Y) (xs : List X) → ((x : X) → Contains xs x → R (f x) x) → AllZip R (map f xs) xs
zip_map R f [] each = tt
zip_map R f (x ∷ xs) each = (each x (Contains-first x xs), zip_map R f xs (λ y inside. each y (Contains-later x xs y inside)))

and_valued : (a b : Bool) → b ≡ true → a ≡ (a && b)
and_valued true b valued = sym valued
and_valued false b valued = refl

module _ (task : Task) (fit : IsWellFormed task) (charges : Charges) where
  -- the joint choices of a kept instance are those of a ground action
  abbrev pub HasChoices : Instance → Type 0
  HasChoices i = All (IsChoice (length (numbering_of task).atoms)) (joint_of task charges i).list

  module _ (i : Instance) (kept : Contains (kept_instances task) i) where
    inside_all : Contains (instances task) i
    inside_all = kept_is_instance task i kept

    pub kept_is_valued : are_valued (world task) i.action.effect i.binding ≡ true
    kept_is_valued =
        (and_parts (is_not_false (known_of task i.action.condition i.binding)) (are_valued (world task) i.action.effect i.binding)
        (Contains-filter_cases (is_kept task) (instances task) i kept).1).1

    changes : (q : GroundAtom) → Contains (literals (world task) i.action.effect i.binding) q → Contains (changing_atoms task) q
    changes q there =
        Contains-append_left (flat_map (λ (j : Instance). literals (world task) j.action.effect j.binding) (kept_instances task))
        (flat_map chance_atoms task.problem.init) q
        (Contains-flat_map (λ (j : Instance). literals (world task) j.action.effect j.binding) (kept_instances task) i q kept there)

    describes : (s : packed.State) → Describes (world task) (numbering_of task) (order_of task) (has_bit s) (state_of (ground_problem task charges) task s) i.action.effect i.binding
    describes s = record {
      numbered = all_from (IsNumbered (numbering_of task) (order_of task)) (literals (world task) i.action.effect i.binding)
          (λ q there. is_numbered task fit q (changes q there));
      agrees = tested_agrees task fit charges s i inside_all;
    }

    opens_alike : (s : packed.State) → truth (has_bit s) (ground_action task charges i).condition ≡ is_open task i (state_of (ground_problem task charges) task s)
    opens_alike s =
        condition_law (world task) (numbering_of task) (has_bit s) (state_of (ground_problem task charges) task s) i.action.condition i.binding
        (condition_agrees task fit charges s i inside_all)
        ∙ and_valued (holds (world task) i.action.condition i.binding (state_of (ground_problem task charges) task s))
        (are_valued (world task) i.action.effect i.binding) kept_is_valued

    pub is_action_of : HasChoices i → IsActionOf (ground_problem task charges) task charges (ground_action task charges i) i
    is_action_of choices = record {
      name = refl;
      opens = λ s inside. opens_alike s;
      chances = λ s inside.
          step_law task charges (numbering_of task) (well_formed_sums task fit) (order_of task) (order_differs task fit)
          (state_of (ground_problem task charges) task) (is_view task fit charges) s
          (subst (λ n. IsTrue (is_inside n s)) (length-map (order_of task) list_text) inside)
          i (instance_parts task i inside_all).0 (describes s)
          (subst (λ n. All (IsChoice n) (joint_of task charges i).list) (length-map (order_of task) list_text) choices);
    }

  pub problem_stands : ((i : Instance) → Contains (kept_instances task) i → HasChoices i) → Stands (ground_problem task charges) task charges
  problem_stands each = record {
    atoms = λ text. (text_is_ones (changing_atoms task) text, text_is_there (changing_atoms task) text);
    penalty = refl;
    goals = λ s inside.
        condition_law (world task) (numbering_of task) (has_bit s) (state_of (ground_problem task charges) task s) task.problem.goal []
        (goal_agrees task fit charges s);
    actions = zip_map (IsActionOf (ground_problem task charges) task charges) (ground_action task charges) (kept_instances task)
        (λ i kept. is_action_of i kept (each i kept));
    starts = starts_are_alike task fit charges;
  }
