-- In a task that fits, the atoms of its instances, of its goal and of `:init` are made of names of the form that its objects and predicates
-- have.
use Rattle.std.proofs.Common.{◌≡◌, inl, inr, Bool, true, not, ◌&&◌, List, [], ◌∷◌, ◌++◌, map, refl, subst}
use Rattle.std.specs.Prelude.{All, Contains, filter, flat_map}
use Rattle.std.specs.List.{list_all}
use Rattle.std.proofs.lemmas.Bool.{and_parts}
use Rattle.std.proofs.lemmas.List.{append-nil}
use Rattle.std.proofs.lemmas.List.Elements.{All-nil, All-append, All-contains, All-contains_itself, All-weaker, Contains-append_left}
use Rattle.plain_list.proofs.Members.{Contains-first, Contains-later, Contains-cons_cases, Contains-nil, Contains-map_cases, Contains-flat_map_cases}
use Rattle.ppddl_model.specs.declared.tree.Action.{Action}
use Rattle.ppddl_model.specs.declared.tree.Atom.{Atom}
use Rattle.ppddl_model.specs.declared.tree.InitBranch.{InitBranch}
use Rattle.ppddl_model.specs.declared.tree.InitItem.{InitItem}
use Rattle.ppddl_model.specs.declared.tree.InitItem.TheVariants as item
use Rattle.ppddl_model.specs.declared.tree.ObjectDecl.{ObjectDecl}
use Rattle.ppddl_model.specs.declared.tree.Task.{Task}
use Rattle.ppddl_model.specs.State.{Name, same_name, GroundAtom}
use Rattle.ppddl_model.specs.Objects.{Binding, once, ground_atom, bindings}
use Rattle.ppddl_model.specs.Changing.{literals, kept_instances, is_kept, changing_atoms, chance_atoms, facts, fact_atoms}
use Rattle.ppddl_model.specs.Steps.{Instance, instances, world}
use Rattle.ppddl_model.specs.WellFormed.{is_plain, params_fit, domain_world, atom_fits, condition_fits, effect_fits, action_fits, item_fits, IsWellFormed}
use Rattle.ground_meaning.proofs.lemmas.stands.Lists.{Contains-filter_cases}
use Rattle.ground_meaning.specs.choices.Change.{condition_atoms, tested_atoms}
use Rattle.ground_meaning.proofs.lemmas.refusals.Formed.{all_at, IsFormed, Covers, has_formed_name, declares_formed, binding_covers, atom_is_formed, condition_is_formed, literals_are_formed, tested_are_formed}

-- ---- lists

pub all_from : {X : Type 0} (P : X → Type 0) (xs : List X) → ((x : X) → Contains xs x → P x) → All P xs
all_from P xs each = All-weaker (Contains xs) P each xs (All-contains_itself xs)

pub test_all : {X : Type 0} (p : X → Bool) (xs : List X) → ((x : X) → Contains xs x → p x ≡ true) → list_all p xs ≡ true
test_all p [] each = refl
test_all p (x ∷ xs) each =
    rw (each x (Contains-first x xs)) (test_all p xs (λ y inside. each y (Contains-later x xs y inside)))

once_member : (objects : List ObjectDecl) (o : ObjectDecl) → Contains (once objects) o → Contains objects o
once_member [] o inside = inside
once_member (x ∷ more) o inside = elim (Contains-cons_cases x (filter (λ (y : ObjectDecl). not (same_name y.name x.name)) (once more)) o inside) [
  | inl here ↦ subst (λ z. Contains (x ∷ more) z) here (Contains-first x more)
  | inr later ↦
      Contains-later x more o (once_member more o
      (Contains-filter_cases (λ (y : ObjectDecl). not (same_name y.name x.name)) (once more) o later).0)
]

-- ---- instances

module _ (task : Task) where
  pub instance_parts : (i : Instance) → Contains (instances task) i
      → Contains task.domain.actions i.action × Contains (bindings (world task) i.action.params []) i.binding
  instance_parts i inside =
      let found = Contains-flat_map_cases (λ (a : Action). map (λ b. record { action = a; binding = b }) (bindings (world task) a.params []))
      task.domain.actions i inside in
      let made = Contains-map_cases {X = Binding} {Y = Instance} (λ b. record { action = found.0; binding = b }) (bindings (world task) found.0.params []) i found.2 in
      subst (λ (j : Instance). Contains task.domain.actions j.action × Contains (bindings (world task) j.action.params []) j.binding) made.2
      (found.1, made.1)

  pub kept_is_instance : (i : Instance) → Contains (kept_instances task) i → Contains (instances task) i
  kept_is_instance i inside = (Contains-filter_cases (is_kept task) (instances task) i inside).0

  module _ (fit : IsWellFormed task) where
    pub action_is : (i : Instance) → Contains (instances task) i → action_fits (domain_world task.domain) task.domain i.action ≡ true
    action_is i inside =
        all_at (action_fits (domain_world task.domain) task.domain) task.domain.actions i.action fit.actions (instance_parts i inside).0

    pub parts_fit : (i : Instance) → Contains (instances task) i
        → (condition_fits (domain_world task.domain) task.domain i.action.condition i.action.params ≡ true)
        × (effect_fits (domain_world task.domain) task.domain i.action.effect i.action.params ≡ true)
    parts_fit i inside =
        let first = and_parts (is_plain i.action.name && params_fit task.domain.types i.action.params
        && condition_fits (domain_world task.domain) task.domain i.action.condition i.action.params)
        (effect_fits (domain_world task.domain) task.domain i.action.effect i.action.params) (action_is i inside) in (
          (and_parts (is_plain i.action.name && params_fit task.domain.types i.action.params)
              (condition_fits (domain_world task.domain) task.domain i.action.condition i.action.params) first.0).1,
          first.1,
        )

    pub item_is : (i : InitItem) → Contains task.problem.init i → item_fits (world task) task.domain i ≡ true
    item_is i inside = all_at (item_fits (world task) task.domain) task.problem.init i fit.init inside

module _ (is_formed : Name → Bool) where
  nothing_in_sight : Covers is_formed [] []
  nothing_in_sight v seen = absurd cc

  module _ (task : Task) (objects : list_all (has_formed_name is_formed) (task.domain.constants ++ task.problem.objects) ≡ true) where
    pub world_is_formed : list_all (has_formed_name is_formed) (world task).objects ≡ true
    world_is_formed =
        test_all (has_formed_name is_formed) (once (task.domain.constants ++ task.problem.objects))
        (λ o inside. all_at (has_formed_name is_formed) (task.domain.constants ++ task.problem.objects) o objects
        (once_member (task.domain.constants ++ task.problem.objects) o inside))

    domain_is_formed : list_all (has_formed_name is_formed) (domain_world task.domain).objects ≡ true
    domain_is_formed =
        test_all (has_formed_name is_formed) (once task.domain.constants)
        (λ o inside. all_at (has_formed_name is_formed) (task.domain.constants ++ task.problem.objects) o objects
        (Contains-append_left task.domain.constants task.problem.objects o (once_member task.domain.constants o inside)))

    pub binding_is_formed : (i : Instance) → Contains (instances task) i → Covers is_formed i.action.params i.binding
    binding_is_formed i inside =
        subst (λ ps. Covers is_formed ps i.binding) (append-nil i.action.params)
        (binding_covers is_formed (world task) world_is_formed i.action.params [] [] i.binding nothing_in_sight (instance_parts task i inside).1)

    module _ (predicates : list_all (declares_formed is_formed) task.domain.predicates ≡ true) where
      pub init_atom_formed : (a : Atom) → atom_fits (world task) [] task.domain.predicates a ≡ true → IsFormed is_formed (ground_atom [] a)
      init_atom_formed a = atom_is_formed is_formed (world task) world_is_formed [] [] nothing_in_sight task.domain.predicates predicates a

      module _ (fit : IsWellFormed task) where
        pub literals_formed : (i : Instance) → Contains (instances task) i → All (IsFormed is_formed) (literals (world task) i.action.effect i.binding)
        literals_formed i inside =
            literals_are_formed is_formed (domain_world task.domain) (world task) task.domain domain_is_formed world_is_formed predicates
            i.action.effect i.action.params i.binding (binding_is_formed i inside) (parts_fit task fit i inside).1

        pub tested_formed : (i : Instance) → Contains (instances task) i → All (IsFormed is_formed) (tested_atoms (world task) i.action.effect i.binding)
        tested_formed i inside =
            tested_are_formed is_formed (domain_world task.domain) (world task) task.domain domain_is_formed world_is_formed predicates
            i.action.effect i.action.params i.binding (binding_is_formed i inside) (parts_fit task fit i inside).1

        pub condition_formed : (i : Instance) → Contains (instances task) i → All (IsFormed is_formed) (condition_atoms (world task) i.action.condition i.binding)
        condition_formed i inside =
            condition_is_formed is_formed (domain_world task.domain) (world task) task.domain domain_is_formed world_is_formed predicates
            i.action.condition i.action.params i.binding (binding_is_formed i inside) (parts_fit task fit i inside).0

        pub goal_formed : All (IsFormed is_formed) (condition_atoms (world task) task.problem.goal [])
        goal_formed =
            condition_is_formed is_formed (world task) (world task) task.domain world_is_formed world_is_formed predicates
            task.problem.goal [] [] nothing_in_sight fit.goal

        chance_formed : (i : InitItem) → item_fits (world task) task.domain i ≡ true → All (IsFormed is_formed) (chance_atoms i)
        chance_formed (item.Fact a) fits = All-nil (IsFormed is_formed)
        chance_formed (item.Value v) fits = All-nil (IsFormed is_formed)
        chance_formed (item.Chance branches) fits =
            all_from (IsFormed is_formed) (map (ground_atom []) (flat_map (λ (branch : InitBranch). branch.atoms) branches)) (λ q inside.
            let found = Contains-map_cases (ground_atom []) (flat_map (λ (branch : InitBranch). branch.atoms) branches) q inside in
            let branch = Contains-flat_map_cases (λ (branch : InitBranch). branch.atoms) branches found.0 found.1 in
            subst (IsFormed is_formed) found.2 (init_atom_formed found.0
            (all_at (atom_fits (world task) [] task.domain.predicates) branch.0.atoms found.0
            (all_at (λ (x : InitBranch). list_all (atom_fits (world task) [] task.domain.predicates) x.atoms) branches branch.0 fits branch.1) branch.2)))

        fact_formed : (i : InitItem) → item_fits (world task) task.domain i ≡ true → All (IsFormed is_formed) (fact_atoms i)
        fact_formed (item.Fact a) fits =
            all_from (IsFormed is_formed) (ground_atom [] a ∷ []) (λ q inside. elim (Contains-cons_cases (ground_atom [] a) [] q inside) [
              | inl here ↦ subst (IsFormed is_formed) here (init_atom_formed a fits)
              | inr none ↦ absurd (Contains-nil q none)
            ])
        fact_formed (item.Value v) fits = All-nil (IsFormed is_formed)
        fact_formed (item.Chance branches) fits = All-nil (IsFormed is_formed)

        pub changing_formed : (q : GroundAtom) → Contains (changing_atoms task) q → IsFormed is_formed q
        changing_formed q inside =
            All-contains (IsFormed is_formed) (changing_atoms task) q
            (All-append (IsFormed is_formed) (flat_map (λ (i : Instance). literals (world task) i.action.effect i.binding) (kept_instances task))
            (flat_map chance_atoms task.problem.init)
            (all_from (IsFormed is_formed) (flat_map (λ (i : Instance). literals (world task) i.action.effect i.binding) (kept_instances task)) (λ a there.
            let found = Contains-flat_map_cases (λ (i : Instance). literals (world task) i.action.effect i.binding) (kept_instances task) a there in
            All-contains (IsFormed is_formed) (literals (world task) found.0.action.effect found.0.binding) a
            (literals_formed found.0 (kept_is_instance task found.0 found.1)) found.2))
            (all_from (IsFormed is_formed) (flat_map chance_atoms task.problem.init) (λ a there.
            let found = Contains-flat_map_cases chance_atoms task.problem.init a there in
            All-contains (IsFormed is_formed) (chance_atoms found.0) a (chance_formed found.0 (item_is task fit found.0 found.1)) found.2))) inside

        pub facts_formed : (q : GroundAtom) → Contains (facts task) q → IsFormed is_formed q
        facts_formed q inside =
            let found = Contains-flat_map_cases fact_atoms task.problem.init q inside in
            All-contains (IsFormed is_formed) (fact_atoms found.0) q (fact_formed found.0 (item_is task fit found.0 found.1)) found.2
