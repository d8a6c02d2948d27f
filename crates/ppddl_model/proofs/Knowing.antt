-- What is known of a condition holds in every state that agrees with the facts, so an instance that is open there is kept.
use Rattle.std.proofs.Common.{◌≡◌, Bool, true, false, cond, not, ◌&&◌, ◌||◌, List, [], ◌∷◌, ◌++◌, map, Option, Some, None, refl, sym, ap, subst, ◌∙◌, inl, inr}
use Rattle.plain_list.proofs.Members.{Contains-nil, Contains-cons_cases}
use Rattle.std.specs.Prelude.{All, Contains, flat_map, IfSome}
use Rattle.std.specs.List.{list_any, list_all}
use Rattle.std.proofs.lemmas.Bool.{and_parts, and_from}
use Rattle.std.proofs.lemmas.List.Folds.{list_any-append, list_any_none}
use Rattle.std.proofs.lemmas.List.Elements.{All-nil, All-cons, All-append, All-filter, All-weaker, All-contains_itself}
use Rattle.ppddl_model.specs.declared.tree.Action.{Action}
use Rattle.ppddl_model.specs.declared.tree.Atom.{Atom}
use Rattle.ppddl_model.specs.declared.tree.Condition.{Condition, Row_of-Condition, end_of-Condition, more_of-Condition}
use Rattle.ppddl_model.specs.declared.tree.Condition.TheVariants as condition
use Rattle.ppddl_model.specs.declared.tree.Effect.{Effect, Row_of-Effect, end_of-Effect, more_of-Effect, Row_of-Branch, end_of-Branch, more_of-Branch}
use Rattle.ppddl_model.specs.declared.tree.Effect.TheVariants.{Add, Delete, Both', Forall', When', Chance', Cost, CostOf}
use Rattle.ppddl_model.specs.declared.tree.InitItem.{InitItem}
use Rattle.ppddl_model.specs.declared.tree.Task.{Task}
use Rattle.ppddl_model.specs.State.{Name, same_name, GroundAtom, same_atom, State, no_atoms, has, with_atoms}
use Rattle.ppddl_model.specs.Objects.{World, Binding, ground_atom, bindings}
use Rattle.ppddl_model.specs.Truth.{holds, all_hold, any_holds}
use Rattle.ppddl_model.specs.Functions.{are_valued}
use Rattle.ppddl_model.specs.Known.{known_not, known_and, known_or, known_all, known_any, known_each, is_not_false}
use Rattle.ppddl_model.specs.Steps.{Instance, world, instances, open_instances}
use Rattle.ppddl_model.specs.Changing.{predicates_of, predicates_each, predicates_branches, atoms_by_chance, chance_predicates, chance_atoms, changing_predicates, facts, literals, literals_each, literals_branches, known_of, is_kept, kept_instances, changing_atoms, is_changing, is_fact, Agrees}
use Rattle.ppddl_model.proofs.Lists.{All-flat_map, Contains-filter}
use Rattle.ppddl_model.proofs.States.{same_name-Decides, same_atom-Decides, has-with_atoms}
use Rattle.ppddl_model.proofs.Instances.{action_of_instance, choice_holds, choice_is_open}

-- ---- changing atoms are of changing predicates

any-left : {X : Type 0} (p : X → Bool) (xs ys : List X) → list_any p xs ≡ true → list_any p (xs ++ ys) ≡ true
any-left p xs ys found = list_any-append p xs ys ∙ ap (λ b. b || list_any p ys) found

pub and_none : (b : Bool) → (b && false) ≡ false
and_none true = refl
and_none false = refl

pub or_none : (b : Bool) → (b || false) ≡ b
or_none true = refl
or_none false = refl

or_true : (b : Bool) → (b || true) ≡ true
or_true true = refl
or_true false = refl

any-right : {X : Type 0} (p : X → Bool) (xs ys : List X) → list_any p ys ≡ true → list_any p (xs ++ ys) ≡ true
any-right p xs ys found = list_any-append p xs ys ∙ ap (λ b. list_any p xs || b) found ∙ or_true (list_any p xs)

-- the atom is of one of the predicates
abbrev is_named : List Name → GroundAtom → Bool
is_named names [] = false
is_named names (name ∷ args) = list_any (same_name name) names

abbrev IsNamed : List Name → GroundAtom → Type 0
IsNamed names q = is_named names q ≡ true

named-left : (xs ys : List Name) (q : GroundAtom) → IsNamed xs q → IsNamed (xs ++ ys) q
named-left xs ys [] named = named
named-left xs ys (name ∷ args) named = any-left (same_name name) xs ys named

named-right : (xs ys : List Name) (q : GroundAtom) → IsNamed ys q → IsNamed (xs ++ ys) q
named-right xs ys [] named = named
named-right xs ys (name ∷ args) named = any-right (same_name name) xs ys named

-- what is named by the parts is named by the whole
module _ (xs ys : List Name) (here there : List GroundAtom) where
  both_named : All (IsNamed xs) here → All (IsNamed ys) there → All (IsNamed (xs ++ ys)) (here ++ there)
  both_named first second =
      All-append (IsNamed (xs ++ ys)) here there (All-weaker (IsNamed xs) (IsNamed (xs ++ ys)) (named-left xs ys) here first)
      (All-weaker (IsNamed ys) (IsNamed (xs ++ ys)) (named-right xs ys) there second)

module _ {X : Type 0} (names : X → List Name) where
  named-flat_map : (xs : List X) (x : X) (q : GroundAtom) → Contains xs x → IsNamed (names x) q → IsNamed (flat_map names xs) q
  named-flat_map [] x q inside named = absurd (Contains-nil x inside)
  named-flat_map (y ∷ xs) x q inside named = elim (Contains-cons_cases y xs x inside) [
    | inl here ↦ named-left (names y) (flat_map names xs) q (subst (λ z. IsNamed (names z) q) (sym here) named)
    | inr later ↦ named-right (names y) (flat_map names xs) q (named-flat_map xs x q later named)
  ]

named_by_own : (a : Atom) (b : Binding) → IsNamed (a.predicate ∷ []) (ground_atom b a)
named_by_own a b = ap (λ t. t || false) ((same_name-Decides a.predicate a.predicate).1 refl)

atoms_named : (atoms : List Atom) → All (IsNamed (map (λ (a : Atom). a.predicate) atoms)) (map (ground_atom []) atoms)
atoms_named [] = All-nil (IsNamed [])
atoms_named (a ∷ atoms) =
    both_named (a.predicate ∷ []) (map (λ (x : Atom). x.predicate) atoms) (ground_atom [] a ∷ []) (map (ground_atom []) atoms)
    (All-cons (IsNamed (a.predicate ∷ [])) (ground_atom [] a) [] (named_by_own a []) (All-nil (IsNamed (a.predicate ∷ [])))) (atoms_named atoms)

module _ (w : World) where
  mutual
    literals_named : (e : Effect) (b : Binding) → All (IsNamed (predicates_of e)) (literals w e b)
    literals_named (Add a) b =
        All-cons (IsNamed (a.predicate ∷ [])) (ground_atom b a) [] (named_by_own a b) (All-nil (IsNamed (a.predicate ∷ [])))
    literals_named (Delete a) b =
        All-cons (IsNamed (a.predicate ∷ [])) (ground_atom b a) [] (named_by_own a b) (All-nil (IsNamed (a.predicate ∷ [])))
    literals_named (Both' shape es) b = literals_each_named es b
    literals_named (Forall' params u (more_of-Effect e end_of-Effect)) b =
        All-flat_map (IsNamed (predicates_of e)) (λ c. literals w e c) (bindings w params b) (λ k c _. literals_named e _)
    literals_named (When' c u (more_of-Effect e end_of-Effect)) b = literals_named e b
    literals_named (Chance' shape branches) b = literals_branches_named branches b
    literals_named (Cost v) b = All-nil (IsNamed [])
    literals_named (CostOf a) b = All-nil (IsNamed [])

    literals_each_named : {n : _} (es : Row_of-Effect n) (b : Binding) → All (IsNamed (predicates_each es)) (literals_each w es b)
    literals_each_named end_of-Effect b = All-nil (IsNamed [])
    literals_each_named (more_of-Effect e es) b =
        both_named (predicates_of e) (predicates_each es) (literals w e b) (literals_each w es b) (literals_named e b) (literals_each_named es b)

    literals_branches_named : {n : _} (branches : Row_of-Branch n) (b : Binding)
        → All (IsNamed (predicates_branches branches)) (literals_branches w branches b)
    literals_branches_named end_of-Branch b = All-nil (IsNamed [])
    literals_branches_named (more_of-Branch chance e branches) b =
        both_named (predicates_of e) (predicates_branches branches) (literals w e b) (literals_branches w branches b) (literals_named e b)
        (literals_branches_named branches b)

module _ (task : Task) where
  abbrev of_actions : List Name
  of_actions = flat_map (λ (a : Action). predicates_of a.effect) task.domain.actions

  abbrev of_init : List Name
  of_init = flat_map chance_predicates task.problem.init

  abbrev literals_of : Instance → List GroundAtom
  literals_of i = literals (world task) i.action.effect i.binding

  instance_named : (i : Instance) → Contains task.domain.actions i.action → All (IsNamed of_actions) (literals_of i)
  instance_named i inside =
      All-weaker (IsNamed (predicates_of i.action.effect)) (IsNamed of_actions)
      (λ q. named-flat_map (λ (a : Action). predicates_of a.effect) task.domain.actions i.action q inside) (literals_of i)
      (literals_named (world task) i.action.effect i.binding)

  chance_named : (i : InitItem) → Contains task.problem.init i → All (IsNamed of_init) (chance_atoms i)
  chance_named i inside =
      All-weaker (IsNamed (chance_predicates i)) (IsNamed of_init) (λ q. named-flat_map chance_predicates task.problem.init i q inside) (chance_atoms i)
      (atoms_named (atoms_by_chance i))

  changing_named : All (IsNamed (changing_predicates task)) (changing_atoms task)
  changing_named =
      both_named of_actions of_init (flat_map literals_of (kept_instances task)) (flat_map chance_atoms task.problem.init)
      (All-flat_map (IsNamed of_actions) literals_of (kept_instances task)
      (All-filter (is_kept task) (λ i. All (IsNamed of_actions) (literals_of i)) (instances task)
      (All-weaker (λ (i : Instance). Contains task.domain.actions i.action) (λ i. All (IsNamed of_actions) (literals_of i)) instance_named
      (instances task) (action_of_instance task (Contains task.domain.actions) (All-contains_itself task.domain.actions)))))
      (All-flat_map (IsNamed of_init) chance_atoms task.problem.init
      (All-weaker (Contains task.problem.init) (λ i. All (IsNamed of_init) (chance_atoms i)) chance_named task.problem.init
      (All-contains_itself task.problem.init)))

  -- so an atom of another predicate does not change
  unnamed_is_fixed : (q : GroundAtom) → is_named (changing_predicates task) q ≡ false → is_changing task q ≡ false
  unnamed_is_fixed q unnamed =
      list_any_none (same_atom q) (changing_atoms task)
      (All-weaker (IsNamed (changing_predicates task)) (λ a. same_atom q a ≡ false)
      (λ a named. elim (same_atom q a) as (λ t. same_atom q a ≡ t → t ≡ false) [
        | true ↦ λ same. absurd (let same_name : is_named (changing_predicates task) q ≡ true
            = subst (λ z. IsNamed (changing_predicates task) z) (sym ((same_atom-Decides q a).0 same)) named in cc)
        | false ↦ λ _. refl
      ] refl) (changing_atoms task) changing_named)

-- ---- what is known holds

fits-not : (k : Option Bool) (h : Bool) → IfSome k (λ x. h ≡ x) → IfSome (known_not k) (λ x. not h ≡ x)
fits-not None h fits = fits
fits-not (Some x) h fits = ap not fits

fits-and : (k l : Option Bool) (g h : Bool) → IfSome k (λ x. g ≡ x) → IfSome l (λ x. h ≡ x) → IfSome (known_and k l) (λ x. (g && h) ≡ x)
fits-and (Some false) l g h here there = ap (λ b. b && h) here
fits-and (Some true) None g h here there = there
fits-and (Some true) (Some y) g h here there = ap (λ b. b && h) here ∙ there
fits-and None None g h here there = here
fits-and None (Some true) g h here there = here
fits-and None (Some false) g h here there = ap (λ b. g && b) there ∙ and_none g

fits-or : (k l : Option Bool) (g h : Bool) → IfSome k (λ x. g ≡ x) → IfSome l (λ x. h ≡ x) → IfSome (known_or k l) (λ x. (g || h) ≡ x)
fits-or (Some true) l g h here there = ap (λ b. b || h) here
fits-or (Some false) None g h here there = there
fits-or (Some false) (Some y) g h here there = ap (λ b. b || h) here ∙ there
fits-or None None g h here there = here
fits-or None (Some false) g h here there = here
fits-or None (Some true) g h here there = ap (λ b. g || b) there ∙ or_true g

module _ {X : Type 0} (k : X → Option Bool) (h : X → Bool) (each : (x : X) → IfSome (k x) (λ y. h x ≡ y)) where
  fits-all : (xs : List X) → IfSome (known_all (map k xs)) (λ y. list_all h xs ≡ y)
  fits-all [] = refl
  fits-all (x ∷ xs) = fits-and (k x) (known_all (map k xs)) (h x) (list_all h xs) (each x) (fits-all xs)

  fits-any : (xs : List X) → IfSome (known_any (map k xs)) (λ y. list_any h xs ≡ y)
  fits-any [] = refl
  fits-any (x ∷ xs) = fits-or (k x) (known_any (map k xs)) (h x) (list_any h xs) (each x) (fits-any xs)

module _ (task : Task) (s : State) (agrees : Agrees task s) where
  abbrev first : State
  first = with_atoms no_atoms (facts task)

  same_as_first : (q : GroundAtom) → is_named (changing_predicates task) q ≡ false → has s q ≡ has first q
  same_as_first q unnamed =
      agrees.fixed q (unnamed_is_fixed task q unnamed) ∙ sym (has-with_atoms no_atoms (facts task) q ∙ or_none (is_fact task q))

  atom_fits : (a : Atom) (b : Binding) → IfSome (known_of task (condition.Atom a) b) (λ x. has s (ground_atom b a) ≡ x)
  atom_fits a b =
      elim (list_any (same_name a.predicate) (changing_predicates task))
      as (λ t. list_any (same_name a.predicate) (changing_predicates task) ≡ t
      → IfSome (cond t None (Some (has first (ground_atom b a)))) (λ x. has s (ground_atom b a) ≡ x)) [
        | true ↦ λ _. tt
        | false ↦ λ unnamed. same_as_first (ground_atom b a) unnamed
      ] refl

  mutual
    pub known_holds : (c : Condition) (b : Binding) → IfSome (known_of task c b) (λ x. holds (world task) c b s ≡ x)
    known_holds (condition.Atom a) b = atom_fits a b
    known_holds (condition.Equal x y) b = refl
    known_holds (condition.Not' u (more_of-Condition c end_of-Condition)) b =
        fits-not (known_of task c b) (holds (world task) c b s) (known_holds c b)
    known_holds (condition.All' shape cs) b = each_known_hold cs b
    known_holds (condition.Any' shape cs) b = some_known_holds cs b
    known_holds (condition.Imply' u (more_of-Condition c end_of-Condition) v (more_of-Condition d end_of-Condition)) b =
        fits-or (known_not (known_of task c b)) (known_of task d b) (not (holds (world task) c b s)) (holds (world task) d b s)
        (fits-not (known_of task c b) (holds (world task) c b s) (known_holds c b)) (known_holds d b)
    known_holds (condition.Exists' params u (more_of-Condition c end_of-Condition)) b =
        fits-any (λ b'. known_of task c b') (λ b'. holds (world task) c b' s) (λ b'. known_holds c b') (bindings (world task) params b)
    known_holds (condition.Forall' params u (more_of-Condition c end_of-Condition)) b =
        fits-all (λ b'. known_of task c b') (λ b'. holds (world task) c b' s) (λ b'. known_holds c b') (bindings (world task) params b)

    each_known_hold : {n : _} (cs : Row_of-Condition n) (b : Binding)
        → IfSome (known_all (known_each (world task) (changing_predicates task) first cs b)) (λ x. all_hold (world task) cs b s ≡ x)
    each_known_hold end_of-Condition b = refl
    each_known_hold (more_of-Condition c cs) b =
        fits-and (known_of task c b) (known_all (known_each (world task) (changing_predicates task) first cs b)) (holds (world task) c b s)
        (all_hold (world task) cs b s) (known_holds c b) (each_known_hold cs b)

    some_known_holds : {n : _} (cs : Row_of-Condition n) (b : Binding)
        → IfSome (known_any (known_each (world task) (changing_predicates task) first cs b)) (λ x. any_holds (world task) cs b s ≡ x)
    some_known_holds end_of-Condition b = refl
    some_known_holds (more_of-Condition c cs) b =
        fits-or (known_of task c b) (known_any (known_each (world task) (changing_predicates task) first cs b)) (holds (world task) c b s)
        (any_holds (world task) cs b s) (known_holds c b) (some_known_holds cs b)

  -- what holds is not known to be false
  not_false : (k : Option Bool) (h : Bool) → IfSome k (λ x. h ≡ x) → h ≡ true → is_not_false k ≡ true
  not_false None h fits on = refl
  not_false (Some x) h fits on = sym fits ∙ on

  pub open_is_kept : (i : Instance) → Contains (open_instances task s) i → Contains (kept_instances task) i
  open_is_kept i is_choice =
      let parts = and_parts (holds (world task) i.action.condition i.binding s) (are_valued (world task) i.action.effect i.binding)
      (choice_is_open task s i is_choice) in
      let fits = known_holds i.action.condition i.binding in
      let possible = not_false (known_of task i.action.condition i.binding) (holds (world task) i.action.condition i.binding s) fits parts.0 in
      let kept : is_kept task i ≡ true = and_from _ _ possible parts.1 in
      let inside : Contains (instances task) i = choice_holds task (Contains (instances task)) (All-contains_itself (instances task)) s i is_choice in
      Contains-filter (is_kept task) (instances task) i inside kept
