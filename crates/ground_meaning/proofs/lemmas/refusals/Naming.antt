-- The instances of a well-formed task have distinct names.
use Rattle.std.proofs.Common.{◌≡◌, inl, inr, Bool, true, false, cond, not, ◌&&◌, List, [], ◌∷◌, ◌++◌, map, refl, sym, ap, subst, ◌∙◌, arith}
use Rattle.std.specs.Prelude.{◌≢◌, AllPairs, Contains, filter, flat_map, slice_index_or}
use Rattle.std.specs.List.{list_any, list_all}
use Rattle.std.proofs.lemmas.Bool.{and_parts, and_from, or_parts, or_from, not-true, false_from_ne_true}
use Rattle.std.proofs.lemmas.List.Elements.{All-append}
use Rattle.std.proofs.lemmas.List.Kept.{AllPairs-cons, AllPairs-filter}
use Rattle.plain_list.proofs.Members.{Contains-first, Contains-later, Contains-cons_cases, Contains-nil, Contains-map, Contains-map_cases, Contains-flat_map_cases}
use Rattle.plain_list.proofs.Related.{AllPairs-head, AllPairs-tail}
use Rattle.ppddl_model.specs.declared.tree.Action.{Action}
use Rattle.ppddl_model.specs.declared.tree.ObjectDecl.{ObjectDecl}
use Rattle.ppddl_model.specs.declared.tree.Param.{Param}
use Rattle.ppddl_model.specs.declared.tree.Task.{Task}
use Rattle.ppddl_model.specs.State.{Name, same_name}
use Rattle.ppddl_model.specs.Objects.{World, Binding, once, bound, is_under, objects_of, bindings}
use Rattle.ppddl_model.specs.Changing.{kept_instances, is_kept}
use Rattle.ppddl_model.specs.Steps.{Instance, instance_name, instances, world}
use Rattle.ppddl_model.specs.WellFormed.{is_plain, are_distinct, params_fit, has_types, condition_fits, effect_fits, domain_world, action_fits, IsWellFormed}
use Rattle.ppddl_model.proofs.States.{same_name-Decides}
use Rattle.ground_meaning.proofs.lemmas.stands.Texts.{any_from}
use Rattle.ground_meaning.proofs.lemmas.stands.Lists.{Contains-filter_cases}
use Rattle.ground_meaning.proofs.lemmas.refusals.Texts.{text_tells_names}
use Rattle.ground_meaning.proofs.lemmas.refusals.Formed.{all_at, Covers, names}
use Rattle.ground_meaning.proofs.lemmas.refusals.Instances.{all_from, kept_is_instance, action_is}
use Rattle.ground_meaning.proofs.lemmas.refusals.Agreeing.{covers}

-- ---- pairs

no_pairs : {X : Type 0} (R : X → X → Type 0) → AllPairs R []
no_pairs R = λ i j d before within. absurd (omega arith)

pub pairs_append : {X : Type 0} (R : X → X → Type 0) (xs ys : List X) → AllPairs R xs → AllPairs R ys
    → ((x y : X) → Contains xs x → Contains ys y → R x y) → AllPairs R (xs ++ ys)
pairs_append R [] ys left right across = right
pairs_append R (x ∷ xs) ys left right across =
    AllPairs-cons R x (xs ++ ys)
    (All-append (R x) xs ys (all_from (R x) xs (AllPairs-head R x xs left)) (all_from (R x) ys (λ y inside. across x y (Contains-first x xs) inside)))
    (pairs_append R xs ys (AllPairs-tail R x xs left) right (λ y z inside there. across y z (Contains-later x xs y inside) there))

pub pairs_flat_map : {X Y : Type 0} (R : Y → Y → Type 0) (S : X → X → Type 0) (f : X → List Y) (xs : List X) → AllPairs S xs
    → ((x : X) → Contains xs x → AllPairs R (f x))
    → ((x x' : X) → S x x' → Contains xs x → Contains xs x' → (y y' : Y) → Contains (f x) y → Contains (f x') y' → R y y')
    → AllPairs R (flat_map f xs)
pairs_flat_map R S f [] apart each across = no_pairs R
pairs_flat_map R S f (x ∷ xs) apart each across =
    pairs_append R (f x) (flat_map f xs) (each x (Contains-first x xs))
    (pairs_flat_map R S f xs (AllPairs-tail S x xs apart) (λ z inside. each z (Contains-later x xs z inside))
    (λ z z' s inside inside'. across z z' s (Contains-later x xs z inside) (Contains-later x xs z' inside')))
    (λ y y' inside inside'.
    let found = Contains-flat_map_cases f xs y' inside' in
    across x found.0 (AllPairs-head S x xs apart found.0 found.1) (Contains-first x xs) (Contains-later x xs found.0 found.1) y y' inside found.2)

AllPairs-weaker : {X : Type 0} (R S : X → X → Type 0) → ((x y : X) → R x y → S x y) → (xs : List X) → AllPairs R xs → AllPairs S xs
AllPairs-weaker R S weaker xs pairs = λ i j d before within. weaker (slice_index_or xs i d) (slice_index_or xs j d) (pairs i j d before within)

pub pairs_map : {X Y : Type 0} (R : Y → Y → Type 0) (f : X → Y) (xs : List X) → AllPairs (λ x x'. R (f x) (f x')) xs → AllPairs R (map f xs)
pairs_map R f [] pairs = no_pairs R
pairs_map R f (x ∷ xs) pairs =
    AllPairs-cons R (f x) (map f xs)
    (all_from (R (f x)) (map f xs) (λ y inside.
    let found = Contains-map_cases f xs y inside in
    subst (R (f x)) found.2 (AllPairs-head (λ z z'. R (f z) (f z')) x xs pairs found.0 found.1)))
    (pairs_map R f xs (AllPairs-tail (λ z z'. R (f z) (f z')) x xs pairs))

-- names that are distinct by the test
pub distinct_pairs : (ns : List Name) → are_distinct ns ≡ true → AllPairs (λ x y. x ≢ y) ns
distinct_pairs [] apart = no_pairs (λ x y. x ≢ y)
distinct_pairs (n ∷ ns) apart =
    let parts = and_parts (not (list_any (same_name n) ns)) (are_distinct ns) apart in
    AllPairs-cons (λ x y. x ≢ y) n ns
    (all_from (λ y. n ≢ y) ns (λ y inside same.
    let found : list_any (same_name n) ns ≡ true = any_from (same_name n) ns y inside ((same_name-Decides n y).1 same) in
    let none : list_any (same_name n) ns ≡ false = not-true (list_any (same_name n) ns) parts.0 in absurd cc))
    (distinct_pairs ns parts.1)

-- ---- objects

once_differs : (objects : List ObjectDecl) → AllPairs (λ (x y : ObjectDecl). x.name ≢ y.name) (once objects)
once_differs [] = no_pairs (λ (x y : ObjectDecl). x.name ≢ y.name)
once_differs (o ∷ more) =
    AllPairs-cons (λ (x y : ObjectDecl). x.name ≢ y.name) o (filter (λ (x : ObjectDecl). not (same_name x.name o.name)) (once more))
    (all_from (λ (y : ObjectDecl). o.name ≢ y.name) (filter (λ (x : ObjectDecl). not (same_name x.name o.name)) (once more)) (λ y inside same.
    let other : same_name y.name o.name ≡ false
    = not-true (same_name y.name o.name) (Contains-filter_cases (λ (x : ObjectDecl). not (same_name x.name o.name)) (once more) y inside).1 in
    let one : same_name y.name o.name ≡ true = (same_name-Decides y.name o.name).1 (sym same) in absurd cc))
    (AllPairs-filter (λ (x y : ObjectDecl). x.name ≢ y.name) (λ (x : ObjectDecl). not (same_name x.name o.name)) (once more) (once_differs more))

objects_differ : (w : World) → AllPairs (λ (x y : ObjectDecl). x.name ≢ y.name) w.objects → (p : Param) → AllPairs (λ x y. x ≢ y) (objects_of w p)
objects_differ w pairs p =
    pairs_map (λ x y. x ≢ y) (λ (o : ObjectDecl). o.name) (filter (λ (o : ObjectDecl). list_any (is_under w o.kind) p.kinds) w.objects)
    (AllPairs-filter (λ (x y : ObjectDecl). x.name ≢ y.name) (λ (o : ObjectDecl). list_any (is_under w o.kind) p.kinds) w.objects pairs)

-- ---- bindings

abbrev pub values_of : List Param → Binding → List Name
values_of ps b = map (λ (p : Param). bound b p.name) ps

-- a variable that is not bound anew keeps what it stands for
bound_before : (w : World) (ps : List Param) (b b' : Binding) (v : Name) → list_any (names v) ps ≡ false → Contains (bindings w ps b) b' → bound b' v ≡ bound b v
bound_before w [] b b' v none inside = elim (Contains-cons_cases b [] b' inside) [
  | inl here ↦ ap (λ c. bound c v) (sym here)
  | inr other ↦ absurd (Contains-nil b' other)
]
bound_before w (p ∷ ps) b b' v none inside =
    let parts = or_parts (same_name p.name v) (list_any (names v) ps) none in
    let found = Contains-flat_map_cases (λ o. bindings w ps ((p.name, o) ∷ b)) (objects_of w p) b' inside in
    bound_before w ps ((p.name, found.0) ∷ b) b' v parts.1 found.2 ∙ ap (λ t. cond t found.0 (bound b v)) parts.0

bound_here : (w : World) (p : Param) (ps : List Param) (b b' : Binding) (o : Name) → list_any (names p.name) ps ≡ false
    → Contains (bindings w ps ((p.name, o) ∷ b)) b' → bound b' p.name ≡ o
bound_here w p ps b b' o none inside =
    bound_before w ps ((p.name, o) ∷ b) b' p.name none inside
    ∙ ap (λ t. cond t o (bound b p.name)) ((same_name-Decides p.name p.name).1 refl)

-- the list of names has the variable exactly where the list of variables has one of that name
named_same : (v : Name) (ps : List Param) → list_any (same_name v) (map (λ (p : Param). p.name) ps) ≡ false → list_any (names v) ps ≡ false
named_same v [] none = refl
named_same v (p ∷ ps) none =
    let parts = or_parts (same_name v p.name) (list_any (same_name v) (map (λ (q : Param). q.name) ps)) none in
    let other : same_name p.name v ≡ false
    = false_from_ne_true (same_name p.name v) (λ same.
    let turned : same_name v p.name ≡ true = (same_name-Decides v p.name).1 (sym ((same_name-Decides p.name v).0 same)) in absurd cc) in
    or_from (same_name p.name v) (list_any (names v) ps) other (named_same v ps parts.1)

head_is : {X : Type 0} {x y : X} {xs ys : List X} → x ∷ xs ≡ y ∷ ys → x ≡ y
head_is e = cc

tail_is : {X : Type 0} {x y : X} {xs ys : List X} → x ∷ xs ≡ y ∷ ys → xs ≡ ys
tail_is e = cc

pub bindings_differ : (w : World) → AllPairs (λ (x y : ObjectDecl). x.name ≢ y.name) w.objects → (ps : List Param) (b : Binding)
    → are_distinct (map (λ (p : Param). p.name) ps) ≡ true → AllPairs (λ c c'. values_of ps c ≢ values_of ps c') (bindings w ps b)
bindings_differ w objects [] b apart = λ i j d before within. absurd (omega arith)
bindings_differ w objects (p ∷ ps) b apart =
    let parts = and_parts (not (list_any (same_name p.name) (map (λ (q : Param). q.name) ps))) (are_distinct (map (λ (q : Param). q.name) ps)) apart in
    let none : list_any (names p.name) ps ≡ false
    = named_same p.name ps (not-true (list_any (same_name p.name) (map (λ (q : Param). q.name) ps)) parts.0) in
    pairs_flat_map (λ c c'. values_of (p ∷ ps) c ≢ values_of (p ∷ ps) c') (λ x y. x ≢ y) (λ o. bindings w ps ((p.name, o) ∷ b)) (objects_of w p)
    (objects_differ w objects p)
    (λ o inside. AllPairs-weaker (λ c c'. values_of ps c ≢ values_of ps c') (λ c c'. values_of (p ∷ ps) c ≢ values_of (p ∷ ps) c')
    (λ c c' other same. other (tail_is same)) (bindings w ps ((p.name, o) ∷ b)) (bindings_differ w objects ps ((p.name, o) ∷ b) parts.1))
    (λ o o' other inside inside' c c' there there' same.
    other (sym (bound_here w p ps b c o none there) ∙ head_is same ∙ bound_here w p ps b c' o' none there'))

-- ---- instances

pub formed_values : (is_formed : Name → Bool) (scope : List Param) (b : Binding) (ps : List Param) → Covers is_formed scope b
    → ((p : Param) → Contains ps p → Contains scope p) → list_all is_formed (values_of ps b) ≡ true
formed_values is_formed scope b [] covers part = refl
formed_values is_formed scope b (p ∷ ps) covers part =
    and_from (is_formed (bound b p.name)) (list_all is_formed (values_of ps b))
    (covers p.name (any_from (names p.name) scope p (part p (Contains-first p ps)) ((same_name-Decides p.name p.name).1 refl)))
    (formed_values is_formed scope b ps covers (λ q inside. part q (Contains-later p ps q inside)))

pairs_unmap : {X Y : Type 0} (R : Y → Y → Type 0) (f : X → Y) (xs : List X) → AllPairs R (map f xs) → AllPairs (λ x x'. R (f x) (f x')) xs
pairs_unmap R f [] pairs = λ i j d before within. absurd (omega arith)
pairs_unmap R f (x ∷ xs) pairs =
    AllPairs-cons (λ z z'. R (f z) (f z')) x xs
    (all_from (λ y. R (f x) (f y)) xs (λ y inside. AllPairs-head R (f x) (map f xs) pairs (f y) (Contains-map f xs y inside)))
    (pairs_unmap R f xs (AllPairs-tail R (f x) (map f xs) pairs))

-- of pairs that are related where both are members, those that are members are related
pairs_within : {X : Type 0} (R : X → X → Type 0) (all part : List X) → ((x : X) → Contains part x → Contains all x)
    → AllPairs (λ x y. Contains all x → Contains all y → R x y) part → AllPairs R part
pairs_within R all [] member pairs = no_pairs R
pairs_within R all (x ∷ part) member pairs =
    AllPairs-cons R x part
    (all_from (R x) part (λ y inside.
    AllPairs-head (λ z z'. Contains all z → Contains all z' → R z z') x part pairs y inside (member x (Contains-first x part)) (member y (Contains-later x part y inside))))
    (pairs_within R all part (λ y inside. member y (Contains-later x part y inside)) (AllPairs-tail (λ z z'. Contains all z → Contains all z' → R z z') x part pairs))

module _ (task : Task) (fit : IsWellFormed task) where
  -- the values of parameters are plain names
  values_are_plain : (i : Instance) → Contains (instances task) i → list_all is_plain (values_of i.action.params i.binding) ≡ true
  values_are_plain i inside = formed_values is_plain i.action.params i.binding i.action.params (covers task fit i inside) (λ p there. there)

  name_is_plain : (i : Instance) → Contains (instances task) i
      → list_all is_plain (i.action.name ∷ values_of i.action.params i.binding) ≡ true
  name_is_plain i inside =
      let first = and_parts (is_plain i.action.name && params_fit task.domain.types i.action.params
      && condition_fits (domain_world task.domain) task.domain i.action.condition i.action.params)
      (effect_fits (domain_world task.domain) task.domain i.action.effect i.action.params) (action_is task fit i inside) in
      let second = and_parts (is_plain i.action.name && params_fit task.domain.types i.action.params)
      (condition_fits (domain_world task.domain) task.domain i.action.condition i.action.params) first.0 in
      and_from (is_plain i.action.name) (list_all is_plain (values_of i.action.params i.binding))
      (and_parts (is_plain i.action.name) (params_fit task.domain.types i.action.params) second.0).0 (values_are_plain i inside)

  params_distinct : (a : Action) → Contains task.domain.actions a → are_distinct (map (λ (p : Param). p.name) a.params) ≡ true
  params_distinct a inside =
      let whole = all_at (action_fits (domain_world task.domain) task.domain) task.domain.actions a fit.actions inside in
      let first = and_parts (is_plain a.name && params_fit task.domain.types a.params && condition_fits (domain_world task.domain) task.domain a.condition a.params)
      (effect_fits (domain_world task.domain) task.domain a.effect a.params) whole in
      let second = and_parts (is_plain a.name && params_fit task.domain.types a.params)
      (condition_fits (domain_world task.domain) task.domain a.condition a.params) first.0 in
      let params = and_parts (is_plain a.name) (params_fit task.domain.types a.params) second.0 in
      (and_parts (are_distinct (map (λ (p : Param). p.name) a.params)) (list_all (has_types task.domain.types) a.params) params.1).0

  abbrev instances_of : Action → List Instance
  instances_of a = map (λ b. record { action = a; binding = b }) (bindings (world task) a.params [])

  names_tell : (i j : Instance) → Contains (instances task) i → Contains (instances task) j → instance_name i ≡ instance_name j
      → i.action.name ∷ values_of i.action.params i.binding ≡ j.action.name ∷ values_of j.action.params j.binding
  names_tell i j inside there same =
      text_tells_names (i.action.name ∷ values_of i.action.params i.binding) (j.action.name ∷ values_of j.action.params j.binding)
      (name_is_plain i inside) (name_is_plain j there) same

  -- where the names are those of one action, what its parameters stand for differs
  one_action : (a : Action) → Contains task.domain.actions a
      → AllPairs (λ (i j : Instance). Contains (instances task) i → Contains (instances task) j → instance_name i ≢ instance_name j) (instances_of a)
  one_action a inside =
      pairs_map (λ (i j : Instance). Contains (instances task) i → Contains (instances task) j → instance_name i ≢ instance_name j)
      (λ b. record { action = a; binding = b }) (bindings (world task) a.params [])
      (AllPairs-weaker (λ c c'. values_of a.params c ≢ values_of a.params c')
      (λ c c'. Contains (instances task) (record { action = a; binding = c }) → Contains (instances task) (record { action = a; binding = c' })
      → instance_name (record { action = a; binding = c }) ≢ instance_name (record { action = a; binding = c' }))
      (λ c c' other there there' same.
      other (tail_is (names_tell (record { action = a; binding = c }) (record { action = a; binding = c' }) there there' same)))
      (bindings (world task) a.params [])
      (bindings_differ (world task) (once_differs (task.domain.constants ++ task.problem.objects)) a.params [] (params_distinct a inside)))

  action_of : (a : Action) (i : Instance) → Contains (instances_of a) i → i.action ≡ a
  action_of a i inside =
      let made = Contains-map_cases {X = Binding} {Y = Instance} (λ b. record { action = a; binding = b }) (bindings (world task) a.params []) i inside in
      ap (λ (j : Instance). j.action) (sym made.2)

  all_instances : AllPairs (λ (i j : Instance). Contains (instances task) i → Contains (instances task) j → instance_name i ≢ instance_name j) (instances task)
  all_instances =
      pairs_flat_map (λ (i j : Instance). Contains (instances task) i → Contains (instances task) j → instance_name i ≢ instance_name j)
      (λ (a a' : Action). a.name ≢ a'.name) instances_of task.domain.actions
      (pairs_unmap (λ x y. x ≢ y) (λ (a : Action). a.name) task.domain.actions
      (distinct_pairs (map (λ (a : Action). a.name) task.domain.actions) fit.action_names))
      one_action
      (λ a a' other inside inside' i j there there' member member' same.
      other (ap (λ (x : Action). x.name) (sym (action_of a i there)) ∙ head_is (names_tell i j member member' same)
      ∙ ap (λ (x : Action). x.name) (action_of a' j there')))

  pub names_differ : AllPairs (λ (i j : Instance). instance_name i ≢ instance_name j) (kept_instances task)
  names_differ =
      pairs_within (λ (i j : Instance). instance_name i ≢ instance_name j) (instances task) (kept_instances task)
      (λ i kept. kept_is_instance task i kept)
      (AllPairs-filter (λ (i j : Instance). Contains (instances task) i → Contains (instances task) j → instance_name i ≢ instance_name j)
      (is_kept task) (instances task) all_instances)
