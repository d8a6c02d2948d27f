-- The ground atoms of a task are made of names of the form that its declarations have, whatever this is.
use Rattle.std.proofs.Common.{◌≡◌, Bool, true, false, ◌&&◌, ◌||◌, List, [], ◌∷◌, ◌++◌, map, Option, None, Some, refl, sym, ap, subst, ◌∙◌, inl, inr}
use Rattle.std.specs.Prelude.{All, Contains, flat_map, is_some, filter}
use Rattle.std.specs.List.{find, list_any, list_all}
use Rattle.std.specs.Option.{option_map}
use Rattle.std.proofs.lemmas.Bool.{and_parts, and_from, cases_Bool, or_left, or_right}
use Rattle.std.proofs.lemmas.List.Elements.{All-nil, All-cons, All-append, All-contains_itself, All-weaker}
use Rattle.plain_list.proofs.Members.{Contains-cons_cases, Contains-nil, Contains-map_cases, Contains-flat_map_cases}
use Rattle.ppddl_model.specs.declared.tree.Atom.{Atom}
use Rattle.ppddl_model.specs.declared.tree.Condition.{Condition, Row_of-Condition, end_of-Condition, more_of-Condition}
use Rattle.ppddl_model.specs.declared.tree.Condition.TheVariants as condition
use Rattle.ppddl_model.specs.declared.tree.Domain.{Domain}
use Rattle.ppddl_model.specs.declared.tree.Effect.{Effect, Row_of-Effect, end_of-Effect, more_of-Effect, Row_of-Branch, end_of-Branch, more_of-Branch}
use Rattle.ppddl_model.specs.declared.tree.Effect.TheVariants as effect
use Rattle.ppddl_model.specs.declared.tree.ObjectDecl.{ObjectDecl}
use Rattle.ppddl_model.specs.declared.tree.Param.{Param}
use Rattle.ppddl_model.specs.declared.tree.PredicateDecl.{PredicateDecl}
use Rattle.ppddl_model.specs.declared.tree.Term.{Term}
use Rattle.ppddl_model.specs.declared.tree.Term.TheVariants.{Variable, Object}
use Rattle.ppddl_model.specs.State.{Name, same_name, GroundAtom}
use Rattle.ppddl_model.specs.Objects.{World, Binding, bound, named, ground_atom, is_under, objects_of, bindings}
use Rattle.ppddl_model.specs.Changing.{literals, literals_each, literals_branches}
use Rattle.ppddl_model.specs.WellFormed.{params_fit, kinds_of, fits, args_fit, atom_fits, condition_fits, each_condition_fits, effect_fits, each_effect_fits, each_branch_fits}
use Rattle.ppddl_model.proofs.Lists.{All-flat_map}
use Rattle.ppddl_model.proofs.States.{same_name-Decides}
use Rattle.ground_meaning.proofs.lemmas.stands.Lists.{Contains-filter_cases}
use Rattle.ground_meaning.specs.choices.Change.{condition_atoms, conditions_atoms, tested_atoms, tested_each, tested_branches}

-- ---- what a search finds

some_of : {X Y : Type 0} (f : X → Y) (found : Option X) → is_some (option_map f found) ≡ true → is_some found ≡ true
some_of f None some = absurd cc
some_of f (Some x) some = refl

pub find_any : {X : Type 0} (p : X → Bool) (xs : List X) → is_some (find p xs) ≡ list_any p xs
find_any p [] = refl
find_any p (x ∷ xs) = elim (cases_Bool (p x)) [
  | inl here ↦ rw here refl
  | inr other ↦ rw other (find_any p xs)
]

find_all : {X : Type 0} (p q : X → Bool) (xs : List X) (x : X) → list_all q xs ≡ true → find p xs ≡ Some x → (p x ≡ true) × (q x ≡ true)
find_all p q [] x all found = absurd cc
find_all p q (y ∷ xs) x all found = elim (cases_Bool (p y)) [
  | inl here ↦
      let first : find p (y ∷ xs) ≡ Some y = rw here refl in
      let same : y ≡ x = cc in
      (subst (λ z. p z ≡ true) same here, subst (λ z. q z ≡ true) same (and_parts (q y) (list_all q xs) all).0)
  | inr other ↦
      let later : find p (y ∷ xs) ≡ find p xs = rw other refl in
      find_all p q xs x (and_parts (q y) (list_all q xs) all).1 (sym later ∙ found)
]

the_some : {X : Type 0} (found : Option X) → is_some found ≡ true → (x : X) × (found ≡ Some x)
the_some None some = absurd cc
the_some (Some x) some = (x, refl)

kinds_known : {X : Type 0} (found : Option X) (test : X → Bool) → elim found [ None ↦ false | Some x ↦ test x ] ≡ true → is_some found ≡ true
kinds_known None test fit = absurd cc
kinds_known (Some x) test fit = refl

declared_found : {X : Type 0} (found : Option X) (test : X → Bool) → elim found [ None ↦ false | Some x ↦ test x ] ≡ true
    → (x : X) × (found ≡ Some x) × (test x ≡ true)
declared_found None test fit = absurd cc
declared_found (Some x) test fit = (x, refl, fit)

pub all_at : {X : Type 0} (p : X → Bool) (xs : List X) (x : X) → list_all p xs ≡ true → Contains xs x → p x ≡ true
all_at p [] x all inside = absurd (Contains-nil x inside)
all_at p (y ∷ xs) x all inside = elim (Contains-cons_cases y xs x inside) [
  | inl here ↦ subst (λ z. p z ≡ true) here (and_parts (p y) (list_all p xs) all).0
  | inr later ↦ all_at p xs x (and_parts (p y) (list_all p xs) all).1 later
]

-- ---- variables in sight

abbrev pub names : Name → Param → Bool
names v p = same_name p.name v

later_seen : (p : Param) (scope : List Param) (v : Name) → same_name p.name v ≡ false → list_any (names v) (p ∷ scope) ≡ true → list_any (names v) scope ≡ true
later_seen p scope v other seen = ap (λ b. b || list_any (names v) scope) (sym other) ∙ seen

-- the order in which variables came into sight is of no matter
without_second : (a m rest : Bool) → m ≡ false → (a || (m || rest)) ≡ true → (a || rest) ≡ true
without_second a true rest other e = absurd cc
without_second a false rest other e = e

seen_behind : (v : Name) (ps scope : List Param) (p : Param) → list_any (names v) ((p ∷ ps) ++ scope) ≡ true → list_any (names v) (ps ++ p ∷ scope) ≡ true
seen_behind v [] scope p seen = seen
seen_behind v (r ∷ ps) scope p seen = elim (cases_Bool (same_name r.name v)) [
  | inl here ↦ or_left (same_name r.name v) (list_any (names v) (ps ++ p ∷ scope)) here
  | inr other ↦
      or_right (same_name r.name v) (list_any (names v) (ps ++ p ∷ scope))
      (seen_behind v ps scope p (without_second (same_name p.name v) (same_name r.name v) (list_any (names v) (ps ++ scope)) other seen))
]

-- ---- names

abbrev pub has_names : GroundAtom → Bool
has_names [] = false
has_names (name ∷ names) = true

module _ (is_formed : Name → Bool) where
  -- there are names, each of the form
  abbrev pub IsFormed : GroundAtom → Type 0
  IsFormed q = (has_names q && list_all is_formed q) ≡ true

  abbrev pub has_formed_name : ObjectDecl → Bool
  has_formed_name o = is_formed o.name

  abbrev pub declares_formed : PredicateDecl → Bool
  declares_formed d = is_formed d.name

  -- the variables that are in sight stand for names of the form
  abbrev pub Covers : List Param → Binding → Type 0
  Covers scope b = (v : Name) → list_any (names v) scope ≡ true → is_formed (bound b v) ≡ true

  covers_more : (scope : List Param) (b : Binding) (p : Param) (o : Name) → Covers scope b → is_formed o ≡ true
      → Covers (p ∷ scope) ((p.name, o) ∷ b)
  covers_more scope b p o covers formed v seen = elim (cases_Bool (same_name p.name v)) [
    | inl here ↦ rw here formed
    | inr other ↦ rw other (covers v (later_seen p scope v other seen))
  ]

  object_is_formed : (w : World) → list_all has_formed_name w.objects ≡ true → (p : Param) (o : Name) → Contains (objects_of w p) o → is_formed o ≡ true
  object_is_formed w formed p o inside =
      let found = Contains-map_cases (λ (x : ObjectDecl). x.name) (filter (λ (x : ObjectDecl). list_any (is_under w x.kind) p.kinds) w.objects) o inside in
      let member = (Contains-filter_cases (λ (x : ObjectDecl). list_any (is_under w x.kind) p.kinds) w.objects found.0 found.1).0 in
      subst (λ name. is_formed name ≡ true) found.2 (all_at has_formed_name w.objects found.0 formed member)

  pub binding_covers : (w : World) → list_all has_formed_name w.objects ≡ true → (ps scope : List Param) (b b' : Binding) → Covers scope b
      → Contains (bindings w ps b) b' → Covers (ps ++ scope) b'
  binding_covers w formed [] scope b b' covers inside = elim (Contains-cons_cases b [] b' inside) [
    | inl here ↦ subst (Covers scope) here covers
    | inr none ↦ absurd (Contains-nil b' none)
  ]
  binding_covers w formed (p ∷ ps) scope b b' covers inside =
      let found = Contains-flat_map_cases (λ o. bindings w ps ((p.name, o) ∷ b)) (objects_of w p) b' inside in
      λ v seen. binding_covers w formed ps (p ∷ scope) ((p.name, found.0) ∷ b) b'
      (covers_more scope b p found.0 covers (object_is_formed w formed p found.0 found.1)) found.2 v (seen_behind v ps scope p seen)

  -- ---- terms and atoms

  module _ (w : World) (formed : list_all has_formed_name w.objects ≡ true) (scope : List Param) (b : Binding) (covers : Covers scope b) where
    pub term_is_formed : (t : Term) → is_some (kinds_of w scope t) ≡ true → is_formed (named b t) ≡ true
    term_is_formed (Variable v) known =
        covers v (sym (find_any (names v) scope) ∙ some_of (λ (p : Param). p.kinds) (find (names v) scope) known)
    term_is_formed (Object o) known =
        let found = the_some (find (λ (x : ObjectDecl). same_name x.name o) w.objects)
        (some_of (λ (x : ObjectDecl). x.kind ∷ []) (find (λ (x : ObjectDecl). same_name x.name o) w.objects) known) in
        let is = find_all (λ (x : ObjectDecl). same_name x.name o) has_formed_name w.objects found.0 formed found.1 in
        subst (λ name. is_formed name ≡ true) ((same_name-Decides found.0.name o).0 is.0) is.1

    fits_known : (t : Term) (p : Param) → fits w scope t p ≡ true → is_some (kinds_of w scope t) ≡ true
    fits_known t p fit = kinds_known (kinds_of w scope t) (λ kinds. list_all (λ kind. list_any (is_under w kind) p.kinds) kinds) fit

    args_are_formed : (ts : List Term) (ps : List Param) → args_fit w scope ts ps ≡ true → list_all is_formed (map (named b) ts) ≡ true
    args_are_formed [] [] fit = refl
    args_are_formed [] (p ∷ ps) fit = absurd cc
    args_are_formed (t ∷ ts) [] fit = absurd cc
    args_are_formed (t ∷ ts) (p ∷ ps) fit =
        let parts = and_parts (fits w scope t p) (args_fit w scope ts ps) fit in
        and_from (is_formed (named b t)) (list_all is_formed (map (named b) ts)) (term_is_formed t (fits_known t p parts.0)) (args_are_formed ts ps parts.1)

    pub atom_is_formed : (ds : List PredicateDecl) → list_all declares_formed ds ≡ true → (a : Atom) → atom_fits w scope ds a ≡ true
        → IsFormed (ground_atom b a)
    atom_is_formed ds declared a fit =
        let found = declared_found (find (λ (d : PredicateDecl). same_name d.name a.predicate) ds) (λ d. args_fit w scope a.args d.params) fit in
        let is = find_all (λ (d : PredicateDecl). same_name d.name a.predicate) declares_formed ds found.0 declared found.1 in
        and_from (is_formed a.predicate) (list_all is_formed (map (named b) a.args))
        (subst (λ name. is_formed name ≡ true) ((same_name-Decides found.0.name a.predicate).0 is.0) is.1)
        (args_are_formed a.args found.0.params found.2)

  -- ---- conditions and effects: w says what fits, and whole what variables stand for

  module _ (w whole : World) (d : Domain) (formed : list_all has_formed_name w.objects ≡ true) (whole_formed : list_all has_formed_name whole.objects ≡ true)
      (predicates : list_all declares_formed d.predicates ≡ true) where
    one_atom : (scope : List Param) (b : Binding) → Covers scope b → (a : Atom) → atom_fits w scope d.predicates a ≡ true
        → All IsFormed (ground_atom b a ∷ [])
    one_atom scope b covers a fit =
        All-cons IsFormed (ground_atom b a) [] (atom_is_formed w formed scope b covers d.predicates predicates a fit) (All-nil IsFormed)

    each_binding : (atoms : Binding → List GroundAtom) (ps scope : List Param) (b : Binding) → Covers scope b
        → ((b' : Binding) → Covers (ps ++ scope) b' → All IsFormed (atoms b')) → All IsFormed (flat_map atoms (bindings whole ps b))
    each_binding atoms ps scope b covers each =
        All-flat_map IsFormed atoms (bindings whole ps b)
        (All-weaker (Contains (bindings whole ps b)) (λ b'. All IsFormed (atoms b'))
        (λ b' inside. each b' (binding_covers whole whole_formed ps scope b b' covers inside))
        (bindings whole ps b) (All-contains_itself (bindings whole ps b)))

    mutual
      pub condition_is_formed : (c : Condition) (scope : List Param) (b : Binding) → Covers scope b → condition_fits w d c scope ≡ true
          → All IsFormed (condition_atoms whole c b)
      condition_is_formed (condition.Atom a) scope b covers fit = one_atom scope b covers a fit
      condition_is_formed (condition.Equal x y) scope b covers fit = All-nil IsFormed
      condition_is_formed (condition.Not' u (more_of-Condition c end_of-Condition)) scope b covers fit = condition_is_formed c scope b covers fit
      condition_is_formed (condition.All' shape cs) scope b covers fit = conditions_are_formed cs scope b covers fit
      condition_is_formed (condition.Any' shape cs) scope b covers fit = conditions_are_formed cs scope b covers fit
      condition_is_formed (condition.Imply' u (more_of-Condition c end_of-Condition) v (more_of-Condition e end_of-Condition)) scope b covers fit =
          let parts = and_parts (condition_fits w d c scope) (condition_fits w d e scope) fit in
          All-append IsFormed (condition_atoms whole c b) (condition_atoms whole e b)
          (condition_is_formed c scope b covers parts.0) (condition_is_formed e scope b covers parts.1)
      condition_is_formed (condition.Exists' ps u (more_of-Condition c end_of-Condition)) scope b covers fit =
          let parts = and_parts (params_fit w.types ps) (condition_fits w d c (ps ++ scope)) fit in
          each_binding (λ b'. condition_atoms whole c b') ps scope b covers (λ b' more. condition_is_formed c (ps ++ scope) b' more parts.1)
      condition_is_formed (condition.Forall' ps u (more_of-Condition c end_of-Condition)) scope b covers fit =
          let parts = and_parts (params_fit w.types ps) (condition_fits w d c (ps ++ scope)) fit in
          each_binding (λ b'. condition_atoms whole c b') ps scope b covers (λ b' more. condition_is_formed c (ps ++ scope) b' more parts.1)

      conditions_are_formed : {n : _} (cs : Row_of-Condition n) (scope : List Param) (b : Binding) → Covers scope b
          → each_condition_fits w d cs scope ≡ true → All IsFormed (conditions_atoms whole cs b)
      conditions_are_formed end_of-Condition scope b covers fit = All-nil IsFormed
      conditions_are_formed (more_of-Condition c cs) scope b covers fit =
          let parts = and_parts (condition_fits w d c scope) (each_condition_fits w d cs scope) fit in
          All-append IsFormed (condition_atoms whole c b) (conditions_atoms whole cs b)
          (condition_is_formed c scope b covers parts.0) (conditions_are_formed cs scope b covers parts.1)

    mutual
      pub literals_are_formed : (e : Effect) (scope : List Param) (b : Binding) → Covers scope b → effect_fits w d e scope ≡ true
          → All IsFormed (literals whole e b)
      literals_are_formed (effect.Add a) scope b covers fit = one_atom scope b covers a fit
      literals_are_formed (effect.Delete a) scope b covers fit = one_atom scope b covers a fit
      literals_are_formed (effect.Both' shape es) scope b covers fit = literals_each_are_formed es scope b covers fit
      literals_are_formed (effect.Forall' ps u (more_of-Effect e end_of-Effect)) scope b covers fit =
          let parts = and_parts (params_fit w.types ps) (effect_fits w d e (ps ++ scope)) fit in
          each_binding (λ b'. literals whole e b') ps scope b covers (λ b' more. literals_are_formed e (ps ++ scope) b' more parts.1)
      literals_are_formed (effect.When' c u (more_of-Effect e end_of-Effect)) scope b covers fit =
          literals_are_formed e scope b covers (and_parts (condition_fits w d c scope) (effect_fits w d e scope) fit).1
      literals_are_formed (effect.Chance' shape branches) scope b covers fit = literals_branches_are_formed branches scope b covers fit
      literals_are_formed (effect.Cost v) scope b covers fit = All-nil IsFormed
      literals_are_formed (effect.CostOf a) scope b covers fit = All-nil IsFormed

      literals_each_are_formed : {n : _} (es : Row_of-Effect n) (scope : List Param) (b : Binding) → Covers scope b
          → each_effect_fits w d es scope ≡ true → All IsFormed (literals_each whole es b)
      literals_each_are_formed end_of-Effect scope b covers fit = All-nil IsFormed
      literals_each_are_formed (more_of-Effect e es) scope b covers fit =
          let parts = and_parts (effect_fits w d e scope) (each_effect_fits w d es scope) fit in
          All-append IsFormed (literals whole e b) (literals_each whole es b)
          (literals_are_formed e scope b covers parts.0) (literals_each_are_formed es scope b covers parts.1)

      literals_branches_are_formed : {n : _} (branches : Row_of-Branch n) (scope : List Param) (b : Binding) → Covers scope b
          → each_branch_fits w d branches scope ≡ true → All IsFormed (literals_branches whole branches b)
      literals_branches_are_formed end_of-Branch scope b covers fit = All-nil IsFormed
      literals_branches_are_formed (more_of-Branch chance e branches) scope b covers fit =
          let parts = and_parts (effect_fits w d e scope) (each_branch_fits w d branches scope) fit in
          All-append IsFormed (literals whole e b) (literals_branches whole branches b)
          (literals_are_formed e scope b covers parts.0) (literals_branches_are_formed branches scope b covers parts.1)

    mutual
      pub tested_are_formed : (e : Effect) (scope : List Param) (b : Binding) → Covers scope b → effect_fits w d e scope ≡ true
          → All IsFormed (tested_atoms whole e b)
      tested_are_formed (effect.Add a) scope b covers fit = All-nil IsFormed
      tested_are_formed (effect.Delete a) scope b covers fit = All-nil IsFormed
      tested_are_formed (effect.Both' shape es) scope b covers fit = tested_each_are_formed es scope b covers fit
      tested_are_formed (effect.Forall' ps u (more_of-Effect e end_of-Effect)) scope b covers fit =
          let parts = and_parts (params_fit w.types ps) (effect_fits w d e (ps ++ scope)) fit in
          each_binding (λ b'. tested_atoms whole e b') ps scope b covers (λ b' more. tested_are_formed e (ps ++ scope) b' more parts.1)
      tested_are_formed (effect.When' c u (more_of-Effect e end_of-Effect)) scope b covers fit =
          let parts = and_parts (condition_fits w d c scope) (effect_fits w d e scope) fit in
          All-append IsFormed (condition_atoms whole c b) (tested_atoms whole e b)
          (condition_is_formed c scope b covers parts.0) (tested_are_formed e scope b covers parts.1)
      tested_are_formed (effect.Chance' shape branches) scope b covers fit = tested_branches_are_formed branches scope b covers fit
      tested_are_formed (effect.Cost v) scope b covers fit = All-nil IsFormed
      tested_are_formed (effect.CostOf a) scope b covers fit = All-nil IsFormed

      tested_each_are_formed : {n : _} (es : Row_of-Effect n) (scope : List Param) (b : Binding) → Covers scope b
          → each_effect_fits w d es scope ≡ true → All IsFormed (tested_each whole es b)
      tested_each_are_formed end_of-Effect scope b covers fit = All-nil IsFormed
      tested_each_are_formed (more_of-Effect e es) scope b covers fit =
          let parts = and_parts (effect_fits w d e scope) (each_effect_fits w d es scope) fit in
          All-append IsFormed (tested_atoms whole e b) (tested_each whole es b)
          (tested_are_formed e scope b covers parts.0) (tested_each_are_formed es scope b covers parts.1)

      tested_branches_are_formed : {n : _} (branches : Row_of-Branch n) (scope : List Param) (b : Binding) → Covers scope b
          → each_branch_fits w d branches scope ≡ true → All IsFormed (tested_branches whole branches b)
      tested_branches_are_formed end_of-Branch scope b covers fit = All-nil IsFormed
      tested_branches_are_formed (more_of-Branch chance e branches) scope b covers fit =
          let parts = and_parts (effect_fits w d e scope) (each_branch_fits w d branches scope) fit in
          All-append IsFormed (tested_atoms whole e b) (tested_branches whole branches b)
          (tested_are_formed e scope b covers parts.0) (tested_branches_are_formed branches scope b covers parts.1)
