-- What is known of a condition does not depend on a variable that does not stand in it.
use Rattle.std.proofs.Common.{◌≡◌, Bool, true, false, not, ◌&&◌, ◌||◌, cond, Option, Some, None, List, [], ◌∷◌, ◌++◌, map, refl, sym, ap, ◌∙◌}
use Rattle.std.specs.Prelude.{All, Contains, flat_map}
use Rattle.std.specs.List.{list_all, list_any}
use Rattle.std.proofs.lemmas.Bool.{and_parts}
use Rattle.std.proofs.lemmas.List.{map-append}
use Rattle.std.proofs.lemmas.List.Elements.{All-nil, All-cons, All-append, All-weaker, All-contains}
use Rattle.ppddl_model.specs.declared.tree.Condition.{Condition, Row_of-Condition, end_of-Condition, more_of-Condition}
use Rattle.ppddl_model.specs.declared.tree.Condition.TheVariants as condition
use Rattle.ppddl_model.specs.declared.tree.Param.{Param}
use Rattle.ppddl_model.specs.declared.tree.Task.{Task}
use Rattle.ppddl_model.specs.declared.tree.Term.{Term}
use Rattle.ppddl_model.specs.declared.tree.Term.TheVariants.{Variable, Object}
use Rattle.ppddl_model.specs.State.{Name, same_name, State, has, no_atoms, with_atoms}
use Rattle.ppddl_model.specs.Objects.{World, Binding, bound, named, objects_of, bindings}
use Rattle.ppddl_model.specs.Known.{known, known_not, known_or, known_all, known_any, known_each, is_not_false}
use Rattle.ppddl_model.specs.Steps.{world}
use Rattle.ppddl_model.specs.Changing.{changing_predicates, facts}
use Rattle.task_instances.specs.kept_rows.Stages.{is_variable, names_variable, each_names_variable, names_none, may_hold, may_all_hold}

or_none : (a b : Bool) → (a || b) ≡ false → (a ≡ false) × (b ≡ false)
or_none true b none = absurd cc
or_none false b none = (refl, none)

pub not_true : (a : Bool) → not a ≡ true → a ≡ false
not_true true on = absurd cc
not_true false on = refl

-- the bindings differ at most in what v stands for
abbrev pub Off : Name → Binding → Binding → Type 0
Off v b b' = (u : Name) → same_name v u ≡ false → bound b u ≡ bound b' u

off_more : (v p o : Name) (b b' : Binding) → Off v b b' → Off v ((p, o) ∷ b) ((p, o) ∷ b')
off_more v p o b b' off u other = ap (λ k. cond (same_name p u) o k) (off u other)

pub off_one : (v o : Name) (b : Binding) → Off v ((v, o) ∷ b) b
off_one v o b u other = ap (λ t. cond t o (bound b u)) other

module _ (v : Name) (b b' : Binding) (off : Off v b b') where
  term_alike : (t : Term) → is_variable v t ≡ false → named b t ≡ named b' t
  term_alike (Variable u) none = off u none
  term_alike (Object o) none = refl

  terms_alike : (ts : List Term) → list_any (is_variable v) ts ≡ false → map (named b) ts ≡ map (named b') ts
  terms_alike [] none = refl
  terms_alike (t ∷ ts) none =
      let parts = or_none (is_variable v t) (list_any (is_variable v) ts) none in
      ap (λ n. n ∷ map (named b) ts) (term_alike t parts.0) ∙ ap (λ l. named b' t ∷ l) (terms_alike ts parts.1)

flat_alike : {X Y Z : Type 0} (f : Y → Z) (g h : X → List Y) (xs : List X) → ((x : X) → map f (g x) ≡ map f (h x))
    → map f (flat_map g xs) ≡ map f (flat_map h xs)
flat_alike f g h [] same = refl
flat_alike f g h (x ∷ xs) same =
    map-append f (g x) (flat_map g xs)
    ∙ ap (λ l. l ++ map f (flat_map g xs)) (same x)
    ∙ ap (λ l. map f (h x) ++ l) (flat_alike f g h xs same)
    ∙ sym (map-append f (h x) (flat_map h xs))

bound_alike : (w : World) (f : Binding → Option Bool) (v : Name) → ((b b' : Binding) → Off v b b' → f b ≡ f b')
    → (ps : List Param) (b b' : Binding) → Off v b b' → map f (bindings w ps b) ≡ map f (bindings w ps b')
bound_alike w f v same [] b b' off = ap (λ k. k ∷ []) (same b b' off)
bound_alike w f v same (p ∷ ps) b b' off =
    flat_alike f (λ o. bindings w ps ((p.name, o) ∷ b)) (λ o. bindings w ps ((p.name, o) ∷ b')) (objects_of w p)
    (λ o. bound_alike w f v same ps ((p.name, o) ∷ b) ((p.name, o) ∷ b') (off_more v p.name o b b' off))

module _ (w : World) (changing : List Name) (at_first : State) where
  mutual
    pub alike : (c : Condition) (v : Name) (b b' : Binding) → names_variable v c ≡ false → Off v b b'
        → known w changing at_first c b ≡ known w changing at_first c b'
    alike (condition.Atom a) v b b' none off =
        ap (λ l. cond (list_any (same_name a.predicate) changing) None (Some (has at_first (a.predicate ∷ l)))) (terms_alike v b b' off a.args none)
    alike (condition.Equal x y) v b b' none off =
        let parts = or_none (is_variable v x) (is_variable v y) none in
        ap (λ n. Some (same_name n (named b y))) (term_alike v b b' off x parts.0)
        ∙ ap (λ n. Some (same_name (named b' x) n)) (term_alike v b b' off y parts.1)
    alike (condition.Not' u (more_of-Condition c end_of-Condition)) v b b' none off = ap known_not (alike c v b b' none off)
    alike (condition.All' shape cs) v b b' none off = ap known_all (each_alike cs v b b' none off)
    alike (condition.Any' shape cs) v b b' none off = ap known_any (each_alike cs v b b' none off)
    alike (condition.Imply' u (more_of-Condition c end_of-Condition) u' (more_of-Condition d end_of-Condition)) v b b' none off =
        let parts = or_none (names_variable v c) (names_variable v d) none in
        ap (λ k. known_or (known_not k) (known w changing at_first d b)) (alike c v b b' parts.0 off)
        ∙ ap (λ k. known_or (known_not (known w changing at_first c b')) k) (alike d v b b' parts.1 off)
    alike (condition.Exists' params u (more_of-Condition c end_of-Condition)) v b b' none off =
        ap known_any (bound_alike w (λ x. known w changing at_first c x) v (λ x y o. alike c v x y none o) params b b' off)
    alike (condition.Forall' params u (more_of-Condition c end_of-Condition)) v b b' none off =
        ap known_all (bound_alike w (λ x. known w changing at_first c x) v (λ x y o. alike c v x y none o) params b b' off)

    each_alike : {n : _} (cs : Row_of-Condition n) (v : Name) (b b' : Binding) → each_names_variable v cs ≡ false → Off v b b'
        → known_each w changing at_first cs b ≡ known_each w changing at_first cs b'
    each_alike end_of-Condition v b b' none off = refl
    each_alike (more_of-Condition c cs) v b b' none off =
        let parts = or_none (names_variable v c) (each_names_variable v cs) none in
        ap (λ k. k ∷ known_each w changing at_first cs b) (alike c v b b' parts.0 off)
        ∙ ap (λ l. known w changing at_first c b' ∷ l) (each_alike cs v b b' parts.1 off)

-- ---- variables that are bound on top of others

all_flat : {X Y : Type 0} (P : Y → Type 0) (f : X → List Y) (xs : List X) → ((x : X) → All P (f x)) → All P (flat_map f xs)
all_flat P f [] each = All-nil P
all_flat P f (x ∷ xs) each = All-append P (f x) (flat_map f xs) (each x) (all_flat P f xs each)

module _ (task : Task) where
  abbrev SameHold : Condition → Binding → Binding → Type 0
  SameHold c b b' = may_hold task b' c ≡ may_hold task b c

  same_below : (c : Condition) (ps : List Param) (b : Binding) → names_none ps c ≡ true → All (SameHold c b) (bindings (world task) ps b)
  same_below c [] b none = All-cons (SameHold c b) b [] refl (All-nil (SameHold c b))
  same_below c (p ∷ ps) b none =
      let parts = and_parts (not (names_variable p.name c)) (names_none ps c) none in
      all_flat (SameHold c b) (λ o. bindings (world task) ps ((p.name, o) ∷ b)) (objects_of (world task) p)
      (λ o. All-weaker (SameHold c ((p.name, o) ∷ b)) (SameHold c b)
      (λ b' same. same ∙ ap is_not_false (alike (world task) (changing_predicates task) (with_atoms no_atoms (facts task)) c p.name ((p.name, o) ∷ b) b
      (not_true (names_variable p.name c) parts.0) (off_one p.name o b)))
      (bindings (world task) ps ((p.name, o) ∷ b)) (same_below c ps ((p.name, o) ∷ b) parts.1))

  pub all_same_below : (cs : List Condition) (ps : List Param) (b b' : Binding) → list_all (names_none ps) cs ≡ true
      → Contains (bindings (world task) ps b) b' → may_all_hold task b' cs ≡ may_all_hold task b cs
  all_same_below [] ps b b' none inside = refl
  all_same_below (c ∷ cs) ps b b' none inside =
      let parts = and_parts (names_none ps c) (list_all (names_none ps) cs) none in
      ap (λ t. t && may_all_hold task b' cs) (All-contains (SameHold c b) (bindings (world task) ps b) b' (same_below c ps b parts.0) inside)
      ∙ ap (λ t. may_hold task b c && t) (all_same_below cs ps b b' parts.1 inside)
