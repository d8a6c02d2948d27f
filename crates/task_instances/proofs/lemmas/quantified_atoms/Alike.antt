-- What a quantified atom stands for depends on the variables that it needs alone.
use Rattle.std.proofs.Common.{◌≡◌, Bool, true, false, true≢false, not, ◌&&◌, ◌||◌, cond, List, [], ◌∷◌, ◌++◌, map, refl, sym, ap, ◌∙◌}
use Rattle.std.specs.Prelude.{flat_map}
use Rattle.std.specs.List.{list_all, list_any}
use Rattle.std.proofs.lemmas.List.{map-append}
use Rattle.std.proofs.lemmas.Bool.{and_parts}
use Rattle.ppddl_model.specs.declared.tree.Atom.{Atom}
use Rattle.ppddl_model.specs.declared.tree.Param.{Param}
use Rattle.ppddl_model.specs.declared.tree.Term.{Term}
use Rattle.ppddl_model.specs.declared.tree.Term.TheVariants.{Variable, Object}
use Rattle.ppddl_model.specs.State.{Name, same_name, GroundAtom}
use Rattle.ppddl_model.specs.Objects.{World, Binding, bound, named, ground_atom, objects_of, bindings}
use Rattle.ppddl_model.proofs.States.{same_name-Decides}
use Rattle.type_table.proofs.Numbered.{same_name_itself}
use Rattle.type_table.proofs.Lists.{by_test}
use Rattle.task_instances.specs.quantified_atoms.Needed.{is_variable, is_named, hides, is_needed}
use Rattle.task_instances.specs.quantified_atoms.Quantified.{is_bound_by}

or_left : (a b : Bool) → a ≡ true → (a || b) ≡ true
or_left a b on = ap (λ c. c || b) on

or_right : (a b : Bool) → b ≡ true → (a || b) ≡ true
or_right true b on = refl
or_right false b on = on

-- ---- lists

pub map-flat : {X Y Z : Type 0} (g : Y → Z) (f : X → List Y) (xs : List X) → map g (flat_map f xs) ≡ flat_map (λ x. map g (f x)) xs
map-flat g f [] = refl
map-flat g f (x ∷ xs) = map-append g (f x) (flat_map f xs) ∙ ap (λ l. map g (f x) ++ l) (map-flat g f xs)

pub flat_same : {X Y : Type 0} (f g : X → List Y) → ((x : X) → f x ≡ g x) → (xs : List X) → flat_map f xs ≡ flat_map g xs
flat_same f g each [] = refl
flat_same f g each (x ∷ xs) = λ i. each x i ++ flat_same f g each xs i

-- ---- atoms

term_same : (t : Term) (b b' : Binding) → ((u : Name) → is_variable u t ≡ true → bound b u ≡ bound b' u) → named b t ≡ named b' t
term_same (Variable u) b b' same = same u (same_name_itself u)
term_same (Object o) b b' same = refl

terms_same : (ts : List Term) (b b' : Binding) → ((u : Name) → list_any (is_variable u) ts ≡ true → bound b u ≡ bound b' u)
    → map (named b) ts ≡ map (named b') ts
terms_same [] b b' same = refl
terms_same (t ∷ ts) b b' same =
    ap (λ n. n ∷ map (named b) ts) (term_same t b b' (λ u is. same u (or_left (is_variable u t) (list_any (is_variable u) ts) is)))
    ∙ ap (λ l. named b' t ∷ l) (terms_same ts b b' (λ u is. same u (or_right (is_variable u t) (list_any (is_variable u) ts) is)))

module _ (w : World) (a : Atom) where
  abbrev pub grounds : List Param → Binding → List GroundAtom
  grounds ps b = map (λ b'. ground_atom b' a) (bindings w ps b)

  -- what is named and not hidden stands for the same
  abbrev pub Alike : List Param → Binding → Binding → Type 0
  Alike ps b b' = (u : Name) → is_named u a ≡ true → list_any (hides u) ps ≡ false → bound b u ≡ bound b' u

  abbrev below : List Param → Param → Binding → Name → List GroundAtom
  below ps p b o = grounds ps ((p.name, o) ∷ b)

  pub opened : (p : Param) (ps : List Param) (b : Binding) → grounds (p ∷ ps) b ≡ flat_map (below ps p b) (objects_of w p)
  opened p ps b = map-flat (λ b'. ground_atom b' a) (λ o. bindings w ps ((p.name, o) ∷ b)) (objects_of w p)

  alike_below : (p : Param) (ps : List Param) (o : Name) (b b' : Binding) → Alike (p ∷ ps) b b' → Alike ps ((p.name, o) ∷ b) ((p.name, o) ∷ b')
  alike_below p ps o b b' same u is none =
      by_test (same_name p.name u)
      (λ e. ap (λ t. cond t o (bound b u)) e ∙ sym (ap (λ t. cond t o (bound b' u)) e))
      (λ e. ap (λ t. cond t o (bound b u)) e ∙ same u is (ap (λ t. t || list_any (hides u) ps) e ∙ none) ∙ sym (ap (λ t. cond t o (bound b' u)) e))

  pub grounds_alike : (ps : List Param) (b b' : Binding) → Alike ps b b' → grounds ps b ≡ grounds ps b'
  grounds_alike [] b b' same = ap (λ args. (a.predicate ∷ args) ∷ []) (terms_same a.args b b' (λ u is. same u is refl))
  grounds_alike (p ∷ ps) b b' same =
      opened p ps b
      ∙ flat_same (below ps p b) (below ps p b')
      (λ o. grounds_alike ps ((p.name, o) ∷ b) ((p.name, o) ∷ b') (alike_below p ps o b b' same)) (objects_of w p)
      ∙ sym (opened p ps b')

  -- a variable that is not needed
  pub unneeded : (v o : Name) (ps : List Param) (b : Binding) → is_needed a ps v ≡ false → grounds ps ((v, o) ∷ b) ≡ grounds ps b
  unneeded v o ps b not_needed = grounds_alike ps ((v, o) ∷ b) b alike
    where
      alike : Alike ps ((v, o) ∷ b) b
      alike u is none = by_test (same_name v u)
          (λ e. absurd (true≢false
          (sym (ap (λ t. t && not (list_any (hides u) ps)) is ∙ ap not none)
          ∙ ap (is_needed a ps) (sym ((same_name-Decides v u).0 e)) ∙ not_needed)))
          (λ e. ap (λ t. cond t o (bound b u)) e)

  -- ---- atoms whose variables are all their own

  none_free : (ts : List Term) (ps : List Param) (u : Name) → list_all (is_bound_by ps) ts ≡ true → list_any (is_variable u) ts ≡ true
      → list_any (hides u) ps ≡ true
  none_free [] ps u all is = absurd (true≢false (sym is))
  none_free (Variable v ∷ ts) ps u all is =
      let parts = and_parts (list_any (hides v) ps) (list_all (is_bound_by ps) ts) all in
      by_test (same_name u v)
      (λ e. ap (λ n. list_any (hides n) ps) ((same_name-Decides u v).0 e) ∙ parts.0)
      (λ e. none_free ts ps u parts.1 (sym (ap (λ t. t || list_any (is_variable u) ts) e) ∙ is))
  none_free (Object o ∷ ts) ps u all is = none_free ts ps u all is

  pub settled_alike : (ps : List Param) (b b' : Binding) → list_all (is_bound_by ps) a.args ≡ true → grounds ps b ≡ grounds ps b'
  settled_alike ps b b' all =
      grounds_alike ps b b' (λ u is none. absurd (true≢false (sym (none_free a.args ps u all is) ∙ none)))
