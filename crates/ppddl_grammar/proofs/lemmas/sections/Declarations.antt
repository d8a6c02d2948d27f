-- Declarations of predicates: what is read is what is spelled.
--     declaration-on      what spells a declaration does so over the same types
use Rattle.std.proofs.Common.{◌≡◌, ℕ, true, false, List, [], ◌∷◌, Option, Some, None, is_some, Result, Ok, refl, sym, ap, subst, ◌∙◌, append_assoc, append-nil}
use Rattle.plain_list.specs.Results.{◌>>=◌}
use Rattle.plain_list.proofs.Results.{bind_ok, ok_is, test_fails}
use Rattle.ppddl_model.specs.declared.tree.Param.{Param}
use Rattle.ppddl_model.specs.declared.tree.PredicateDecl.{PredicateDecl}
use Rattle.ppddl_model.specs.WellFormed.{is_type}
use Rattle.ppddl_forms.specs.names.Declarations.{Declared, predicate_named, with_predicate}
use Rattle.ppddl_cursor.specs.declared.place.Place.{Place}
use Rattle.ppddl_cursor.specs.Forms.{Form, Forms, lone, group, none, more}
use Rattle.ppddl_cursor.specs.Reading.{Fault}
use Rattle.ppddl_cursor.specs.Sequences.{checking, in_group, one_then, giving, each}
use Rattle.ppddl_forms.specs.Variables.{variables, variable_list}
use Rattle.ppddl_forms.specs.Words.{name}
use Rattle.ppddl_reader.specs.sections.Predicates.{not_taken, declaration, new_predicate, predicate, predicates}
use Rattle.ppddl_form_grammar.specs.forms.Lists as list_by
use Rattle.ppddl_form_grammar.specs.forms.Lists.{IsType, AreTypes, Typed, Behind, IsVariableList}
use Rattle.ppddl_form_grammar.specs.forms.Words as word
use Rattle.ppddl_form_grammar.specs.forms.Words.{Each, IsName}
use Rattle.ppddl_form_grammar.proofs.lemmas.forms.Lists.{list_derived, list_accepted}
use Rattle.ppddl_form_grammar.proofs.lemmas.forms.Parts.{name_derived, name_accepted}
use Rattle.ppddl_grammar.specs.fits.Fitting.{with_predicates}
use Rattle.ppddl_grammar.specs.sections.Declarations as by
use Rattle.ppddl_grammar.specs.sections.Declarations.{AreNew, IsDeclaration, IsPredicates}
use Rattle.ppddl_grammar.specs.sections.Laws.{PredicatesAreDerived, PredicatesAreAccepted}

-- ---- over the same types

module _ (d e : Declared) (same : d.types ≡ e.types) where
  type-on : (f : Form) (kind : List ℕ) → IsType d f kind → IsType e f kind
  type-on f kind (list_by.known named is) = list_by.known named (subst (λ l. is_type l kind ≡ true) same is)

  each-on : (fs : Forms) (kinds : List (List ℕ)) → Each (IsType d) fs kinds → Each (IsType e) fs kinds
  each-on fs kinds word.no_form = word.no_form
  each-on fs kinds (word.one_more {f = f} {fs = gs} {x = kind} {xs = others} is rest) = word.one_more (type-on f kind is) (each-on gs others rest)

  types-on : (f : Form) (kinds : List (List ℕ)) → AreTypes d f kinds → AreTypes e f kinds
  types-on f kinds (list_by.one {kind = kind} is) = list_by.one (type-on f kind is)
  types-on f kinds (list_by.either {fs = fs} {kind = kind} {kinds = others} each) = list_by.either (each-on fs (kind ∷ others) each)

  mutual
    typed-on : (fs : Forms) (ps : List Param) → Typed d fs ps → Typed e fs ps
    typed-on fs ps list_by.no_variable = list_by.no_variable
    typed-on fs ps (list_by.first {fs = gs} {kinds = kinds} {ps = qs} is behind) = list_by.first is (behind-on kinds gs qs behind)

    behind-on : (kinds : List (List ℕ)) (fs : Forms) (ps : List Param) → Behind d kinds fs ps → Behind e kinds fs ps
    behind-on kinds fs ps list_by.untyped = list_by.untyped
    behind-on kinds fs ps (list_by.another {fs = gs} {ps = qs} is behind) = list_by.another is (behind-on kinds gs qs behind)
    behind-on kinds fs ps (list_by.typed {f = f} {fs = gs} types typed) = list_by.typed (types-on f kinds types) (typed-on gs ps typed)

  list-on : (f : Form) (ps : List Param) → IsVariableList d f ps → IsVariableList e f ps
  list-on f ps (list_by.variables {fs = fs} typed apart) = list_by.variables (typed-on fs ps typed) apart

  pub declaration-on : (f : Form) (p : PredicateDecl) → IsDeclaration d f p → IsDeclaration e f p
  declaration-on f p (by.declared {a = a} {b = b} {fs = fs} {ps = ps} named list) = by.declared named (list-on (group a fs b) ps list)

  declarations-on : (fs : Forms) (ps : List PredicateDecl) → Each (IsDeclaration d) fs ps → Each (IsDeclaration e) fs ps
  declarations-on fs ps word.no_form = word.no_form
  declarations-on fs ps (word.one_more {f = f} {fs = gs} {x = p} {xs = others} is rest) = word.one_more (declaration-on f p is) (declarations-on gs others rest)

-- ---- one predicate

none_is : {A : Type 0} (o : Option A) → is_some o ≡ false → o ≡ None
none_is None is = refl
none_is (Some x) is = absurd cc

module _ (ds : List PredicateDecl) where
  -- a name that none of these has
  abbrev pub new_in : Form → Result (List ℕ) Fault
  new_in f = name f >>= λ n. not_taken (is_some (predicate_named ds n.text)) n

  abbrev pub NewName : Form → List ℕ → Type 0
  NewName f w = IsName f w × (predicate_named ds w ≡ None)

  pub name-derived : (f : Form) (w : List ℕ) → new_in f ≡ Ok w → NewName f w
  name-derived f w is =
      let r = bind_ok (name f) (λ n. not_taken (is_some (predicate_named ds n.text)) n) w is in
      let t = test_fails (is_some (predicate_named ds r.0.text)) _ (Ok r.0.text) w r.2 in
      subst (NewName f) (ok_is {E = Fault} r.0.text w t.1) (name_derived f r.0 r.1, none_is (predicate_named ds r.0.text) t.0)

  pub name-accepted : (f : Form) (w : List ℕ) → NewName f w → new_in f ≡ Ok w
  name-accepted f w new =
      let r = name_accepted f w new.0 in
      ap (λ x. x >>= λ n. not_taken (is_some (predicate_named ds n.text)) n) r.1
      ∙ ap (λ v. not_taken (is_some (predicate_named ds v)) (record { text = v; place = r.0.place })) r.2
      ∙ ap (λ o. not_taken (is_some o) (record { text = w; place = r.0.place })) new.1

module _ (d : Declared) where
  pub list-of : (a : Place) (fs : Forms) (b : Place) (ps : List Param) → variables d fs b ≡ Ok ps → IsVariableList d (group a fs b) ps
  unfolding variable_list in_group
  list-of a fs b ps is = list_derived d (group a fs b) ps is

  pub list-read : (a : Place) (fs : Forms) (b : Place) (ps : List Param) → IsVariableList d (group a fs b) ps → variables d fs b ≡ Ok ps
  unfolding variable_list in_group
  list-read a fs b ps list = list_accepted d (group a fs b) ps list

  predicate-derived : (f : Form) (e : Declared) → predicate d f ≡ Ok e
      → (p : PredicateDecl) × (with_predicate d p ≡ e) × IsDeclaration d f p × (predicate_named d.predicates p.name ≡ None)
  unfolding predicate new_predicate in_group one_then giving checking
  predicate-derived (lone w a) e is = absurd cc
  predicate-derived (group a none b) e is = absurd cc
  predicate-derived (group a (more f fs) b) e is =
      let r = bind_ok (new_in d.predicates f) (λ w. variables d fs b >>= λ params. Ok (with_predicate d (declaration w params))) e is in
      let q = bind_ok (variables d fs b) (λ params. Ok (with_predicate d (declaration r.0 params))) e r.2 in
      let new = name-derived d.predicates f r.0 r.1 in
      (declaration r.0 q.0, ok_is {E = Fault} (with_predicate d (declaration r.0 q.0)) e q.2, by.declared new.0 (list-of a fs b q.0 q.1), new.1)

  predicate-accepted : (f : Form) (p : PredicateDecl) → IsDeclaration d f p → predicate_named d.predicates p.name ≡ None → predicate d f ≡ Ok (with_predicate d p)
  unfolding predicate new_predicate in_group one_then giving checking
  predicate-accepted f p (by.declared {a = a} {b = b} {f = g} {fs = fs} {w = w} {ps = ps} named list) new =
      ap (λ r. r >>= λ v. variables d fs b >>= λ params. Ok (with_predicate d (declaration v params))) (name-accepted d.predicates g w (named, new))
      ∙ ap (λ r. r >>= λ params. Ok (with_predicate d (declaration w params))) (list-read a fs b ps list)

-- ---- the section

abbrev Reads : Declared → Forms → Declared → Type 0
Reads d fs e = (ps : List PredicateDecl) × (e ≡ with_predicates d ps) × IsPredicates d fs ps

-- one more in front
reads-more : (d : Declared) (f : Form) (p : PredicateDecl) (fs : Forms) (e u : Declared) → with_predicate d p ≡ u → IsDeclaration d f p
    → predicate_named d.predicates p.name ≡ None → Reads u fs e → Reads d (more f fs) e
reads-more d f p fs e u same is new = subst (λ v. Reads v fs e → Reads d (more f fs) e) same
    (λ others. (
      p ∷ others.0,
      others.1 ∙ ap (λ l. record d { predicates = l }) (append_assoc d.predicates (p ∷ []) others.0),
      record { each = word.one_more is (declarations-on (with_predicate d p) d refl fs others.0 others.2.each); new = (new, others.2.new) },
    ))

pub predicates-derived : PredicatesAreDerived
unfolding predicates each
predicates-derived d none b e is =
    ([], sym (ok_is {E = Fault} d e is) ∙ ap (λ l. record d { predicates = l }) (sym (append-nil d.predicates)), record { each = word.no_form; new = tt })
predicates-derived d (more f fs) b e is =
    let r = bind_ok (predicate d f) (λ u. predicates u fs b) e is in
    let p = predicate-derived d f r.0 r.1 in
    reads-more d f p.0 fs e r.0 p.1 p.2 p.3 (predicates-derived r.0 fs b e r.2)

-- over declarations of the same types
each-accepted : (d e : Declared) → d.types ≡ e.types → (fs : Forms) (ps : List PredicateDecl) → Each (IsDeclaration d) fs ps → AreNew e.predicates ps
    → (b : Place) → predicates e fs b ≡ Ok (with_predicates e ps)
unfolding predicates each
each-accepted d e same fs ps word.no_form new b = ap (λ l. Ok (record e { predicates = l })) (sym (append-nil e.predicates))
each-accepted d e same fs ps (word.one_more {f = f} {fs = gs} {x = p} {xs = others} is rest) new b =
    ap (λ r. r >>= λ u. predicates u gs b) (predicate-accepted e f p (declaration-on d e same f p is) new.0)
    ∙ each-accepted d (with_predicate e p) same gs others rest new.1 b
    ∙ ap (λ l. Ok (record e { predicates = l })) (append_assoc e.predicates (p ∷ []) others)

pub predicates-accepted : PredicatesAreAccepted
predicates-accepted d fs b ps spelled = each-accepted d d refl fs ps spelled.each spelled.new b
