-- Conditions: what is accepted is derived, and what is derived is accepted.
use Rattle.std.proofs.Common.{◌≡◌, ℕ, List, [], ◌∷◌, true, false, Result, Ok, refl, sym, ap, subst, ◌∙◌}
use Rattle.plain_list.specs.Results.{◌>>=◌}
use Rattle.plain_list.proofs.Results.{bind_ok, ok_is}
use Rattle.ppddl_lex.specs.declared.keywords.TheConstants.{NOT, AND, OR, IMPLY, EXISTS, FORALL}
use Rattle.ppddl_lex.specs.Words.{is_name}
use Rattle.ppddl_model.specs.declared.refusal.TextCode.TheVariants.{Unsupported}
use Rattle.ppddl_model.specs.declared.tree.Condition.{Condition}
use Rattle.ppddl_model.specs.declared.tree.Condition.TheVariants as tree
use Rattle.ppddl_model.specs.declared.tree.Param.{Param}
use Rattle.ppddl_forms.specs.names.Declarations.{Declared}
use Rattle.ppddl_cursor.specs.declared.place.Place.{Place}
use Rattle.ppddl_cursor.specs.Ahead.{same}
use Rattle.ppddl_cursor.specs.Forms.{Form, Forms, lone, group, none, more}
use Rattle.ppddl_cursor.specs.Reading.{Fault, fails, ends}
use Rattle.ppddl_cursor.specs.Sequences.{one_then, last}
use Rattle.ppddl_forms.specs.declared.condition_head.ConditionHead.{ConditionHead}
use Rattle.ppddl_forms.specs.declared.condition_head.ConditionHead.TheVariants as head
use Rattle.ppddl_forms.specs.declared.symbols.TheConstants.{EQUAL, LESS, AT_MOST, GREATER, AT_LEAST}
use Rattle.ppddl_forms.specs.Terms.{Scope, term, atom_in}
use Rattle.ppddl_forms.specs.Variables.{variable_list}
use Rattle.ppddl_forms.specs.Conditions.{is_comparison, condition_head, equality, condition, condition_in, negation, conditions, implication, implied, quantified, bound}
use Rattle.ppddl_form_grammar.specs.forms.Words.{forms, headed}
use Rattle.ppddl_form_grammar.specs.forms.Terms as term_by
use Rattle.ppddl_form_grammar.specs.forms.Lists.{IsVariableList}
use Rattle.ppddl_form_grammar.specs.forms.Conditions as by
use Rattle.ppddl_form_grammar.specs.forms.Conditions.{IsCondition, Conditions}
use Rattle.ppddl_form_grammar.proofs.lemmas.forms.Parts.{branch, same_word, then_ok, last_ok, ends_ok, pass, either_fails, no_keyword}
use Rattle.ppddl_form_grammar.proofs.lemmas.forms.Terms.{term_derived, term_is_accepted, application_derived, application_accepted}
use Rattle.ppddl_form_grammar.proofs.lemmas.forms.Lists.{list_derived, list_accepted}

-- the word of a head
abbrev WordOf : ConditionHead → List ℕ → Type 0
WordOf head.Not w = w ≡ NOT.now
WordOf head.And w = w ≡ AND.now
WordOf head.Or w = w ≡ OR.now
WordOf head.Imply w = w ≡ IMPLY.now
WordOf head.Exists w = w ≡ EXISTS.now
WordOf head.Forall w = w ≡ FORALL.now
WordOf head.Equal w = w ≡ EQUAL.now
WordOf head.Comparison w = Unit {0}
WordOf head.Predicate w = Unit {0}

head_word : (w : List ℕ) → WordOf (condition_head w) w
head_word w =
    let P : ConditionHead → Type 0 = λ k. WordOf k w in
    branch P (same w NOT.now) head.Not _ (same_word w NOT.now) (λ n1.
    branch P (same w AND.now) head.And _ (same_word w AND.now) (λ n2.
    branch P (same w OR.now) head.Or _ (same_word w OR.now) (λ n3.
    branch P (same w IMPLY.now) head.Imply _ (same_word w IMPLY.now) (λ n4.
    branch P (same w EXISTS.now) head.Exists _ (same_word w EXISTS.now) (λ n5.
    branch P (same w FORALL.now) head.Forall _ (same_word w FORALL.now) (λ n6.
    branch P (same w EQUAL.now) head.Equal _ (same_word w EQUAL.now) (λ n7.
    branch P (is_comparison w) head.Comparison head.Predicate (λ e. tt) (λ e. tt))))))))

name_head : (w : List ℕ) → is_name w ≡ true → condition_head w ≡ head.Predicate
name_head w named =
    let no : (v : List ℕ) → is_name v ≡ false → same w v ≡ false = λ v. no_keyword w v named in
    pass (same w NOT.now) head.Not _ head.Predicate (no NOT.now refl) (
    pass (same w AND.now) head.And _ head.Predicate (no AND.now refl) (
    pass (same w OR.now) head.Or _ head.Predicate (no OR.now refl) (
    pass (same w IMPLY.now) head.Imply _ head.Predicate (no IMPLY.now refl) (
    pass (same w EXISTS.now) head.Exists _ head.Predicate (no EXISTS.now refl) (
    pass (same w FORALL.now) head.Forall _ head.Predicate (no FORALL.now refl) (
    pass (same w EQUAL.now) head.Equal _ head.Predicate (no EQUAL.now refl) (
    pass (is_comparison w) head.Comparison head.Predicate head.Predicate
    (either_fails _ (same w AT_LEAST.now) (either_fails _ (same w GREATER.now) (either_fails (same w LESS.now) (same w AT_MOST.now) (no LESS.now refl) (no AT_MOST.now refl)) (no GREATER.now refl)) (no AT_LEAST.now refl))
    refl)))))))

module _ (d : Declared) where
  -- what stands behind a first word
  abbrev Read : Scope → ConditionHead → List ℕ → Place → Forms → Place → Result Condition Fault
  Read s k w e fs b = elim k [
    | head.Not ↦ negation d s fs b
    | head.And ↦ conditions d s fs b >>= λ cs. Ok (tree.All cs)
    | head.Or ↦ conditions d s fs b >>= λ cs. Ok (tree.Any cs)
    | head.Imply ↦ implication d s fs b
    | head.Exists ↦ quantified d s fs b >>= λ q. Ok (tree.Exists q.0 q.1)
    | head.Forall ↦ quantified d s fs b >>= λ q. Ok (tree.Forall q.0 q.1)
    | head.Equal ↦ equality d s fs b
    | head.Comparison ↦ fails Unsupported e
    | head.Predicate ↦ atom_in d s (more (lone w e) fs) b >>= λ x. Ok (tree.Atom x)
  ]

  abbrev Quantified : Scope → Forms → List Param × Condition → Type 0
  Quantified s fs q = (f : Form) × (g : Form) × (fs ≡ forms (f ∷ g ∷ [])) × IsVariableList d f q.0 × IsCondition d (q.0 ∷ s) g q.1

  equality_derived : (s : Scope) (fs : Forms) (b : Place) (c : Condition) → equality d s fs b ≡ Ok c → (a e : Place) → IsCondition d s (headed a e EQUAL.now fs b) c
  unfolding equality
  equality_derived s fs b = then_ok (term d s) _ b (λ gs c. (a e : Place) → IsCondition d s (headed a e EQUAL.now gs b) c)
      (λ f x one. then_ok (term d s) _ b (λ gs c. (a e : Place) → IsCondition d s (headed a e EQUAL.now (more f gs) b) c)
      (λ g y other gs c is a e.
      let l = last_ok (tree.Equal x y) c gs b is in
      let t = term_derived d s f x one in
      let u = term_derived d s g y other in
      subst (λ hs. IsCondition d s (headed a e EQUAL.now (more f (more g hs)) b) c) (sym l.0) (subst (IsCondition d s (headed a e EQUAL.now (forms (f ∷ g ∷ [])) b)) l.1 (by.equality t.1 u.1)))) fs

  in_derived : (s : Scope) (fs : Forms) (b : Place) (x : _) → atom_in d s fs b ≡ Ok x → term_by.Application d s d.predicates fs x
  unfolding atom_in
  in_derived s fs b x eq = application_derived d s d.predicates fs b x eq

  in_reads : (s : Scope) (fs : Forms) (x : _) (b : Place) → term_by.Application d s d.predicates fs x → atom_in d s fs b ≡ Ok x
  unfolding atom_in
  in_reads s fs x b app = application_accepted d s d.predicates fs b x app

  module _ (s : Scope) (w : List ℕ) (a e : Place) (fs : Forms) (b : Place)
      (negations : (c : Condition) → negation d s fs b ≡ Ok c → IsCondition d s (headed a e NOT.now fs b) c)
      (parts : (cs : List Condition) → conditions d s fs b ≡ Ok cs → Conditions d s fs cs)
      (implications : (c : Condition) → implication d s fs b ≡ Ok c → IsCondition d s (headed a e IMPLY.now fs b) c)
      (quantifieds : (q : List Param × Condition) → quantified d s fs b ≡ Ok q → Quantified s fs q) where
    headed_derived : (k : ConditionHead) → WordOf k w → (c : Condition) → Read s k w e fs b ≡ Ok c → IsCondition d s (headed a e w fs b) c
    headed_derived head.Not at c is = subst (λ v. IsCondition d s (headed a e v fs b) c) (sym at) (negations c is)
    headed_derived head.And at c is =
        let r = bind_ok (conditions d s fs b) (λ cs. Ok (tree.All cs)) c is in
        subst (λ v. IsCondition d s (headed a e v fs b) c) (sym at) (subst (IsCondition d s (headed a e AND.now fs b)) (ok_is {E = Fault} (tree.All r.0) c r.2) (by.conjunction (parts r.0 r.1)))
    headed_derived head.Or at c is =
        let r = bind_ok (conditions d s fs b) (λ cs. Ok (tree.Any cs)) c is in
        subst (λ v. IsCondition d s (headed a e v fs b) c) (sym at) (subst (IsCondition d s (headed a e OR.now fs b)) (ok_is {E = Fault} (tree.Any r.0) c r.2) (by.disjunction (parts r.0 r.1)))
    headed_derived head.Imply at c is = subst (λ v. IsCondition d s (headed a e v fs b) c) (sym at) (implications c is)
    headed_derived head.Exists at c is =
        let r = bind_ok (quantified d s fs b) (λ q. Ok (tree.Exists q.0 q.1)) c is in
        let q = quantifieds r.0 r.1 in
        subst (λ v. IsCondition d s (headed a e v fs b) c) (sym at)
        (subst (λ gs. IsCondition d s (headed a e EXISTS.now gs b) c) (sym q.2) (subst (IsCondition d s (headed a e EXISTS.now (forms (q.0 ∷ q.1 ∷ [])) b)) (ok_is {E = Fault} (tree.Exists r.0.0 r.0.1) c r.2) (by.existence q.3 q.4)))
    headed_derived head.Forall at c is =
        let r = bind_ok (quantified d s fs b) (λ q. Ok (tree.Forall q.0 q.1)) c is in
        let q = quantifieds r.0 r.1 in
        subst (λ v. IsCondition d s (headed a e v fs b) c) (sym at)
        (subst (λ gs. IsCondition d s (headed a e FORALL.now gs b) c) (sym q.2) (subst (IsCondition d s (headed a e FORALL.now (forms (q.0 ∷ q.1 ∷ [])) b)) (ok_is {E = Fault} (tree.Forall r.0.0 r.0.1) c r.2) (by.universality q.3 q.4)))
    headed_derived head.Equal at c is = subst (λ v. IsCondition d s (headed a e v fs b) c) (sym at) (equality_derived s fs b c is a e)
    headed_derived head.Comparison at c is = absurd cc
    headed_derived head.Predicate at c is =
        let r = bind_ok (atom_in d s (more (lone w e) fs) b) (λ x. Ok (tree.Atom x)) c is in
        subst (IsCondition d s (headed a e w fs b)) (ok_is {E = Fault} (tree.Atom r.0) c r.2) (by.atomic (term_by.atom (in_derived s (more (lone w e) fs) b r.0 r.1)))

  -- one form, and the end
  pub alone : {A B : Type 0} (r : Result A Fault) (fs : Forms) (b : Place) (make : A → B) (y : B) → (r >>= λ x. ends fs b >>= λ u. Ok (make x)) ≡ Ok y
      → (x : A) × (r ≡ Ok x) × (fs ≡ none) × (make x ≡ y)
  alone r fs b make y is =
      let p = bind_ok r (λ x. ends fs b >>= λ u. Ok (make x)) y is in
      let q = bind_ok (ends fs b) (λ u. Ok (make p.0)) y p.2 in
      (p.0, p.1, ends_ok fs b q.0 q.1, ok_is {E = Fault} (make p.0) y q.2)

  mutual
    unfolding condition condition_in negation conditions implication implied quantified bound

    pub condition_derived : (s : Scope) (f : Form) (c : Condition) → condition d s f ≡ Ok c → IsCondition d s f c
    condition_derived s (lone w a) c is = absurd cc
    condition_derived s (group a fs b) c is = inside_derived s a fs b c is

    inside_derived : (s : Scope) (a : Place) (fs : Forms) (b : Place) (c : Condition) → condition_in d s fs b ≡ Ok c → IsCondition d s (group a fs b) c
    inside_derived s a none b c is = subst (IsCondition d s (group a none b)) (ok_is {E = Fault} (tree.All []) c is) by.truth
    inside_derived s a (more (group e gs g) fs) b c is = absurd cc
    inside_derived s a (more (lone w e) fs) b c is =
        headed_derived s w a e fs b (λ x. negation_derived s fs b x a e) (λ xs. conditions_derived s fs b xs) (λ x. implication_derived s fs b x a e) (λ q. quantified_derived s fs b q)
        (condition_head w) (head_word w) c is

    negation_derived : (s : Scope) (fs : Forms) (b : Place) (c : Condition) (a e : Place) → negation d s fs b ≡ Ok c → IsCondition d s (headed a e NOT.now fs b) c
    negation_derived s none b c a e is = absurd cc
    negation_derived s (more f fs) b c a e is =
        let r = alone (condition d s f) fs b (λ x. tree.Not x) c is in
        subst (λ gs. IsCondition d s (headed a e NOT.now (more f gs) b) c) (sym r.2) (subst (IsCondition d s (headed a e NOT.now (forms (f ∷ [])) b)) r.3 (by.negation (condition_derived s f r.0 r.1)))

    conditions_derived : (s : Scope) (fs : Forms) (b : Place) (cs : List Condition) → conditions d s fs b ≡ Ok cs → Conditions d s fs cs
    conditions_derived s none b cs is = subst (Conditions d s none) (ok_is {E = Fault} [] cs is) by.no_condition
    conditions_derived s (more f fs) b cs is =
        let r = bind_ok (condition d s f) (λ c. conditions d s fs b >>= λ xs. Ok (c ∷ xs)) cs is in
        let q = bind_ok (conditions d s fs b) (λ xs. Ok (r.0 ∷ xs)) cs r.2 in
        subst (Conditions d s (more f fs)) (ok_is {E = Fault} (r.0 ∷ q.0) cs q.2) (by.one_more (condition_derived s f r.0 r.1) (conditions_derived s fs b q.0 q.1))

    implication_derived : (s : Scope) (fs : Forms) (b : Place) (c : Condition) (a e : Place) → implication d s fs b ≡ Ok c → IsCondition d s (headed a e IMPLY.now fs b) c
    implication_derived s none b c a e is = absurd cc
    implication_derived s (more f none) b c a e is = let r = bind_ok (condition d s f) (λ x. fails _ b) c is in absurd (let bad = r.2 in cc)
    implication_derived s (more f (more g fs)) b c a e is =
        let p = bind_ok (condition d s f) (λ x. condition d s g >>= λ y. ends fs b >>= λ u. Ok (tree.Imply x y)) c is in
        let r = alone (condition d s g) fs b (λ y. tree.Imply p.0 y) c p.2 in
        subst (λ gs. IsCondition d s (headed a e IMPLY.now (more f (more g gs)) b) c) (sym r.2)
        (subst (IsCondition d s (headed a e IMPLY.now (forms (f ∷ g ∷ [])) b)) r.3 (by.implication (condition_derived s f p.0 p.1) (condition_derived s g r.0 r.1)))

    quantified_derived : (s : Scope) (fs : Forms) (b : Place) (q : List Param × Condition) → quantified d s fs b ≡ Ok q → Quantified s fs q
    quantified_derived s none b q is = absurd cc
    quantified_derived s (more f none) b q is = let r = bind_ok (variable_list d f) (λ x. fails _ b) q is in absurd (let bad = r.2 in cc)
    quantified_derived s (more f (more g fs)) b q is =
        let p = bind_ok (variable_list d f) (λ ps. condition d (ps ∷ s) g >>= λ c. ends fs b >>= λ u. Ok (ps, c)) q is in
        let r = alone (condition d (p.0 ∷ s) g) fs b (λ c. (p.0, c)) q p.2 in
        subst (λ x. Quantified s (more f (more g fs)) x) r.3 (f, g, ap (λ gs. more f (more g gs)) r.2, list_derived d f p.0 p.1, condition_derived (p.0 ∷ s) g r.0 r.1)

  -- ---- and what is derived is accepted

  mutual
    unfolding condition condition_in negation conditions implication implied quantified bound equality one_then last

    pub condition_accepted : (s : Scope) (f : Form) (c : Condition) → IsCondition d s f c → condition d s f ≡ Ok c
    condition_accepted s f c by.truth = refl
    condition_accepted s f c (by.atomic (term_by.atom {b = b} {x = x} (term_by.application {w = w} {a = e} {fs = gs} named at args))) =
        ap (λ k. Read s k w e gs b) (name_head w named) ∙ ap (λ r. r >>= λ z. Ok (tree.Atom z)) (in_reads s (more (lone w e) gs) x b (term_by.application named at args))
    condition_accepted s f c (by.equality {f = g} {g = h} {x = x} {y = y} one other) = rw (term_is_accepted d s g x _ one, term_is_accepted d s h y _ other) refl
    condition_accepted s f c (by.negation {f = g} {x = x} is) = rw (condition_accepted s g x is) refl
    condition_accepted s f c (by.conjunction {b = b} {fs = gs} {xs = xs} parts) = rw (conditions_accepted s gs xs parts b) refl
    condition_accepted s f c (by.disjunction {b = b} {fs = gs} {xs = xs} parts) = rw (conditions_accepted s gs xs parts b) refl
    condition_accepted s f c (by.implication {f = g} {g = h} {x = x} {y = y} one other) = rw (condition_accepted s g x one, condition_accepted s h y other) refl
    condition_accepted s f c (by.existence {f = g} {g = h} {ps = ps} {x = x} list inner) = rw (list_accepted d g ps list, condition_accepted (ps ∷ s) h x inner) refl
    condition_accepted s f c (by.universality {f = g} {g = h} {ps = ps} {x = x} list inner) = rw (list_accepted d g ps list, condition_accepted (ps ∷ s) h x inner) refl

    conditions_accepted : (s : Scope) (fs : Forms) (cs : List Condition) → Conditions d s fs cs → (b : Place) → conditions d s fs b ≡ Ok cs
    conditions_accepted s fs cs by.no_condition b = refl
    conditions_accepted s fs cs (by.one_more {f = f} {fs = gs} {x = x} {xs = xs} is others) b = rw (condition_accepted s f x is, conditions_accepted s gs xs others b) refl
