-- Terms, atoms and functions: what is accepted is derived, and what is derived is accepted.
use Rattle.std.proofs.Common.{◌≡◌, ℕ, List, [], ◌∷◌, ◌++◌, length, slice_get, true, false, ◌==◌, Option, Some, None, is_some, Result, Ok, refl, sym, ap, subst, ◌∙◌, arith, append_assoc, length-append}
use Rattle.std.specs.Option.{option_map}
use Rattle.std.proofs.lemmas.List.{append-nil}
use Rattle.std.proofs.lemmas.Bool.{eqb-true, eq-eqb}
use Rattle.plain_list.proofs.Results.{bind_ok, ok_is, test_passes}
use Rattle.ppddl_lex.specs.Words.{is_name, is_variable}
use Rattle.ppddl_model.specs.declared.tree.Atom.{Atom}
use Rattle.ppddl_model.specs.declared.tree.Param.{Param}
use Rattle.ppddl_model.specs.declared.tree.PredicateDecl.{PredicateDecl}
use Rattle.ppddl_model.specs.declared.tree.Term.{Term}
use Rattle.ppddl_model.specs.declared.tree.Term.TheVariants.{Variable, Object}
use Rattle.ppddl_forms.specs.names.Declarations.{Declared, world_of, kind_named, predicate_named, kinds_fit}
use Rattle.ppddl_cursor.specs.declared.place.Place.{Place}
use Rattle.ppddl_cursor.specs.Forms.{Form, Forms, lone, group, none, more, begin_of}
use Rattle.ppddl_cursor.specs.Reading.{Fault}
use Rattle.ppddl_cursor.specs.Sequences.{of_word, in_group, one_then, giving, checking, located}
use Rattle.ppddl_forms.specs.Sequences.{refused, each_to}
use Rattle.ppddl_forms.specs.Terms.{Scope, term_kinds, plain_term, all_given, atom_of, seen_term, term, argued, argument, next_argument, arguments, applied, application, atom_in, atom}
use Rattle.ppddl_forms.specs.Words.{name}
use Rattle.ppddl_form_grammar.specs.forms.Terms as by
use Rattle.ppddl_form_grammar.specs.forms.Terms.{IsTerm, Arguments, Application, IsAtom}
use Rattle.ppddl_form_grammar.proofs.lemmas.forms.Parts.{by_test, on_true, on_false, name_is, then_ok, giving_ok, group_ok}

-- a name is no variable
pub name_no_variable : (w : List ℕ) → is_name w ≡ true → is_variable w ≡ false
name_no_variable [] is = refl
name_no_variable (b ∷ bs) is = by_test (b == 63)
    (λ yes. let e : b ≡ 63 = eqb-true b 63 yes in absurd (let bad : is_name (63 ∷ bs) ≡ true = subst (λ c. is_name (c ∷ bs) ≡ true) e is in cc))
    (λ no. rw no refl)

module _ (d : Declared) (s : Scope) where
  -- what stands where a term does
  plain_derived : (P : Form → Term → Type 0)
      → ((w : List ℕ) (a : Place) → is_variable w ≡ true → P (lone w a) (Variable w))
      → ((w : List ℕ) (a : Place) → is_name w ≡ true → P (lone w a) (Object w))
      → (f : Form) (t : Term) → plain_term f ≡ Ok t → P f t
  unfolding plain_term of_word
  plain_derived P at_variable at_name (lone w a) t is = by_test (is_variable w)
      (λ yes. let e : Variable w ≡ t = ok_is {E = Fault} (Variable w) t (on_true (is_variable w) (Ok (Variable w)) _ (Ok t) yes is) in subst (P (lone w a)) e (at_variable w a yes))
      (λ no. let r = test_passes (is_name w) (Object w) _ t (on_false (is_variable w) (Ok (Variable w)) _ (Ok t) no is) in subst (P (lone w a)) r.1 (at_name w a r.0))
  plain_derived P at_variable at_name (group a fs b) t is = absurd cc

  argued_kinds : (x : Term) (a : Place) (p : Param) (r : Option (List (List ℕ))) (t : Term) → argued d s (x, a) r (Some p) ≡ Ok t
      → (kinds : List (List ℕ)) × (r ≡ Some kinds) × (kinds_fit (world_of d) kinds p ≡ true) × (x ≡ t)
  argued_kinds x a p None t is = absurd cc
  argued_kinds x a p (Some kinds) t is = let r = test_passes (kinds_fit (world_of d) kinds p) x _ t is in (kinds, refl, r.0, r.1)

  one_kind : (w : List ℕ) (r : Option (List ℕ)) (kinds : List (List ℕ)) → option_map (λ kind. kind ∷ []) r ≡ Some kinds → (kind : List ℕ) × (r ≡ Some kind) × (kind ∷ [] ≡ kinds)
  one_kind w None kinds is = absurd cc
  one_kind w (Some kind) kinds is = (kind, refl, cc)

  -- the types of a term that stands in a place where it is in sight
  in_sight_derived : (f : Form) (x : Term) → plain_term f ≡ Ok x → (kinds : List (List ℕ)) → term_kinds d s x ≡ Some kinds → IsTerm d s f x kinds
  in_sight_derived = plain_derived (λ f x. (kinds : List (List ℕ)) → term_kinds d s x ≡ Some kinds → IsTerm d s f x kinds)
      (λ w a is kinds sight. by.variable is sight)
      (λ w a is kinds sight. let r = one_kind w (kind_named d.objects w) kinds sight in subst (λ ks. IsTerm d s (lone w a) (Object w) ks) r.2 (by.object is r.1))

  argument_derived : (p : Param) (f : Form) (t : Term) → argument d s (Some p) f ≡ Ok t
      → (kinds : List (List ℕ)) × IsTerm d s f t kinds × (kinds_fit (world_of d) kinds p ≡ true)
  unfolding argument checking located
  argument_derived p f t is =
      let r = bind_ok (located plain_term f) (λ x. argued d s x (term_kinds d s x.0) (Some p)) t is in
      let q = bind_ok (plain_term f) (λ x. Ok (x, begin_of f)) r.0 r.1 in
      let k = argued_kinds r.0.0 r.0.1 p (term_kinds d s r.0.0) t r.2 in
      let e : q.0 ≡ r.0.0 = cc q.2 in
      (k.0, subst (λ x. IsTerm d s f x k.0) (e ∙ k.3) (in_sight_derived f q.0 q.1 k.0 (ap (term_kinds d s) e ∙ k.1)), k.2)

  argued_none : (x : Term × Place) (r : Option (List (List ℕ))) (t : Term) → argued d s x r None ≡ Ok t → ⊥
  argued_none x None t is = cc
  argued_none x (Some kinds) t is = cc

  argument_missing : (f : Form) (t : Term) → argument d s None f ≡ Ok t → ⊥
  unfolding argument checking
  argument_missing f t is = let r = bind_ok (located plain_term f) (λ x. argued d s x (term_kinds d s x.0) None) t is in argued_none r.0 (term_kinds d s r.0.0) t r.2

  term_accepted : (f : Form) (t : Term) (kinds : List (List ℕ)) → IsTerm d s f t kinds → (a : Place) × (located plain_term f ≡ Ok (t, a)) × (term_kinds d s t ≡ Some kinds)
  unfolding located plain_term of_word
  term_accepted f t kinds (by.variable {w = w} {a = a} is sight) = (a, rw is refl, sight)
  term_accepted f t kinds (by.object {w = w} {a = a} is sight) = (a, rw (name_no_variable w is, is) refl, rw sight refl)

  argument_accepted : (p : Param) (f : Form) (t : Term) (kinds : List (List ℕ)) → IsTerm d s f t kinds → kinds_fit (world_of d) kinds p ≡ true → argument d s (Some p) f ≡ Ok t
  unfolding argument checking
  argument_accepted p f t kinds is fit = let r = term_accepted f t kinds is in rw (r.1, r.2, fit) refl

  some_kinds : (r : Option (List (List ℕ))) → is_some r ≡ true → (kinds : List (List ℕ)) × (r ≡ Some kinds)
  some_kinds None is = absurd cc
  some_kinds (Some kinds) is = (kinds, refl)

  pub term_derived : (f : Form) (t : Term) → term d s f ≡ Ok t → (kinds : List (List ℕ)) × IsTerm d s f t kinds
  unfolding term checking located
  term_derived f t is =
      let r = bind_ok (located plain_term f) (seen_term d s) t is in
      let q = bind_ok (plain_term f) (λ x. Ok (x, begin_of f)) r.0 r.1 in
      let k = test_passes (is_some (term_kinds d s r.0.0)) r.0.0 _ t r.2 in
      let e : q.0 ≡ r.0.0 = cc q.2 in
      let ks = some_kinds (term_kinds d s r.0.0) k.0 in
      (ks.0, subst (λ x. IsTerm d s f x ks.0) (e ∙ k.1) (in_sight_derived f q.0 q.1 ks.0 (ap (term_kinds d s) e ∙ ks.1)))

  pub term_is_accepted : (f : Form) (t : Term) (kinds : List (List ℕ)) → IsTerm d s f t kinds → term d s f ≡ Ok t
  unfolding term checking
  term_is_accepted f t kinds is = let r = term_accepted f t kinds is in rw (r.1, r.2) refl

  -- ---- arguments

  abbrev Rest : List Param → List Term → Forms → Place → Result (List Term) Fault
  Rest params seen = each_to (next_argument d s params) (all_given params) seen

  here : (before : List Param) (p : Param) (after : List Param) → slice_get (before ++ p ∷ after) (length before) ≡ Some p
  here [] p after = refl
  here (q ∷ before) p after = here before p after

  past : (before : List Param) → slice_get (before ++ []) (length before) ≡ None
  past [] = refl
  past (q ∷ before) = past before

  -- one argument more
  next_ok : (params : List Param) (seen : List Term) (f : Form) (grown : List Term) → next_argument d s params seen f ≡ Ok grown
      → (t : Term) × (argument d s (slice_get params (length seen)) f ≡ Ok t) × (seen ++ t ∷ [] ≡ grown)
  unfolding next_argument checking
  next_ok params seen f grown is = let r = bind_ok (argument d s (slice_get params (length seen)) f) (λ t. Ok (seen ++ t ∷ [])) grown is in (r.0, r.1, cc r.2)

  args_derived : (fs : Forms) (b : Place) (before after : List Param) (seen all : List Term) → length seen ≡ length before
      → Rest (before ++ after) seen fs b ≡ Ok all → (ts : List Term) × (seen ++ ts ≡ all) × Arguments d s fs after ts
  unfolding each_to
  args_derived none b before [] seen all count is =
      let r = test_passes (length seen == length (before ++ [])) seen _ all is in
      ([], append-nil seen ∙ r.1, by.no_argument)
  args_derived none b before (p ∷ after) seen all count is =
      let r = test_passes (length seen == length (before ++ p ∷ after)) seen _ all is in
      absurd (omega (arith, eqb-true (length seen) (length (before ++ p ∷ after)) r.0, length-append before (p ∷ after), count))
  args_derived (more f fs) b before [] seen all count is =
      let r = bind_ok (next_argument d s (before ++ []) seen f) (λ t. Rest (before ++ []) t fs b) all is in
      let n = next_ok (before ++ []) seen f r.0 r.1 in
      absurd (argument_missing f n.0 (subst (λ o. argument d s o f ≡ Ok n.0) (ap (slice_get (before ++ [])) count ∙ past before) n.1))
  args_derived (more f fs) b before (p ∷ after) seen all count is =
      let r = bind_ok (next_argument d s (before ++ p ∷ after) seen f) (λ t. Rest (before ++ p ∷ after) t fs b) all is in
      let n = next_ok (before ++ p ∷ after) seen f r.0 r.1 in
      let a = argument_derived p f n.0 (subst (λ o. argument d s o f ≡ Ok n.0) (ap (slice_get (before ++ p ∷ after)) count ∙ here before p after) n.1) in
      let on : Rest ((before ++ p ∷ []) ++ after) (seen ++ n.0 ∷ []) fs b ≡ Ok all =
      ap (λ ps. Rest ps (seen ++ n.0 ∷ []) fs b) (append_assoc before (p ∷ []) after) ∙ ap (λ ts. Rest (before ++ p ∷ after) ts fs b) n.2 ∙ r.2 in
      let rest = args_derived fs b (before ++ p ∷ []) after (seen ++ n.0 ∷ []) all (omega (arith, length-append before (p ∷ []), length-append seen (n.0 ∷ []), count)) on in
      (n.0 ∷ rest.0, sym (append_assoc seen (n.0 ∷ []) rest.0) ∙ rest.1, by.argument a.1 a.2 rest.2)

  args_accepted : (fs : Forms) (after : List Param) (ts : List Term) → Arguments d s fs after ts → (b : Place) (before : List Param) (seen : List Term) → length seen ≡ length before
      → Rest (before ++ after) seen fs b ≡ Ok (seen ++ ts)
  unfolding each_to next_argument checking
  args_accepted fs after ts by.no_argument b before seen count =
      let all : length seen ≡ length (before ++ []) = omega (arith, length-append before [], count) in
      rw (eq-eqb (length seen) (length (before ++ [])) all) (ap Ok (sym (append-nil seen)))
  args_accepted fs after ts (by.argument {f = f} {fs = gs} {p = p} {ps = ps} {t = t} {ts = us} {kinds = kinds} is fit others) b before seen count =
      let at : argument d s (slice_get (before ++ p ∷ ps) (length seen)) f ≡ Ok t =
      ap (λ o. argument d s o f) (ap (slice_get (before ++ p ∷ ps)) count ∙ here before p ps) ∙ argument_accepted p f t kinds is fit in
      let rest : Rest ((before ++ p ∷ []) ++ ps) (seen ++ t ∷ []) gs b ≡ Ok ((seen ++ t ∷ []) ++ us)
      = args_accepted gs ps us others b (before ++ p ∷ []) (seen ++ t ∷ []) (omega (arith, length-append before (p ∷ []), length-append seen (t ∷ []), count)) in
      rw at (ap (λ qs. Rest qs (seen ++ t ∷ []) gs b) (sym (append_assoc before (p ∷ []) ps)) ∙ rest ∙ ap (λ (xs : List Term). Ok xs) (append_assoc seen (t ∷ []) us))

  pub arguments_derived : (ps : List Param) (fs : Forms) (b : Place) (ts : List Term) → arguments d s ps fs b ≡ Ok ts → Arguments d s fs ps ts
  unfolding arguments
  arguments_derived ps fs b ts is = let r = args_derived fs b [] ps [] ts refl is in subst (Arguments d s fs ps) r.1 r.2

  pub arguments_accepted : (ps : List Param) (fs : Forms) (b : Place) (ts : List Term) → Arguments d s fs ps ts → arguments d s ps fs b ≡ Ok ts
  unfolding arguments
  arguments_accepted ps fs b ts is = args_accepted fs ps ts is b [] [] refl

  -- ---- atoms and functions

  module _ (ds : List PredicateDecl) where
    -- the name, and then the arguments
    abbrev pub applied_in : Forms → Place → Result Atom Fault
    applied_in = one_then name (λ n. application d s n (predicate_named ds n.text))

    pub application_ok : (w : List ℕ) (a : Place) → is_name w ≡ true → (r : Option PredicateDecl) → predicate_named ds w ≡ r → (fs : Forms) (b : Place) (x : Atom)
        → application d s (record { text = w; place = a }) r fs b ≡ Ok x → Application d s ds (more (lone w a) fs) x
    unfolding application refused applied
    application_ok w a named None at fs b x is = absurd cc
    application_ok w a named (Some p) at fs b x is =
        let g = giving_ok (atom_of (record { text = w; place = a })) (arguments d s p.params) fs b x is in
        subst (Application d s ds (more (lone w a) fs)) g.2 (by.application named at (arguments_derived p.params fs b g.0 g.1))

    pub application_derived : (fs : Forms) (b : Place) (x : Atom) → applied_in fs b ≡ Ok x → Application d s ds fs x
    application_derived fs b = then_ok name (λ n. application d s n (predicate_named ds n.text)) b (λ gs x. Application d s ds gs x)
        (name_is (λ f n. (gs : Forms) (x : Atom) → application d s n (predicate_named ds n.text) gs b ≡ Ok x → Application d s ds (more f gs) x)
        (λ w a named gs x is. application_ok w a named (predicate_named ds w) refl gs b x is)) fs

    pub application_accepted : (fs : Forms) (b : Place) (x : Atom) → Application d s ds fs x → applied_in fs b ≡ Ok x
    unfolding one_then name of_word application applied giving
    application_accepted fs b x (by.application {w = w} {fs = gs} {p = p} {ts = ts} named at args) = rw (named, at, arguments_accepted p.params gs b ts args) refl

  pub atom_derived : (f : Form) (x : Atom) → atom d s f ≡ Ok x → IsAtom d s f x
  unfolding atom atom_in
  atom_derived = group_ok (atom_in d s) (IsAtom d s) (λ a b fs x is. by.atom (application_derived d.predicates fs b x is))

  pub atom_accepted : (f : Form) (x : Atom) → IsAtom d s f x → atom d s f ≡ Ok x
  unfolding atom atom_in in_group
  atom_accepted f x (by.atom {b = b} {fs = fs} app) = application_accepted d.predicates fs b x app
