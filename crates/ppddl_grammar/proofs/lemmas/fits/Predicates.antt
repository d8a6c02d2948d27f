-- Predicates and functions that are read: more of them, none twice, with parameters that fit and names in lower case.
--     Declares ds types f p      a form declares one more behind ds
use Rattle.std.proofs.Common.{◌≡◌, ℕ, true, false, List, [], ◌∷◌, ◌++◌, Option, Some, None, is_some, Result, Ok, refl, sym, ap, subst, ◌∙◌, append_assoc, append-nil}
use Rattle.std.specs.List.{list_all}
use Rattle.std.proofs.lemmas.Bool.{and_from}
use Rattle.plain_list.specs.Results.{◌>>=◌}
use Rattle.plain_list.proofs.Results.{bind_ok, ok_is, test_fails}
use Rattle.ppddl_lex.specs.Words.{is_name}
use Rattle.ppddl_model.specs.declared.tree.Param.{Param}
use Rattle.ppddl_model.specs.declared.tree.PredicateDecl.{PredicateDecl}
use Rattle.ppddl_model.specs.declared.tree.TypeDecl.{TypeDecl}
use Rattle.ppddl_model.specs.State.{Name}
use Rattle.ppddl_model.specs.WellFormed.{params_fit}
use Rattle.ppddl_forms.specs.names.Declarations.{Declared, predicate_named, with_predicate, with_function}
use Rattle.ppddl_cursor.specs.declared.place.Place.{Place}
use Rattle.ppddl_cursor.specs.Forms.{Form, Forms, lone, group, none, more}
use Rattle.ppddl_cursor.specs.Reading.{Fault}
use Rattle.ppddl_cursor.specs.Sequences.{checking, in_group, one_then, giving, keyword}
use Rattle.ppddl_forms.specs.Variables.{variables}
use Rattle.ppddl_forms.specs.Words.{name}
use Rattle.ppddl_reader.specs.declared.sections.symbols.TheConstants.{NUMBER}
use Rattle.ppddl_reader.specs.sections.Predicates.{not_taken, declaration, new_predicate, predicate, new_function, function, predicates, ListedFunctions, listed_so, another_function, functions_wait, numbers, all_functions, functions}
use Rattle.ppddl_form_grammar.proofs.lemmas.fits.Declared.{declaration_fits}
use Rattle.ppddl_form_grammar.proofs.lemmas.fits.Tests.{all-both}
use Rattle.ppddl_form_grammar.proofs.lemmas.fits.Variables.{variables_fit}
use Rattle.ppddl_grammar.specs.fits.Fitting.{IsFit, DeclaresPredicates, DeclaresFunctions}
use Rattle.ppddl_grammar.specs.fits.Laws.{PredicatesAreDeclared, FunctionsAreDeclared, PredicatesKeepFit, FunctionsKeepFit, PredicatesHaveNames, FunctionsHaveNames}
use Rattle.ppddl_grammar.specs.fits.Names.{is_lower_name, is_named, IsLower, HaveLowerNames}
use Rattle.ppddl_grammar.proofs.lemmas.fits.Lower.{lower-each, lower_name}
use Rattle.ppddl_grammar.proofs.lemmas.fits.Walks.{AllForms, Any, any-forms, each-keeps, typed-gives, name-read}

record Declares (ds : List PredicateDecl) (types : List TypeDecl) (f : Form) (p : PredicateDecl) : Type 0 where
  named : is_name p.name ≡ true
  new : predicate_named ds p.name ≡ None
  params : params_fit types p.params ≡ true
  lower : IsLower f → is_lower_name p.name ≡ true

none_is : {A : Type 0} (o : Option A) → is_some o ≡ false → o ≡ None
none_is None is = refl
none_is (Some x) is = absurd cc

module _ (ds : List PredicateDecl) where
  abbrev new_name : Form → Result (List ℕ) Fault
  new_name f = name f >>= λ n. not_taken (is_some (predicate_named ds n.text)) n

  record IsNew (f : Form) (w : Name) : Type 0 where
    named : is_name w ≡ true
    new : predicate_named ds w ≡ None
    lower : IsLower f → is_lower_name w ≡ true

  name-new : (f : Form) (w : Name) → new_name f ≡ Ok w → IsNew f w
  name-new f w is =
      let r = bind_ok (name f) (λ n. not_taken (is_some (predicate_named ds n.text)) n) w is in
      let t = test_fails (is_some (predicate_named ds r.0.text)) _ (Ok r.0.text) w r.2 in
      let own = name-read f r.0 r.1 in
      subst (IsNew f) (ok_is {E = Fault} r.0.text w t.1) (record {
        named = own.0;
        new = none_is (predicate_named ds r.0.text) t.0;
        lower = λ lower. lower_name r.0.text own.0 (own.1 lower);
      })

module _ (d : Declared) where
  declares : (ds : List PredicateDecl) (f : Form) (fs : Forms) (b : Place) (a : Place) (w : Name) (params : List Param)
      → new_name ds f ≡ Ok w → variables d fs b ≡ Ok params → Declares ds d.types (group a (more f fs) b) (declaration w params)
  declares ds f fs b a w params is list =
      let own = name-new ds f w is in
      record { named = own.named; new = own.new; params = variables_fit d fs b params list; lower = λ lower. own.lower lower.0 }

  -- a form declares a predicate
  predicate-declares : (f : Form) (e : Declared) → predicate d f ≡ Ok e → (p : PredicateDecl) × (with_predicate d p ≡ e) × Declares d.predicates d.types f p
  unfolding predicate new_predicate in_group one_then giving checking
  predicate-declares (lone w a) e is = absurd cc
  predicate-declares (group a none b) e is = absurd cc
  predicate-declares (group a (more f fs) b) e is =
      let r = bind_ok (new_name d.predicates f) (λ w. variables d fs b >>= λ params. Ok (with_predicate d (declaration w params))) e is in
      let q = bind_ok (variables d fs b) (λ params. Ok (with_predicate d (declaration r.0 params))) e r.2 in
      (declaration r.0 q.0, ok_is {E = Fault} (with_predicate d (declaration r.0 q.0)) e q.2, declares d.predicates f fs b a r.0 q.0 r.1 q.1)

  -- a form declares a function
  function-declares : (f : Form) (e : Declared) → function d f ≡ Ok e → (p : PredicateDecl) × (with_function d p ≡ e) × Declares d.functions d.types f p
  unfolding function new_function in_group one_then giving checking
  function-declares (lone w a) e is = absurd cc
  function-declares (group a none b) e is = absurd cc
  function-declares (group a (more f fs) b) e is =
      let r = bind_ok (new_name d.functions f) (λ w. variables d fs b >>= λ params. Ok (with_function d (declaration w params))) e is in
      let q = bind_ok (variables d fs b) (λ params. Ok (with_function d (declaration r.0 params))) e r.2 in
      (declaration r.0 q.0, ok_is {E = Fault} (with_function d (declaration r.0 q.0)) e q.2, declares d.functions f fs b a r.0 q.0 r.1 q.1)

-- ---- what one more leaves

predicate-fit : (d : Declared) (f : Form) (e : Declared) → IsFit d → predicate d f ≡ Ok e → IsFit e
predicate-fit d f e fit is =
    let r = predicate-declares d f e is in
    subst IsFit r.1 (record {
      types = fit.types;
      objects = fit.objects;
      predicates = declaration_fits d.types d.predicates r.0.name r.0.params fit.predicates r.2.named r.2.new r.2.params;
      functions = fit.functions;
    })

function-fit : (d : Declared) (f : Form) (e : Declared) → IsFit d → function d f ≡ Ok e → IsFit e
function-fit d f e fit is =
    let r = function-declares d f e is in
    subst IsFit r.1 (record {
      types = fit.types;
      objects = fit.objects;
      predicates = fit.predicates;
      functions = declaration_fits d.types d.functions r.0.name r.0.params fit.functions r.2.named r.2.new r.2.params;
    })

named-push : (ds : List PredicateDecl) (p : PredicateDecl) → list_all is_named ds ≡ true → is_lower_name p.name ≡ true → list_all is_named (ds ++ p ∷ []) ≡ true
named-push ds p each own = all-both is_named ds (p ∷ []) each (and_from (is_named p) true own refl)

predicate-named : (d : Declared) (f : Form) (e : Declared) → HaveLowerNames d → IsLower f → predicate d f ≡ Ok e → HaveLowerNames e
predicate-named d f e have lower is =
    let r = predicate-declares d f e is in
    subst HaveLowerNames r.1 (record {
      types = have.types;
      objects = have.objects;
      predicates = named-push d.predicates r.0 have.predicates (r.2.lower lower);
      functions = have.functions;
    })

function-named : (d : Declared) (f : Form) (e : Declared) → HaveLowerNames d → IsLower f → function d f ≡ Ok e → HaveLowerNames e
function-named d f e have lower is =
    let r = function-declares d f e is in
    subst HaveLowerNames r.1 (record {
      types = have.types;
      objects = have.objects;
      predicates = have.predicates;
      functions = named-push d.functions r.0 have.functions (r.2.lower lower);
    })

predicate-behind : (d s : Declared) (f : Form) (t : Declared) → DeclaresPredicates d s → predicate s f ≡ Ok t → DeclaresPredicates d t
predicate-behind d s f t before is =
    let r = predicate-declares s f t is in (
      before.0 ++ r.0 ∷ [],
      sym r.1 ∙ ap (λ u. with_predicate u r.0) before.1 ∙ ap (λ l. record d { predicates = l }) (append_assoc d.predicates before.0 (r.0 ∷ [])),
    )

function-behind : (d s : Declared) (f : Form) (t : Declared) → DeclaresFunctions d s → function s f ≡ Ok t → DeclaresFunctions d t
function-behind d s f t before is =
    let r = function-declares s f t is in (
      before.0 ++ r.0 ∷ [],
      sym r.1 ∙ ap (λ u. with_function u r.0) before.1 ∙ ap (λ l. record d { functions = l }) (append_assoc d.functions before.0 (r.0 ∷ [])),
    )

-- ---- sections

pub predicates-declared : PredicatesAreDeclared
unfolding predicates
predicates-declared d fs b e is =
    each-keeps predicate (DeclaresPredicates d) Any (λ s f t before any. predicate-behind d s f t before) d fs b e
    ([], ap (λ l. record d { predicates = l }) (sym (append-nil d.predicates))) (any-forms fs) is

pub predicates-keep_fit : PredicatesKeepFit
unfolding predicates
predicates-keep_fit d fs b e is fit = each-keeps predicate IsFit Any (λ s f t holds any. predicate-fit s f t holds) d fs b e fit (any-forms fs) is

pub predicates-have_names : PredicatesHaveNames
unfolding predicates
predicates-have_names d fs b e is lower have = each-keeps predicate HaveLowerNames IsLower predicate-named d fs b e have (lower-each fs lower) is

-- what holds of what is declared, in a list of functions
module _ (P : Declared → Type 0) (Q : Form → Type 0) (one : (s : Declared) (f : Form) (t : Declared) → P s → Q f → function s f ≡ Ok t → P t) where
  another-keeps : (s : ListedFunctions) (f : Form) (t : ListedFunctions) → P s.declared → Q f → another_function s f ≡ Ok t → P t.declared
  unfolding another_function checking
  another-keeps s f t holds form is =
      let r = bind_ok (function s.declared f) (λ d. Ok (listed_so d true)) t is in
      subst (λ u. P u.declared) (ok_is {E = Fault} (listed_so r.0 true) t r.2) (one s.declared f r.0 holds form r.1)

  numbers-keep : (s : ListedFunctions) (f : Form) (t : ListedFunctions) → P s.declared → Q f → numbers s f ≡ Ok t → P t.declared
  unfolding numbers checking
  numbers-keep s f t holds form is =
      let r = bind_ok (keyword NUMBER.now f) (λ u. Ok (listed_so s.declared false)) t is in
      subst (λ u. P u.declared) (ok_is {E = Fault} (listed_so s.declared false) t r.2) holds

  functions-keep : (d : Declared) (fs : Forms) (b : Place) (e : Declared) → P d → AllForms Q fs → functions d fs b ≡ Ok e → P e
  functions-keep d fs b e holds forms is =
      typed-gives another_function functions_wait numbers all_functions (λ s. P s.declared) Q P another-keeps numbers-keep
      (λ s at last held own. subst P (ok_is {E = Fault} s.declared last own) held) (listed_so d false) fs b e holds forms is

pub functions-declared : FunctionsAreDeclared
functions-declared d fs b e is =
    functions-keep (DeclaresFunctions d) Any (λ s f t before any. function-behind d s f t before) d fs b e
    ([], ap (λ l. record d { functions = l }) (sym (append-nil d.functions))) (any-forms fs) is

pub functions-keep_fit : FunctionsKeepFit
functions-keep_fit d fs b e is fit = functions-keep IsFit Any (λ s f t holds any. function-fit s f t holds) d fs b e fit (any-forms fs) is

pub functions-have_names : FunctionsHaveNames
functions-have_names d fs b e is lower have = functions-keep HaveLowerNames IsLower function-named d fs b e have (lower-each fs lower) is
