-- Declarations of functions: what is read is what is spelled.
--     Reads s fs e        forms behind what is listed, up to what is declared behind them
use Rattle.std.proofs.Common.{◌≡◌, ℕ, Bool, true, false, cond, List, [], ◌∷◌, None, Result, Ok, refl, sym, ap, subst, ◌∙◌, append_assoc, append-nil}
use Rattle.plain_list.specs.Results.{◌>>=◌}
use Rattle.plain_list.proofs.Results.{bind_ok, ok_is, test_passes}
use Rattle.ppddl_model.specs.declared.refusal.TextCode.TheVariants.{Expected}
use Rattle.ppddl_model.specs.declared.tree.PredicateDecl.{PredicateDecl}
use Rattle.ppddl_forms.specs.names.Declarations.{Declared, predicate_named, with_function}
use Rattle.ppddl_cursor.specs.declared.place.Place.{Place}
use Rattle.ppddl_cursor.specs.Ahead.{same}
use Rattle.ppddl_cursor.specs.Forms.{Form, Forms, lone, group, none, more, begin_of}
use Rattle.ppddl_cursor.specs.Reading.{Fault, fails}
use Rattle.ppddl_cursor.specs.Sequences.{checking, in_group, one_then, giving, keyword}
use Rattle.ppddl_forms.specs.declared.symbols.TheConstants.{DASH}
use Rattle.ppddl_forms.specs.Variables.{variables}
use Rattle.ppddl_reader.specs.declared.sections.symbols.TheConstants.{NUMBER}
use Rattle.ppddl_reader.specs.sections.Predicates.{declaration, new_function, function, ListedFunctions, listed_so, another_function, functions_wait, numbers, all_functions, functions_behind}
use Rattle.ppddl_reader.specs.sections.Sequences.{is_dash, typed_list, typing_behind}
use Rattle.ppddl_form_grammar.proofs.lemmas.forms.Parts.{by_test, same_word, on_true, on_false, keyword_ok}
use Rattle.ppddl_grammar.specs.fits.Fitting.{with_functions}
use Rattle.ppddl_grammar.specs.sections.Declarations as by
use Rattle.ppddl_grammar.specs.sections.Declarations.{AreNew, IsDeclaration, Functions}
use Rattle.ppddl_grammar.specs.sections.Laws.{FunctionsAreDerived, FunctionsAreAccepted}
use Rattle.ppddl_grammar.proofs.lemmas.sections.Declarations.{new_in, name-derived, name-accepted, list-of, list-read, declaration-on}

-- ---- one function

module _ (d : Declared) where
  function-derived : (f : Form) (e : Declared) → function d f ≡ Ok e
      → (p : PredicateDecl) × (with_function d p ≡ e) × IsDeclaration d f p × (predicate_named d.functions p.name ≡ None)
  unfolding function new_function in_group one_then giving checking
  function-derived (lone w a) e is = absurd cc
  function-derived (group a none b) e is = absurd cc
  function-derived (group a (more f fs) b) e is =
      let r = bind_ok (new_in d.functions f) (λ w. variables d fs b >>= λ params. Ok (with_function d (declaration w params))) e is in
      let q = bind_ok (variables d fs b) (λ params. Ok (with_function d (declaration r.0 params))) e r.2 in
      let new = name-derived d.functions f r.0 r.1 in
      (declaration r.0 q.0, ok_is {E = Fault} (with_function d (declaration r.0 q.0)) e q.2, by.declared new.0 (list-of d a fs b q.0 q.1), new.1)

  function-accepted : (f : Form) (p : PredicateDecl) → IsDeclaration d f p → predicate_named d.functions p.name ≡ None → function d f ≡ Ok (with_function d p)
  unfolding function new_function in_group one_then giving checking
  function-accepted f p (by.declared {a = a} {b = b} {f = g} {fs = fs} {w = w} {ps = ps} named list) new =
      ap (λ r. r >>= λ v. variables d fs b >>= λ params. Ok (with_function d (declaration v params))) (name-accepted d.functions g w (named, new))
      ∙ ap (λ r. r >>= λ params. Ok (with_function d (declaration w params))) (list-read d a fs b ps list)

  -- a declaration is no `-`
  no_dash : (f : Form) (p : PredicateDecl) → IsDeclaration d f p → is_dash f ≡ false
  no_dash f p (by.declared named list) = refl

-- ---- over the same types

functions-on : (d e : Declared) → d.types ≡ e.types → (wait : Bool) (fs : Forms) (ps : List PredicateDecl) → Functions d wait fs ps → Functions e wait fs ps
functions-on d e same wait fs ps by.no_function = by.no_function
functions-on d e same wait fs ps (by.another {f = f} {fs = gs} {p = p} {ps = others} is rest) =
    by.another (declaration-on d e same f p is) (functions-on d e same true gs others rest)
functions-on d e same wait fs ps (by.numbers {fs = gs} rest) = by.numbers (functions-on d e same false gs ps rest)

-- ---- what is read

abbrev Reads : ListedFunctions → Forms → Declared → Type 0
Reads s fs e = (ps : List PredicateDecl) × (e ≡ with_functions s.declared ps) × Functions s.declared s.wait fs ps × AreNew s.declared.functions ps

-- behind a `-`: `number`, and more functions
abbrev Numbers : ListedFunctions → Forms → Declared → Type 0
Numbers s fs e = (c : Place) × (gs : Forms) × (fs ≡ more (lone NUMBER.now c) gs) × Reads (listed_so s.declared false) gs e

nothing_more : (s : ListedFunctions) (e : Declared) → s.declared ≡ e → Reads s none e
nothing_more s e same = ([], sym same ∙ ap (λ l. record s.declared { functions = l }) (sym (append-nil s.declared.functions)), by.no_function, tt)

one_more : (s : ListedFunctions) (f : Form) (fs : Forms) (e : Declared) (t : ListedFunctions) → another_function s f ≡ Ok t → Reads t fs e → Reads s (more f fs) e
unfolding another_function checking
one_more s f fs e t is =
    let r = bind_ok (function s.declared f) (λ d. Ok (listed_so d true)) t is in
    let p = function-derived s.declared f r.0 r.1 in
    let same : listed_so (with_function s.declared p.0) true ≡ t = ap (λ d. listed_so d true) p.1 ∙ ok_is {E = Fault} (listed_so r.0 true) t r.2 in
    subst (λ v. Reads v fs e → Reads s (more f fs) e) same
    (λ others. (
      p.0 ∷ others.0,
      others.1 ∙ ap (λ l. record s.declared { functions = l }) (append_assoc s.declared.functions (p.0 ∷ []) others.0),
      by.another p.2 (functions-on (with_function s.declared p.0) s.declared refl true fs others.0 others.2),
      (p.3, others.3),
    ))

waits : (s : ListedFunctions) (a : Place) (u : Unit {0}) → functions_wait s a ≡ Ok u → s.wait ≡ true
waits s a u is = (test_passes s.wait tt _ u is).0

dashed : (s : ListedFunctions) (w : List ℕ) (a : Place) (fs : Forms) (e : Declared) → w ≡ DASH.now → s.wait ≡ true → Numbers s fs e → Reads s (more (lone w a) fs) e
dashed s w a fs e dash wait numbered =
    let typed : Functions s.declared true (more (lone DASH.now a) (more (lone NUMBER.now numbered.0) numbered.1)) numbered.3.0 = by.numbers numbered.3.2 in
    let waiting : Functions s.declared s.wait (more (lone DASH.now a) (more (lone NUMBER.now numbered.0) numbered.1)) numbered.3.0
    = subst (λ v. Functions s.declared v (more (lone DASH.now a) (more (lone NUMBER.now numbered.0) numbered.1)) numbered.3.0) (sym wait) typed in
    let spelled : Functions s.declared s.wait (more (lone DASH.now a) fs) numbered.3.0
    = subst (λ gs. Functions s.declared s.wait (more (lone DASH.now a) gs) numbered.3.0) (sym numbered.2) waiting in
    (numbered.3.0, numbered.3.1, subst (λ v. Functions s.declared s.wait (more (lone v a) fs) numbered.3.0) (sym dash) spelled, numbered.3.3)

no_word : (s : ListedFunctions) (w : List ℕ) (a : Place) (t : ListedFunctions) → another_function s (lone w a) ≡ Ok t → ⊥
unfolding another_function checking function in_group
no_word s w a t is = cc

number_more : (s : ListedFunctions) (g : Form) (gs : Forms) (e : Declared) (t : ListedFunctions) → numbers s g ≡ Ok t → Reads t gs e → Numbers s (more g gs) e
unfolding numbers checking
number_more s g gs e t is reads =
    let q = bind_ok (keyword NUMBER.now g) (λ u. Ok (listed_so s.declared false)) t is in
    let others : Reads (listed_so s.declared false) gs e = subst (λ v. Reads v gs e) (sym (ok_is {E = Fault} (listed_so s.declared false) t q.2)) reads in
    keyword_ok NUMBER.now (λ h. Numbers s (more h gs) e) (λ c. (c, gs, refl, others)) g q.0 q.1

abbrev Rest : ListedFunctions → Forms → Place → Result Declared Fault
Rest = typing_behind another_function functions_wait numbers all_functions

mutual
  unfolding typed_list typing_behind

  behind-derived : (s : ListedFunctions) (fs : Forms) (b : Place) (e : Declared) → functions_behind s fs b ≡ Ok e → Reads s fs e
  behind-derived s none b e is = nothing_more s e (ok_is {E = Fault} s.declared e is)
  behind-derived s (more (group a gs c) fs) b e is =
      let r = bind_ok (another_function s (group a gs c)) (λ t. functions_behind t fs b) e is in
      one_more s (group a gs c) fs e r.0 r.1 (behind-derived r.0 fs b e r.2)
  behind-derived s (more (lone w a) fs) b e is = by_test (same w DASH.now)
      (λ yes.
      let r = bind_ok (functions_wait s a) (λ u. Rest s fs b) e
      (on_true (same w DASH.now) (functions_wait s a >>= λ u. Rest s fs b) (another_function s (lone w a) >>= λ t. functions_behind t fs b) (Ok e) yes is) in
      dashed s w a fs e (same_word w DASH.now yes) (waits s a r.0 r.1) (numbers-derived s fs b e r.2))
      (λ no.
      let r = bind_ok (another_function s (lone w a)) (λ t. functions_behind t fs b) e
      (on_false (same w DASH.now) (functions_wait s a >>= λ u. Rest s fs b) (another_function s (lone w a) >>= λ t. functions_behind t fs b) (Ok e) no is) in
      absurd (no_word s w a r.0 r.1))

  numbers-derived : (s : ListedFunctions) (fs : Forms) (b : Place) (e : Declared) → Rest s fs b ≡ Ok e → Numbers s fs e
  numbers-derived s none b e is = absurd cc
  numbers-derived s (more g gs) b e is =
      let r = bind_ok (numbers s g) (λ t. functions_behind t gs b) e is in number_more s g gs e r.0 r.1 (behind-derived r.0 gs b e r.2)

pub functions-derived : FunctionsAreDerived
functions-derived d fs b e is =
    let r = behind-derived (listed_so d false) fs b e is in (r.0, r.1, record { listed = r.2; new = r.3 })

-- ---- what is spelled

behind-accepted : (d : Declared) (s : ListedFunctions) → d.types ≡ s.declared.types → (wait : Bool) (fs : Forms) (ps : List PredicateDecl) → Functions d wait fs ps
    → s.wait ≡ wait → AreNew s.declared.functions ps → (b : Place) → functions_behind s fs b ≡ Ok (with_functions s.declared ps)
unfolding typed_list typing_behind another_function numbers checking keyword
behind-accepted d s same_types wait fs ps by.no_function is new b = ap (λ l. Ok (record s.declared { functions = l })) (sym (append-nil s.declared.functions))
behind-accepted d s same_types wait fs ps (by.another {f = f} {fs = gs} {p = p} {ps = others} one rest) is new b =
    ap (λ t. cond t (functions_wait s (begin_of f) >>= λ u. Rest s gs b) (another_function s f >>= λ t. functions_behind t gs b)) (no_dash d f p one)
    ∙ ap (λ r. (r >>= λ e. Ok (listed_so e true)) >>= λ t. functions_behind t gs b) (function-accepted s.declared f p (declaration-on d s.declared same_types f p one) new.0)
    ∙ behind-accepted d (listed_so (with_function s.declared p) true) same_types true gs others rest refl new.1 b
    ∙ ap (λ l. Ok (record s.declared { functions = l })) (append_assoc s.declared.functions (p ∷ []) others)
behind-accepted d s same_types wait fs ps (by.numbers {a = a} {c = c} {fs = gs} rest) is new b =
    ap (λ t. cond t (Ok tt) (fails Expected a) >>= λ u. Rest s (more (lone NUMBER.now c) gs) b) is
    ∙ behind-accepted d (listed_so s.declared false) same_types false gs ps rest refl new b

pub functions-accepted : FunctionsAreAccepted
functions-accepted d fs b ps spelled = behind-accepted d (listed_so d false) refl false fs ps spelled.listed refl spelled.new b
