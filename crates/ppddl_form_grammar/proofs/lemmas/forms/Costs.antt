-- Functions and costs: what is accepted is derived, and what is derived is accepted.
use Rattle.std.proofs.Common.{◌≡◌, ℕ, List, [], ◌∷◌, length, true, ◌==◌, Option, Some, None, Ok, refl, sym, subst, arith}
use Rattle.std.proofs.lemmas.Bool.{eqb-true, le-ltb}
use Rattle.plain_list.proofs.Results.{bind_ok, ok_is, test_passes}
use Rattle.ppddl_lex.specs.declared.keywords.TheConstants.{REWARD}
use Rattle.ppddl_lex.specs.Words.{is_name}
use Rattle.ppddl_model.specs.declared.limits.TheConstants.{MOST_COST}
use Rattle.ppddl_model.specs.declared.tree.Atom.{Atom}
use Rattle.ppddl_model.specs.declared.tree.Effect.{Effect}
use Rattle.ppddl_model.specs.declared.tree.Effect.TheVariants as tree
use Rattle.ppddl_model.specs.declared.tree.Param.{Param}
use Rattle.ppddl_model.specs.declared.tree.PredicateDecl.{PredicateDecl}
use Rattle.ppddl_forms.specs.names.Declarations.{Declared, predicate_named}
use Rattle.ppddl_cursor.specs.declared.place.Place.{Place}
use Rattle.ppddl_cursor.specs.Forms.{Form, Forms, lone, group, none, more}
use Rattle.ppddl_cursor.specs.Reading.{Fault}
use Rattle.ppddl_cursor.specs.Sequences.{of_word, word_or_group, in_group, group_with, one_then, last, giving, checking, keyword}
use Rattle.ppddl_forms.specs.declared.name.Name.{Name}
use Rattle.ppddl_forms.specs.Sequences.{by_word}
use Rattle.ppddl_forms.specs.Terms.{Scope, atom_of, applied, application}
use Rattle.ppddl_forms.specs.Words.{name, amount, reward}
use Rattle.ppddl_forms.specs.Costs.{bare, bare_function, function_in, function_group, is_named, amount_cost, function_cost, word_cost, group_cost, cost_value}
use Rattle.ppddl_form_grammar.specs.forms.Words as word
use Rattle.ppddl_form_grammar.specs.forms.Words.{IsReward}
use Rattle.ppddl_form_grammar.specs.forms.Terms as by
use Rattle.ppddl_form_grammar.specs.forms.Terms.{Arguments, Application, IsFunction}
use Rattle.ppddl_form_grammar.specs.forms.Effects as effect_by
use Rattle.ppddl_form_grammar.specs.forms.Effects.{IsCost}
use Rattle.ppddl_form_grammar.proofs.lemmas.forms.Parts.{by_test, on_true, on_false, name_is, then_ok, last_ok, giving_ok, keyword_ok, amount_derived}
use Rattle.ppddl_form_grammar.proofs.lemmas.forms.Terms.{application_ok, arguments_accepted}

-- ---- the reward

pub reward_derived : (f : Form) (u : Unit {0}) → reward f ≡ Ok u → IsReward f
unfolding reward word_or_group group_with in_group
reward_derived (lone w a) u is = keyword_ok REWARD.now IsReward (λ c. word.bare) (lone w a) u is
reward_derived (group a fs b) u is = then_ok (keyword REWARD.now) (λ v. last tt) b (λ gs v. IsReward (group a gs b))
    (λ f v key gs x end.
    let l = last_ok tt x gs b end in
    subst (λ hs. IsReward (group a (more f hs) b)) (sym l.0) (keyword_ok REWARD.now (λ g. IsReward (group a (more g none) b)) (λ c. word.grouped) f v key)) fs u is

pub reward_accepted : (f : Form) → IsReward f → reward f ≡ Ok tt
unfolding reward word_or_group group_with in_group one_then keyword last
reward_accepted f word.bare = refl
reward_accepted f word.grouped = refl

no_params : (ps : List Param) → (length ps == 0) ≡ true → ps ≡ []
no_params [] is = refl
no_params (p ∷ ps) is = absurd (let e : length (p ∷ ps) ≡ 0 = eqb-true (length (p ∷ ps)) 0 is in cc)

module _ (d : Declared) (s : Scope) where
  -- ---- functions

  pub function_in_derived : (fs : Forms) (b : Place) (y : Atom × Place) → function_in d s fs b ≡ Ok y → Application d s d.functions fs y.0
  unfolding function_in
  function_in_derived fs b = then_ok name (λ n. giving (λ x. (x, n.place)) (application d s n (predicate_named d.functions n.text))) b (λ gs y. Application d s d.functions gs y.0)
      (name_is (λ f n. (gs : Forms) (y : Atom × Place) → giving (λ x. (x, n.place)) (application d s n (predicate_named d.functions n.text)) gs b ≡ Ok y → Application d s d.functions (more f gs) y.0)
      (λ w a named gs y is.
      let n : Name = record { text = w; place = a } in
      let g = giving_ok (λ x. (x, a)) (application d s n (predicate_named d.functions w)) gs b y is in
      subst (λ (z : Atom × Place). Application d s d.functions (more (lone w a) gs) z.0) g.2 (application_ok d s d.functions w a named (predicate_named d.functions w) refl gs b g.0 g.1))) fs

  pub function_in_accepted : (fs : Forms) (b : Place) (x : Atom) → Application d s d.functions fs x → (a : Place) × (function_in d s fs b ≡ Ok (x, a))
  unfolding function_in one_then name of_word giving application applied
  function_in_accepted fs b x (by.application {w = w} {a = a} {fs = gs} {p = p} {ts = ts} named at args) =
      (a, rw (named, at, arguments_accepted d s p.params gs b ts args) refl)

  bare_ok : (w : List ℕ) (a : Place) → is_name w ≡ true → (r : Option PredicateDecl) → predicate_named d.functions w ≡ r → (y : Atom × Place)
      → bare (record { text = w; place = a }) r ≡ Ok y → IsFunction d s (lone w a) y.0
  bare_ok w a named None at y is = absurd cc
  bare_ok w a named (Some p) at y is =
      let n : Name = record { text = w; place = a } in
      let t = test_passes (length p.params == 0) (atom_of n [], a) _ y is in
      let args : Arguments d s none p.params [] = subst (λ ps. Arguments d s none ps []) (sym (no_params p.params t.0)) by.no_argument in
      subst (λ (z : Atom × Place). IsFunction d s (lone w a) z.0) t.1 (by.bare (by.application named at args))

  pub bare_derived : (f : Form) (y : Atom × Place) → bare_function d f ≡ Ok y → IsFunction d s f y.0
  unfolding bare_function checking
  bare_derived f y is =
      let r = bind_ok (name f) (λ n. bare n (predicate_named d.functions n.text)) y is in
      name_is (λ g n. bare n (predicate_named d.functions n.text) ≡ Ok y → IsFunction d s g y.0) (λ w a named. bare_ok w a named (predicate_named d.functions w) refl y) f r.0 r.1 r.2

  none_given : (ps : List Param) (ts : List _) → Arguments d s none ps ts → (ps ≡ []) × (ts ≡ [])
  none_given ps ts by.no_argument = (refl, refl)

  pub bare_accepted : (w : List ℕ) (a : Place) (x : Atom) → Application d s d.functions (more (lone w a) none) x → bare_function d (lone w a) ≡ Ok (x, a)
  unfolding bare_function checking name of_word
  bare_accepted w a x (by.application {p = p} {ts = ts} named at args) =
      let e = none_given p.params ts args in
      rw (named, at, e.0, e.1) refl

  -- ---- costs

  word_cost_derived : (w : List ℕ) (a : Place) (e : Effect) → word_cost d (lone w a) ≡ Ok e → IsCost d s (lone w a) e
  unfolding word_cost by_word function_cost amount_cost checking
  word_cost_derived w a e is = by_test (is_named w)
      (λ yes.
      let r = bind_ok (bare_function d (lone w a)) (λ x. Ok (tree.CostOf x.0)) e (on_true (is_named w) (function_cost d (lone w a)) _ (Ok e) yes is) in
      subst (IsCost d s (lone w a)) (ok_is {E = Fault} (tree.CostOf r.0.0) e r.2) (effect_by.function (bare_derived (lone w a) r.0 r.1)))
      (λ no.
      let r = bind_ok (amount 0 MOST_COST (lone w a)) (λ n. Ok (tree.Cost n)) e (on_false (is_named w) (function_cost d (lone w a)) _ (Ok e) no is) in
      subst (IsCost d s (lone w a)) (ok_is {E = Fault} (tree.Cost r.0) e r.2) (effect_by.amount no (amount_derived MOST_COST w a r.0 r.1)))

  pub cost_derived : (f : Form) (e : Effect) → cost_value d s f ≡ Ok e → IsCost d s f e
  unfolding cost_value word_or_group group_cost function_group checking in_group
  cost_derived (lone w a) e is = word_cost_derived w a e is
  cost_derived (group a fs b) e is =
      let r = bind_ok (function_in d s fs b) (λ x. Ok (tree.CostOf x.0)) e is in
      subst (IsCost d s (group a fs b)) (ok_is {E = Fault} (tree.CostOf r.0.0) e r.2) (effect_by.function (by.applied (function_in_derived fs b r.0 r.1)))

  named_word : (w : List ℕ) → is_name w ≡ true → is_named w ≡ true
  named_word w named = rw named refl

  pub cost_accepted : (f : Form) (e : Effect) → IsCost d s f e → cost_value d s f ≡ Ok e
  unfolding cost_value word_or_group word_cost by_word function_cost amount_cost group_cost function_group checking in_group amount of_word
  cost_accepted f e (effect_by.amount {n = n} other is) = rw (other, is, le-ltb n 0 (omega arith)) refl
  cost_accepted f e (effect_by.function (by.applied {b = b} {fs = fs} {x = x} app)) = let r = function_in_accepted fs b x app in rw r.1 refl
  cost_accepted f e (effect_by.function (by.bare {w = w} {a = a} {x = x} (by.application named at args))) =
      rw (named_word w named, bare_accepted w a x (by.application named at args)) refl
