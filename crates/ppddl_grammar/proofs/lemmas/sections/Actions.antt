-- Actions: what is read is what is spelled.
--     field-cases      what holds of a field that may stand
use Rattle.std.proofs.Common.{◌≡◌, ℕ, false, cond, List, Option, Some, None, is_some, Result, Ok, refl, sym, ap, subst, ◌∙◌}
use Rattle.std.specs.List.{list_any}
use Rattle.plain_list.specs.Results.{◌>>=◌}
use Rattle.plain_list.proofs.Results.{bind_ok, ok_is, test_fails}
use Rattle.ppddl_lex.specs.declared.keywords.TheConstants.{EFFECT_FLAG}
use Rattle.ppddl_model.specs.declared.refusal.TextCode.TheVariants.{Twice}
use Rattle.ppddl_model.specs.declared.tree.Action.{Action}
use Rattle.ppddl_forms.specs.names.Declarations.{Declared}
use Rattle.ppddl_cursor.specs.declared.place.Place.{Place}
use Rattle.ppddl_cursor.specs.Ahead.{same}
use Rattle.ppddl_cursor.specs.Forms.{Form, Forms, lone, group, none, more}
use Rattle.ppddl_cursor.specs.Reading.{Fault, fails}
use Rattle.ppddl_cursor.specs.Sequences.{of_word, checking, one_then, giving}
use Rattle.ppddl_forms.specs.declared.name.Name.{Name}
use Rattle.ppddl_forms.specs.Conditions.{condition}
use Rattle.ppddl_forms.specs.Effects.{effect}
use Rattle.ppddl_forms.specs.Variables.{variable_list}
use Rattle.ppddl_forms.specs.Words.{name}
use Rattle.ppddl_forms.specs.items.Sequences.{pairs, second_of}
use Rattle.ppddl_reader.specs.declared.sections.action_draft.ActionDraft.{ActionDraft}
use Rattle.ppddl_reader.specs.declared.sections.field.Field.{Field}
use Rattle.ppddl_reader.specs.declared.sections.field.Field.TheVariants as field_named
use Rattle.ppddl_reader.specs.declared.sections.symbols.TheConstants.{PARAMETERS_FLAG, PRECONDITION_FLAG}
use Rattle.ppddl_reader.specs.sections.Actions.{field_of, no_fields, new_field, field, scope_of, with_params, with_condition, with_effect}
use Rattle.ppddl_reader.specs.sections.Actions.{params_field, condition_field, effect_field, field_value, fields, not_seen, new_action, action_of, action}
use Rattle.ppddl_form_grammar.proofs.lemmas.forms.Conditions.{condition_derived, condition_accepted}
use Rattle.ppddl_form_grammar.proofs.lemmas.forms.Effects.{effect_derived, effect_accepted}
use Rattle.ppddl_form_grammar.proofs.lemmas.forms.Lists.{list_derived, list_accepted}
use Rattle.ppddl_form_grammar.proofs.lemmas.forms.Parts.{by_test, same_word, pass, name_is}
use Rattle.ppddl_grammar.specs.sections.Actions as by
use Rattle.ppddl_grammar.specs.sections.Actions.{Fields, IsAction}
use Rattle.ppddl_grammar.specs.sections.Laws.{ActionIsDerived, ActionIsAccepted}

none_is : {A : Type 0} (o : Option A) → is_some o ≡ false → o ≡ None
none_is None is = refl
none_is (Some x) is = absurd cc

-- ---- the flags of fields

module _ (s : ActionDraft) (P : Form → Field → Type 0)
    (params : (a : Place) → s.params ≡ None → P (lone PARAMETERS_FLAG.now a) field_named.Parameters)
    (precondition : (a : Place) → s.condition ≡ None → P (lone PRECONDITION_FLAG.now a) field_named.Precondition)
    (does : (a : Place) → s.effect ≡ None → P (lone EFFECT_FLAG.now a) field_named.Effect) where
  abbrev At : Place → Field → List ℕ → Type 0
  At a k w = new_field s (field_of w) a ≡ Ok k → P (lone w a) k

  at_params : (a : Place) (k : Field) → At a k PARAMETERS_FLAG.now
  at_params a k is =
      let t = test_fails (is_some s.params) _ (Ok field_named.Parameters) k is in
      subst (P (lone PARAMETERS_FLAG.now a)) (ok_is {E = Fault} field_named.Parameters k t.1) (params a (none_is s.params t.0))

  at_precondition : (a : Place) (k : Field) → At a k PRECONDITION_FLAG.now
  at_precondition a k is =
      let t = test_fails (is_some s.condition) _ (Ok field_named.Precondition) k is in
      subst (P (lone PRECONDITION_FLAG.now a)) (ok_is {E = Fault} field_named.Precondition k t.1) (precondition a (none_is s.condition t.0))

  at_effect : (a : Place) (k : Field) → At a k EFFECT_FLAG.now
  at_effect a k is =
      let t = test_fails (is_some s.effect) _ (Ok field_named.Effect) k is in
      subst (P (lone EFFECT_FLAG.now a)) (ok_is {E = Fault} field_named.Effect k t.1) (does a (none_is s.effect t.0))

  no_flag : (w : List ℕ) → same w PARAMETERS_FLAG.now ≡ false → same w PRECONDITION_FLAG.now ≡ false → same w EFFECT_FLAG.now ≡ false → field_of w ≡ None
  no_flag w one two three =
      pass (same w PARAMETERS_FLAG.now) (Some field_named.Parameters) _ None one
      (pass (same w PRECONDITION_FLAG.now) (Some field_named.Precondition) _ None two (pass (same w EFFECT_FLAG.now) (Some field_named.Effect) _ None three refl))

  not_a_field : (w : List ℕ) (a : Place) (k : Field) → field_of w ≡ None → At a k w
  not_a_field w a k unknown is = absurd (refused (sym (ap (λ o. new_field s o a) unknown) ∙ is))
    where
      refused : new_field s None a ≡ Ok k → ⊥
      refused is = cc

  field-cases : (f : Form) (k : Field) → field s f ≡ Ok k → P f k
  unfolding field of_word
  field-cases (lone w a) k is = by_test (same w PARAMETERS_FLAG.now)
      (λ yes. subst (At a k) (sym (same_word w PARAMETERS_FLAG.now yes)) (at_params a k) is)
      (λ one. by_test (same w PRECONDITION_FLAG.now)
      (λ yes. subst (At a k) (sym (same_word w PRECONDITION_FLAG.now yes)) (at_precondition a k) is)
      (λ two. by_test (same w EFFECT_FLAG.now)
      (λ yes. subst (At a k) (sym (same_word w EFFECT_FLAG.now yes)) (at_effect a k) is)
      (λ three. not_a_field w a k (no_flag w one two three) is)))
  field-cases (group a fs b) k is = absurd cc

-- ---- fields

pairs-step : {S A : Type 0} (first : S → Form → Result A Fault) (second : S → A → Form → Result S Fault) (s : S) (f : Form) (x : A) (g : Form) (u : S) (fs : Forms) (b : Place)
    → first s f ≡ Ok x → second s x g ≡ Ok u → pairs first second s (more f (more g fs)) b ≡ pairs first second u fs b
unfolding pairs second_of
pairs-step first second s f x g u fs b one other = rw (one, other) refl

module _ (d : Declared) where
  -- what is known of a field's flag, its value and what stands behind them
  abbrev Behind : ActionDraft → Form → Field → Type 0
  Behind s f k = (g : Form) (gs : Forms) (u t : ActionDraft) → field_value d s k g ≡ Ok u → Fields d u gs t → Fields d s (more f (more g gs)) t

  params-derived : (s : ActionDraft) (a : Place) → s.params ≡ None → Behind s (lone PARAMETERS_FLAG.now a) field_named.Parameters
  unfolding params_field checking
  params-derived s a new g gs u t is rest =
      let r = bind_ok (variable_list d g) (λ ps. Ok (with_params s ps)) u is in
      by.parameters new (list_derived d g r.0 r.1) (subst (λ v. Fields d v gs t) (sym (ok_is {E = Fault} (with_params s r.0) u r.2)) rest)

  condition-derived : (s : ActionDraft) (a : Place) → s.condition ≡ None → Behind s (lone PRECONDITION_FLAG.now a) field_named.Precondition
  unfolding condition_field checking
  condition-derived s a new g gs u t is rest =
      let r = bind_ok (condition d (scope_of s) g) (λ c. Ok (with_condition s c)) u is in
      by.precondition new (condition_derived d (scope_of s) g r.0 r.1) (subst (λ v. Fields d v gs t) (sym (ok_is {E = Fault} (with_condition s r.0) u r.2)) rest)

  effect-derived : (s : ActionDraft) (a : Place) → s.effect ≡ None → Behind s (lone EFFECT_FLAG.now a) field_named.Effect
  unfolding effect_field checking
  effect-derived s a new g gs u t is rest =
      let r = bind_ok (effect d (scope_of s) g) (λ e. Ok (with_effect s e)) u is in
      by.effect new (effect_derived d (scope_of s) g r.0 r.1) (subst (λ v. Fields d v gs t) (sym (ok_is {E = Fault} (with_effect s r.0) u r.2)) rest)

  behind-derived : (s : ActionDraft) (f : Form) (k : Field) → field s f ≡ Ok k → Behind s f k
  behind-derived s = field-cases s (Behind s) (params-derived s) (condition-derived s) (effect-derived s)

  mutual
    unfolding pairs second_of fields

    fields-derived : (s : ActionDraft) (fs : Forms) (b : Place) (t : ActionDraft) → fields d s fs b ≡ Ok t → Fields d s fs t
    fields-derived s none b t is = subst (Fields d s none) (ok_is {E = Fault} s t is) by.no_field
    fields-derived s (more f fs) b t is =
        let r = bind_ok (field s f) (λ k. second_of field (field_value d) s k fs b) t is in second-derived s f r.0 fs b t r.1 r.2

    second-derived : (s : ActionDraft) (f : Form) (k : Field) (fs : Forms) (b : Place) (t : ActionDraft) → field s f ≡ Ok k
        → second_of field (field_value d) s k fs b ≡ Ok t → Fields d s (more f fs) t
    second-derived s f k none b t flag is = absurd cc
    second-derived s f k (more g gs) b t flag is =
        let r = bind_ok (field_value d s k g) (λ u. fields d u gs b) t is in behind-derived s f k flag g gs r.0 t r.1 (fields-derived r.0 gs b t r.2)

  -- a field that did not stand yet may stand
  params-flag : (s : ActionDraft) (a : Place) → s.params ≡ None → field s (lone PARAMETERS_FLAG.now a) ≡ Ok field_named.Parameters
  unfolding field of_word
  params-flag s a new = ap (λ o. cond (is_some o) (fails Twice a) (Ok field_named.Parameters)) new

  condition-flag : (s : ActionDraft) (a : Place) → s.condition ≡ None → field s (lone PRECONDITION_FLAG.now a) ≡ Ok field_named.Precondition
  unfolding field of_word
  condition-flag s a new = ap (λ o. cond (is_some o) (fails Twice a) (Ok field_named.Precondition)) new

  effect-flag : (s : ActionDraft) (a : Place) → s.effect ≡ None → field s (lone EFFECT_FLAG.now a) ≡ Ok field_named.Effect
  unfolding field of_word
  effect-flag s a new = ap (λ o. cond (is_some o) (fails Twice a) (Ok field_named.Effect)) new

  fields-accepted : (s : ActionDraft) (fs : Forms) (t : ActionDraft) → Fields d s fs t → (b : Place) → fields d s fs b ≡ Ok t
  unfolding fields pairs params_field condition_field effect_field checking
  fields-accepted s fs t by.no_field b = refl
  fields-accepted s fs t (by.parameters {a = a} {f = f} {fs = gs} {ps = ps} new list rest) b =
      pairs-step field (field_value d) s (lone PARAMETERS_FLAG.now a) field_named.Parameters f (with_params s ps) gs b (params-flag s a new)
      (ap (λ r. r >>= λ x. Ok (with_params s x)) (list_accepted d f ps list)) ∙ fields-accepted (with_params s ps) gs t rest b
  fields-accepted s fs t (by.precondition {a = a} {f = f} {fs = gs} {c = c} new is rest) b =
      pairs-step field (field_value d) s (lone PRECONDITION_FLAG.now a) field_named.Precondition f (with_condition s c) gs b (condition-flag s a new)
      (ap (λ r. r >>= λ x. Ok (with_condition s x)) (condition_accepted d (scope_of s) f c is)) ∙ fields-accepted (with_condition s c) gs t rest b
  fields-accepted s fs t (by.effect {a = a} {f = f} {fs = gs} {e = e} new is rest) b =
      pairs-step field (field_value d) s (lone EFFECT_FLAG.now a) field_named.Effect f (with_effect s e) gs b (effect-flag s a new)
      (ap (λ r. r >>= λ x. Ok (with_effect s x)) (effect_accepted d (scope_of s) f e is)) ∙ fields-accepted (with_effect s e) gs t rest b

  -- ---- actions

  named-derived : (f : Form) (n : Name) → name f ≡ Ok n → (fs : Forms) (s : ActionDraft) → Fields d no_fields fs s → IsAction d (more f fs) (action_of n s)
  named-derived = name_is (λ f n. (fs : Forms) (s : ActionDraft) → Fields d no_fields fs s → IsAction d (more f fs) (action_of n s)) (λ w a named fs s spelled. by.action named spelled)

pub action-derived : ActionIsDerived
unfolding action new_action one_then giving checking
action-derived d seen none b a is = absurd cc
action-derived d seen (more f fs) b a is =
    let r = bind_ok (name f >>= not_seen seen) (λ n. fields d no_fields fs b >>= λ s. Ok (action_of n s)) a is in
    let n = bind_ok (name f) (not_seen seen) r.0 r.1 in
    let t = test_fails (list_any (same n.0.text) seen) _ (Ok n.0) r.0 n.2 in
    let q = bind_ok (fields d no_fields fs b) (λ s. Ok (action_of r.0 s)) a r.2 in
    let word : n.0 ≡ r.0 = ok_is {E = Fault} n.0 r.0 t.1 in
    let whole : action_of r.0 q.0 ≡ a = ok_is {E = Fault} (action_of r.0 q.0) a q.2 in
    let spelled = fields-derived d no_fields fs b q.0 q.1 in (
      subst (IsAction d (more f fs)) whole (named-derived d f r.0 (subst (λ m. name f ≡ Ok m) word n.1) fs q.0 spelled),
      subst (λ (x : Action). list_any (same x.name) seen ≡ false) whole (subst (λ m. list_any (same m.text) seen ≡ false) word t.0),
    )

pub action-accepted : ActionIsAccepted
unfolding action new_action one_then giving checking name of_word
action-accepted d seen fs b a (by.action {w = w} {a = at} {fs = gs} {s = s} named spelled) new = rw (named, new, fields-accepted d no_fields gs s spelled b) refl
