-- Actions that are read fit, draw by probabilities, and have new names.
--     DraftFits d s       what is known of an action while its fields are read
use Rattle.std.proofs.Common.{◌≡◌, ℕ, true, false, ◌&&◌, List, [], ◌∷◌, ◌++◌, Option, Some, None, is_some, Ok, refl, sym, subst, ◌∙◌, append-nil}
use Rattle.std.specs.List.{list_any}
use Rattle.std.proofs.lemmas.Bool.{and_parts, and_from}
use Rattle.plain_list.specs.Results.{◌>>=◌}
use Rattle.plain_list.proofs.Results.{bind_ok, ok_is, test_fails}
use Rattle.ppddl_model.specs.declared.tree.Action.{Action}
use Rattle.ppddl_model.specs.declared.tree.Condition.{Condition}
use Rattle.ppddl_model.specs.declared.tree.Condition.TheVariants as condition_of
use Rattle.ppddl_model.specs.declared.tree.Effect.{Effect}
use Rattle.ppddl_model.specs.declared.tree.Effect.TheVariants as effect_of
use Rattle.ppddl_model.specs.declared.tree.Param.{Param}
use Rattle.ppddl_model.specs.Draws.{EachDraw}
use Rattle.ppddl_model.specs.WellFormed.{is_plain, are_distinct, params_fit, condition_fits, effect_fits, action_fits, AreProbabilities}
use Rattle.ppddl_forms.specs.names.Declarations.{Declared, world_of}
use Rattle.ppddl_cursor.specs.declared.place.Place.{Place}
use Rattle.ppddl_cursor.specs.Ahead.{same}
use Rattle.ppddl_cursor.specs.Forms.{Form, Forms, lone, group, none, more}
use Rattle.ppddl_cursor.specs.Reading.{Fault}
use Rattle.ppddl_cursor.specs.Sequences.{of_word, checking, in_group, one_then, giving}
use Rattle.ppddl_forms.specs.declared.name.Name.{Name}
use Rattle.ppddl_forms.specs.Conditions.{condition, condition_in}
use Rattle.ppddl_forms.specs.Effects.{effect, effect_in}
use Rattle.ppddl_forms.specs.Variables.{variable_list}
use Rattle.ppddl_forms.specs.Words.{name}
use Rattle.ppddl_reader.specs.declared.sections.action_draft.ActionDraft.{ActionDraft}
use Rattle.ppddl_reader.specs.declared.sections.field.Field.{Field}
use Rattle.ppddl_reader.specs.declared.sections.field.Field.TheVariants as field_named
use Rattle.ppddl_reader.specs.sections.Actions.{field_of, no_fields, has_field, new_field, field, params_given, condition_given, effect_given, scope_of, with_params, with_condition, with_effect}
use Rattle.ppddl_reader.specs.sections.Actions.{params_field, condition_field, effect_field, field_value, fields, not_seen, new_action, action_of, action}
use Rattle.ppddl_form_grammar.specs.fits.Growth.{domain_of}
use Rattle.ppddl_form_grammar.proofs.lemmas.fits.Declared.{distinct-grows, name_is_plain}
use Rattle.ppddl_form_grammar.proofs.lemmas.fits.Reading.{condition-fits, effect-fits, effect-draws}
use Rattle.ppddl_form_grammar.proofs.lemmas.fits.Atoms.{IsLater, params_fit-grows}
use Rattle.ppddl_form_grammar.proofs.lemmas.fits.Trees.{condition-grows, effect-grows}
use Rattle.ppddl_form_grammar.proofs.lemmas.fits.Growth as growth
use Rattle.ppddl_form_grammar.proofs.lemmas.fits.Variables.{variables_fit}
use Rattle.ppddl_grammar.specs.fits.Laws.{ActionFits, ActionDraws, ActionIsNew, ActionGrows, ActionHasName}
use Rattle.ppddl_grammar.specs.fits.Names.{is_lower_name, AreLower}
use Rattle.ppddl_grammar.proofs.lemmas.fits.Lower.{name-lower, any-same}
use Rattle.ppddl_grammar.proofs.lemmas.fits.Walks.{pairs-keep, name-read}
use Rattle.ppddl_grammar.proofs.lemmas.fits.Wider.{condition-wider, effect-wider}

-- ---- where more is declared

pub action-grows : ActionGrows
action-grows d w domain declared a fit =
    let later : IsLater (world_of d) w (domain_of d) domain = growth.later_from d w domain declared in
    let third = and_parts (is_plain a.name && params_fit d.types a.params && condition_fits (world_of d) (domain_of d) a.condition a.params) (effect_fits (world_of d) (domain_of d) a.effect a.params) fit in
    let second = and_parts (is_plain a.name && params_fit d.types a.params) (condition_fits (world_of d) (domain_of d) a.condition a.params) third.0 in
    let first = and_parts (is_plain a.name) (params_fit d.types a.params) second.0 in
    and_from (is_plain a.name && params_fit w.types a.params && condition_fits w domain a.condition a.params) (effect_fits w domain a.effect a.params)
    (and_from (is_plain a.name && params_fit w.types a.params) (condition_fits w domain a.condition a.params)
    (and_from (is_plain a.name) (params_fit w.types a.params) first.0 (params_fit-grows d.types w.types later.types a.params first.1))
    (condition-grows (world_of d) w (domain_of d) domain later a.condition a.params second.1))
    (effect-grows (world_of d) w (domain_of d) domain later a.effect a.params third.1)

-- ---- fields

fresh_by : (s : ActionDraft) (o : Option Field) (a : Place) (k : Field) → new_field s o a ≡ Ok k → has_field s k ≡ false
fresh_by s None a k is = absurd cc
fresh_by s (Some j) a k is =
    let t = test_fails (has_field s j) _ (Ok j) k is in subst (λ i. has_field s i ≡ false) (ok_is {E = Fault} j k t.1) t.0

-- a field that did not stand yet
fresh : (s : ActionDraft) (f : Form) (k : Field) → field s f ≡ Ok k → has_field s k ≡ false
unfolding field of_word
fresh s (lone w a) k is = fresh_by s (field_of w) a k is
fresh s (group a fs b) k is = absurd cc

none_given : (params : Option (List Param)) → is_some params ≡ false → params_given params ≡ []
none_given None is = refl
none_given (Some params) is = absurd cc

module _ (d : Declared) where
  abbrev Holds : Condition → List Param → Type 0
  Holds c scope = condition_fits (world_of d) (domain_of d) c scope ≡ true

  abbrev Does : Effect → List Param → Type 0
  Does e scope = effect_fits (world_of d) (domain_of d) e scope ≡ true

  record DraftFits (s : ActionDraft) : Type 0 where
    params : params_fit d.types (params_given s.params) ≡ true
    condition : Holds (condition_given s.condition) (params_given s.params)
    effect : Does (effect_given s.effect) (params_given s.params)
    draws : EachDraw AreProbabilities (effect_given s.effect)

  -- without a field an action may always be taken, and does nothing
  no_fields-fit : (b : Place) → DraftFits no_fields
  unfolding condition condition_in effect effect_in
  no_fields-fit b = record {
    params = refl;
    condition = condition-fits d ([] ∷ []) (group b none b) (condition_of.All []) refl (world_of d) (domain_of d) (growth.now d);
    effect = effect-fits d ([] ∷ []) (group b none b) (effect_of.Both []) refl (world_of d) (domain_of d) (growth.now d);
    draws = effect-draws d ([] ∷ []) (group b none b) (effect_of.Both []) refl;
  }

  list_fits : (f : Form) (ps : List Param) → variable_list d f ≡ Ok ps → params_fit d.types ps ≡ true
  unfolding variable_list in_group
  list_fits (lone w a) ps is = absurd cc
  list_fits (group a fs b) ps is = variables_fit d fs b ps is

  -- what stood before the parameters has no variable in sight, so these add none that it names
  params-fit : (s : ActionDraft) (f : Form) (t : ActionDraft) → DraftFits s → is_some s.params ≡ false → params_field d s f ≡ Ok t → DraftFits t
  unfolding params_field checking
  params-fit s f t fit new is =
      let r = bind_ok (variable_list d f) (λ params. Ok (with_params s params)) t is in
      let empty : params_given s.params ≡ [] = none_given s.params new in
      subst DraftFits (ok_is {E = Fault} (with_params s r.0) t r.2) (record {
        params = list_fits f r.0 r.1;
        condition = condition-wider (world_of d) (domain_of d) (condition_given s.condition) [] r.0 (subst (Holds (condition_given s.condition)) empty fit.condition);
        effect = effect-wider (world_of d) (domain_of d) (effect_given s.effect) [] r.0 (subst (Does (effect_given s.effect)) empty fit.effect);
        draws = fit.draws;
      })

  in_scope : (s : ActionDraft) → params_given s.params ++ [] ≡ params_given s.params
  in_scope s = append-nil (params_given s.params)

  condition-fit : (s : ActionDraft) (f : Form) (t : ActionDraft) → DraftFits s → condition_field d s f ≡ Ok t → DraftFits t
  unfolding condition_field checking
  condition-fit s f t fit is =
      let r = bind_ok (condition d (scope_of s) f) (λ c. Ok (with_condition s c)) t is in
      subst DraftFits (ok_is {E = Fault} (with_condition s r.0) t r.2) (record {
        params = fit.params;
        condition = subst (Holds r.0) (in_scope s) (condition-fits d (scope_of s) f r.0 r.1 (world_of d) (domain_of d) (growth.now d));
        effect = fit.effect;
        draws = fit.draws;
      })

  effect-fit : (s : ActionDraft) (f : Form) (t : ActionDraft) → DraftFits s → effect_field d s f ≡ Ok t → DraftFits t
  unfolding effect_field checking
  effect-fit s f t fit is =
      let r = bind_ok (effect d (scope_of s) f) (λ e. Ok (with_effect s e)) t is in
      subst DraftFits (ok_is {E = Fault} (with_effect s r.0) t r.2) (record {
        params = fit.params;
        condition = fit.condition;
        effect = subst (Does r.0) (in_scope s) (effect-fits d (scope_of s) f r.0 r.1 (world_of d) (domain_of d) (growth.now d));
        draws = effect-draws d (scope_of s) f r.0 r.1;
      })

  value-fits : (s : ActionDraft) (k : Field) (g : Form) (t : ActionDraft) → DraftFits s → has_field s k ≡ false → field_value d s k g ≡ Ok t → DraftFits t
  value-fits s field_named.Parameters g t fit new is = params-fit s g t fit new is
  value-fits s field_named.Precondition g t fit new is = condition-fit s g t fit is
  value-fits s field_named.Effect g t fit new is = effect-fit s g t fit is

  fields-fit : (fs : Forms) (b : Place) (t : ActionDraft) → fields d no_fields fs b ≡ Ok t → DraftFits t
  unfolding fields
  fields-fit fs b t is =
      pairs-keep field (field_value d) DraftFits (λ s f k g u fit first second. value-fits s k g u fit (fresh s f k first) second) no_fields fs b t (no_fields-fit b) is

  -- ---- whole actions

  -- an action by its name, which no other has, and its fields
  record Reads (seen : List (List ℕ)) (f : Form) (a : Action) : Type 0 where
    word : Name
    draft : ActionDraft
    named : name f ≡ Ok word
    new : list_any (same word.text) seen ≡ false
    fit : DraftFits draft
    whole : action_of word draft ≡ a

  first-reads : (seen : List (List ℕ)) (f : Form) (fs : Forms) (b : Place) (a : Action) → action d seen (more f fs) b ≡ Ok a → Reads seen f a
  unfolding action new_action one_then giving checking
  first-reads seen f fs b a is =
      let r = bind_ok (name f >>= not_seen seen) (λ n. fields d no_fields fs b >>= λ s. Ok (action_of n s)) a is in
      let n = bind_ok (name f) (not_seen seen) r.0 r.1 in
      let t = test_fails (list_any (same n.0.text) seen) _ (Ok n.0) r.0 n.2 in
      let q = bind_ok (fields d no_fields fs b) (λ s. Ok (action_of r.0 s)) a r.2 in
      let same_name : n.0 ≡ r.0 = ok_is {E = Fault} n.0 r.0 t.1 in
      record {
        word = r.0;
        draft = q.0;
        named = subst (λ m. name f ≡ Ok m) same_name n.1;
        new = subst (λ m. list_any (same m.text) seen ≡ false) same_name t.0;
        fit = fields-fit fs b q.0 q.1;
        whole = ok_is {E = Fault} (action_of r.0 q.0) a q.2;
      }

  no_form : (seen : List (List ℕ)) (b : Place) (a : Action) → action d seen none b ≡ Ok a → ⊥
  unfolding action one_then
  no_form seen b a is = absurd cc

  -- what holds of an action that has been read by its name and its fields
  module _ (seen : List (List ℕ)) (P : Forms → Action → Type 0) (one : (f : Form) (fs : Forms) (a : Action) → Reads seen f a → P (more f fs) a) where
    action-has : (fs : Forms) (b : Place) (a : Action) → action d seen fs b ≡ Ok a → P fs a
    action-has none b a is = absurd (no_form seen b a is)
    action-has (more f fs) b a is = one f fs a (first-reads seen f fs b a is)

  whole-fits : (word : Name) (s : ActionDraft) → is_plain word.text ≡ true → DraftFits s → action_fits (world_of d) (domain_of d) (action_of word s) ≡ true
  whole-fits word s plain fit =
      let a : Action = action_of word s in
      and_from (is_plain a.name && params_fit d.types a.params && condition_fits (world_of d) (domain_of d) a.condition a.params) (effect_fits (world_of d) (domain_of d) a.effect a.params)
      (and_from (is_plain a.name && params_fit d.types a.params) (condition_fits (world_of d) (domain_of d) a.condition a.params)
      (and_from (is_plain a.name) (params_fit d.types a.params) plain fit.params) fit.condition) fit.effect

-- ---- laws

pub action-fits : ActionFits
action-fits d seen fs b a is w domain declared =
    action-has d seen (λ gs x. action_fits w domain x ≡ true)
    (λ f gs x reads.
    action-grows d w domain declared x
    (subst (λ y. action_fits (world_of d) (domain_of d) y ≡ true) reads.whole
    (whole-fits d reads.word reads.draft (name_is_plain reads.word.text (name-read f reads.word reads.named).0) reads.fit))) fs b a is

pub action-draws : ActionDraws
action-draws d seen fs b a is =
    action-has d seen (λ gs x. EachDraw AreProbabilities x.effect)
    (λ f gs x reads. subst (λ (y : Action). EachDraw AreProbabilities y.effect) reads.whole reads.fit.draws) fs b a is

pub action-is_new : ActionIsNew
action-is_new d seen fs b a is apart =
    action-has d seen (λ gs x. are_distinct (seen ++ x.name ∷ []) ≡ true)
    (λ f gs x reads.
    subst (λ (y : Action). are_distinct (seen ++ y.name ∷ []) ≡ true) reads.whole
    (distinct-grows seen reads.word.text apart (sym (any-same reads.word.text seen) ∙ reads.new))) fs b a is

pub action-has_name : ActionHasName
action-has_name d seen fs b a is =
    action-has d seen (λ gs x. AreLower gs → is_lower_name x.name ≡ true)
    (λ f gs x reads lower. subst (λ (y : Action). is_lower_name y.name ≡ true) reads.whole (name-lower f reads.word reads.named lower.0)) fs b a is
