-- Which forms spell which actions.
-- Sources: PDDL 2.1 (Fox and Long 2003), PPDDL 1.0. Fields stand in any order, each at most once; variables are in sight behind their
-- field.
--     Fields d s fs t      fields behind those of s, with which they are t
--     IsAction d fs a      `NAME FIELD*`
use Rattle.std.specs.Prelude.{◌≡◌, ℕ, List, true, None}
use Rattle.ppddl_lex.specs.declared.keywords.TheConstants.{EFFECT_FLAG}
use Rattle.ppddl_lex.specs.Words.{is_name}
use Rattle.ppddl_model.specs.declared.tree.Action.{Action}
use Rattle.ppddl_model.specs.declared.tree.Condition.{Condition}
use Rattle.ppddl_model.specs.declared.tree.Effect.{Effect}
use Rattle.ppddl_model.specs.declared.tree.Param.{Param}
use Rattle.ppddl_forms.specs.names.Declarations.{Declared}
use Rattle.ppddl_cursor.specs.declared.place.Place.{Place}
use Rattle.ppddl_cursor.specs.Forms.{Form, Forms, lone, none, more}
use Rattle.ppddl_forms.specs.declared.name.Name.{Name}
use Rattle.ppddl_reader.specs.declared.sections.action_draft.ActionDraft.{ActionDraft}
use Rattle.ppddl_reader.specs.declared.sections.symbols.TheConstants.{PARAMETERS_FLAG, PRECONDITION_FLAG}
use Rattle.ppddl_reader.specs.sections.Actions.{no_fields, scope_of, with_params, with_condition, with_effect, action_of}
use Rattle.ppddl_form_grammar.specs.forms.Conditions.{IsCondition}
use Rattle.ppddl_form_grammar.specs.forms.Effects.{IsEffect}
use Rattle.ppddl_form_grammar.specs.forms.Lists.{IsVariableList}

abbrev pub named_at : List ℕ → Place → Name
named_at w a = record { text = w; place = a }

module _ (d : Declared) where
  pub data Fields : ActionDraft → Forms → ActionDraft → Type 0 where
    no_field : {s : ActionDraft} → Fields s none s
    parameters : {s t : ActionDraft} {a : Place} {f : Form} {fs : Forms} {ps : List Param}
        → s.params ≡ None → IsVariableList d f ps → Fields (with_params s ps) fs t → Fields s (more (lone PARAMETERS_FLAG.now a) (more f fs)) t
    precondition : {s t : ActionDraft} {a : Place} {f : Form} {fs : Forms} {c : Condition}
        → s.condition ≡ None → IsCondition d (scope_of s) f c → Fields (with_condition s c) fs t → Fields s (more (lone PRECONDITION_FLAG.now a) (more f fs)) t
    effect : {s t : ActionDraft} {a : Place} {f : Form} {fs : Forms} {e : Effect}
        → s.effect ≡ None → IsEffect d (scope_of s) f e → Fields (with_effect s e) fs t → Fields s (more (lone EFFECT_FLAG.now a) (more f fs)) t

  pub data IsAction : Forms → Action → Type 0 where
    action : {w : List ℕ} {a : Place} {fs : Forms} {s : ActionDraft} → is_name w ≡ true → Fields no_fields fs s → IsAction (more (lone w a) fs) (action_of (named_at w a) s)
