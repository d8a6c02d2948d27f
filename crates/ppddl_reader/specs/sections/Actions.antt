-- `:action`.
-- Sources: PDDL 2.1 (Fox and Long 2003), PPDDL 1.0. Fields stand in any order, each at most once; without one an action has no parameters,
-- may always be taken, or does nothing. Variables are in sight behind their field.
--     field_of w         the field of a flag
--     has_field s k      the field stood already
--     field s            the flag of a field that did not stand yet
--     field_value d s k  what stands behind it
--     action d seen      `NAME FIELD*`, with another name than those seen
use Rattle.std.specs.Prelude.{ℕ, List, [], ◌∷◌, Bool, is_some, if◌then◌else◌, Option, Some, None, Result, Ok}
use Rattle.std.specs.List.{list_any}
use Rattle.ppddl_lex.specs.declared.keywords.TheConstants.{EFFECT_FLAG}
use Rattle.ppddl_model.specs.declared.refusal.TextCode.TheVariants.{Expected, Twice}
use Rattle.ppddl_model.specs.declared.tree.Action.{Action}
use Rattle.ppddl_model.specs.declared.tree.Condition.{Condition}
use Rattle.ppddl_model.specs.declared.tree.Condition.TheVariants as condition_of
use Rattle.ppddl_model.specs.declared.tree.Effect.{Effect}
use Rattle.ppddl_model.specs.declared.tree.Effect.TheVariants as effect_of
use Rattle.ppddl_model.specs.declared.tree.Param.{Param}
use Rattle.ppddl_forms.specs.names.Declarations.{Declared}
use Rattle.ppddl_cursor.specs.declared.place.Place.{Place}
use Rattle.ppddl_cursor.specs.Ahead.{same}
use Rattle.ppddl_cursor.specs.Forms.{Form, Forms}
use Rattle.ppddl_cursor.specs.Reading.{Fault, fails}
use Rattle.ppddl_cursor.specs.Sequences.{of_word, checking, one_then, giving}
use Rattle.ppddl_forms.specs.declared.name.Name.{Name}
use Rattle.ppddl_forms.specs.Conditions.{condition}
use Rattle.ppddl_forms.specs.Effects.{effect}
use Rattle.ppddl_forms.specs.Terms.{Scope}
use Rattle.ppddl_forms.specs.Variables.{variable_list}
use Rattle.ppddl_forms.specs.Words.{name}
use Rattle.ppddl_forms.specs.items.Sequences.{pairs}
use Rattle.ppddl_reader.specs.declared.sections.action_draft.ActionDraft.{ActionDraft}
use Rattle.ppddl_reader.specs.declared.sections.field.Field.{Field}
use Rattle.ppddl_reader.specs.declared.sections.field.Field.TheVariants as field_named
use Rattle.ppddl_reader.specs.declared.sections.symbols.TheConstants.{PARAMETERS_FLAG, PRECONDITION_FLAG}

abbrev pub field_of : List ℕ → Option Field
field_of w =
    if same w PARAMETERS_FLAG.now then Some field_named.Parameters
    else if same w PRECONDITION_FLAG.now then Some field_named.Precondition
    else if same w EFFECT_FLAG.now then Some field_named.Effect
    else None

-- no field stood
abbrev pub no_fields : ActionDraft
no_fields = record { params = None; condition = None; effect = None }

abbrev pub has_field : ActionDraft → Field → Bool
has_field s field_named.Parameters = is_some s.params
has_field s field_named.Precondition = is_some s.condition
has_field s field_named.Effect = is_some s.effect

abbrev pub new_field : ActionDraft → Option Field → Place → Result Field Fault
new_field s None a = fails Expected a
new_field s (Some k) a = if has_field s k then fails Twice a else Ok k

unfoldable pub field : ActionDraft → Form → Result Field Fault
field s = of_word (λ w a. new_field s (field_of w) a)

abbrev pub params_given : Option (List Param) → List Param
params_given None = []
params_given (Some params) = params

abbrev pub condition_given : Option Condition → Condition
condition_given None = condition_of.All []
condition_given (Some c) = c

abbrev pub effect_given : Option Effect → Effect
effect_given None = effect_of.Both []
effect_given (Some e) = e

abbrev pub scope_of : ActionDraft → Scope
scope_of s = params_given s.params ∷ []

abbrev pub with_params : ActionDraft → List Param → ActionDraft
with_params s params = record { params = Some params; condition = s.condition; effect = s.effect }

abbrev pub with_condition : ActionDraft → Condition → ActionDraft
with_condition s c = record { params = s.params; condition = Some c; effect = s.effect }

abbrev pub with_effect : ActionDraft → Effect → ActionDraft
with_effect s e = record { params = s.params; condition = s.condition; effect = Some e }

module _ (d : Declared) where
  unfoldable pub params_field : ActionDraft → Form → Result ActionDraft Fault
  params_field s = checking (λ params. Ok (with_params s params)) (variable_list d)

  unfoldable pub condition_field : ActionDraft → Form → Result ActionDraft Fault
  condition_field s = checking (λ c. Ok (with_condition s c)) (condition d (scope_of s))

  unfoldable pub effect_field : ActionDraft → Form → Result ActionDraft Fault
  effect_field s = checking (λ e. Ok (with_effect s e)) (effect d (scope_of s))

  abbrev pub field_value : ActionDraft → Field → Form → Result ActionDraft Fault
  field_value s field_named.Parameters = params_field s
  field_value s field_named.Precondition = condition_field s
  field_value s field_named.Effect = effect_field s

  unfoldable pub fields : ActionDraft → Forms → Place → Result ActionDraft Fault
  fields = pairs field field_value

abbrev pub not_seen : List (List ℕ) → Name → Result Name Fault
not_seen seen n = if list_any (same n.text) seen then fails Twice n.place else Ok n

unfoldable pub new_action : List (List ℕ) → Form → Result Name Fault
new_action seen = checking (not_seen seen) name

abbrev pub action_of : Name → ActionDraft → Action
action_of n s = record {
  name = n.text;
  line = n.place.line;
  params = params_given s.params;
  condition = condition_given s.condition;
  effect = effect_given s.effect;
}

unfoldable pub action : Declared → List (List ℕ) → Forms → Place → Result Action Fault
action d seen = one_then (new_action seen) (λ n. giving (action_of n) (fields d no_fields))
