-- The grammar and the relation are one language, as statements.
--     ListIsDerived, ListIsAccepted              of lists of variables
--     ConditionIsDerived, ConditionIsAccepted    of conditions
--     EffectIsDerived, EffectIsAccepted          of effects
use Rattle.std.specs.Prelude.{◌≡◌, List, Ok}
use Rattle.ppddl_model.specs.declared.tree.Condition.{Condition}
use Rattle.ppddl_model.specs.declared.tree.Effect.{Effect}
use Rattle.ppddl_model.specs.declared.tree.Param.{Param}
use Rattle.ppddl_forms.specs.names.Declarations.{Declared}
use Rattle.ppddl_cursor.specs.Forms.{Form}
use Rattle.ppddl_forms.specs.Conditions.{condition}
use Rattle.ppddl_forms.specs.Effects.{effect}
use Rattle.ppddl_forms.specs.Terms.{Scope}
use Rattle.ppddl_forms.specs.Variables.{variable_list}
use Rattle.ppddl_form_grammar.specs.forms.Lists.{IsVariableList}
use Rattle.ppddl_form_grammar.specs.forms.Conditions.{IsCondition}
use Rattle.ppddl_form_grammar.specs.forms.Effects.{IsEffect}

abbrev pub ListIsDerived : Type 0
ListIsDerived = (d : Declared) (f : Form) (ps : List Param) → variable_list d f ≡ Ok ps → IsVariableList d f ps

abbrev pub ListIsAccepted : Type 0
ListIsAccepted = (d : Declared) (f : Form) (ps : List Param) → IsVariableList d f ps → variable_list d f ≡ Ok ps

abbrev pub ConditionIsDerived : Type 0
ConditionIsDerived = (d : Declared) (s : Scope) (f : Form) (c : Condition) → condition d s f ≡ Ok c → IsCondition d s f c

abbrev pub ConditionIsAccepted : Type 0
ConditionIsAccepted = (d : Declared) (s : Scope) (f : Form) (c : Condition) → IsCondition d s f c → condition d s f ≡ Ok c

abbrev pub EffectIsDerived : Type 0
EffectIsDerived = (d : Declared) (s : Scope) (f : Form) (e : Effect) → effect d s f ≡ Ok e → IsEffect d s f e

abbrev pub EffectIsAccepted : Type 0
EffectIsAccepted = (d : Declared) (s : Scope) (f : Form) (e : Effect) → IsEffect d s f e → effect d s f ≡ Ok e
