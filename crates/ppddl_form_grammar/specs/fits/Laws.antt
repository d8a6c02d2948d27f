-- What is read fits, in the words of well-formed tasks, as statements.
--     VariablesFit, ConditionFits, EffectFits, EffectDraws
--                              a list of variables, a condition and an effect that are read fit, in every world and domain in which what
--                              was declared so far is declared
--     ObjectsFit               objects that are read fit behind those that were declared
--     ItemFits, ItemDraws, ValueFits
--                              so do items of `:init`, and the values of functions behind those that were given
--     RewardFits, NameIsPlain  so do a reward and a name
--     ConditionGrows, EffectGrows, ItemGrows, ValuesGrow
--                              what fits by what was declared so far fits where more is declared
--     ParamsGrow, ObjectsGrow, DeclarationsGrow
--                              variables, objects and declarations that fit fit where there are more types
--     DeclarationFits, TypesFit, DistinctGrows
--                              declarations that are new fit behind those that do, as types without a cycle do
--     NowDeclared, KeptDeclared
--                              what was declared is declared now, and wherever what was declared later is
use Rattle.std.specs.Prelude.{◌≡◌, ℕ, true, false, List, [], ◌∷◌, ◌++◌, map, Some, None, Ok, codes}
use Rattle.std.specs.List.{list_any}
use Rattle.ppddl_lex.specs.Words.{is_name}
use Rattle.ppddl_model.specs.declared.limits.TheConstants.{MOST_PENALTY}
use Rattle.ppddl_model.specs.declared.tree.Condition.{Condition}
use Rattle.ppddl_model.specs.declared.tree.Domain.{Domain}
use Rattle.ppddl_model.specs.declared.tree.Effect.{Effect}
use Rattle.ppddl_model.specs.declared.tree.InitItem.{InitItem}
use Rattle.ppddl_model.specs.declared.tree.InitItem.TheVariants.{Value}
use Rattle.ppddl_model.specs.declared.tree.ObjectDecl.{ObjectDecl}
use Rattle.ppddl_model.specs.declared.tree.Param.{Param}
use Rattle.ppddl_model.specs.declared.tree.PredicateDecl.{PredicateDecl}
use Rattle.ppddl_model.specs.declared.tree.TypeDecl.{TypeDecl}
use Rattle.ppddl_model.specs.declared.tree.ValueItem.{ValueItem}
use Rattle.ppddl_model.specs.Draws.{EachDraw, EachItemDraw}
use Rattle.ppddl_model.specs.Objects.{World}
use Rattle.ppddl_model.specs.State.{Name, same_name}
use Rattle.ppddl_model.specs.WellFormed.{is_plain, are_distinct, types_fit, objects_fit, params_fit, declarations_fit, condition_fits, effect_fits, item_fits, values_fit, reward_fits, AreProbabilities}
use Rattle.ppddl_forms.specs.names.Declarations.{Declared, world_of, predicate_named}
use Rattle.ppddl_forms.specs.names.Sight.{in_sight}
use Rattle.ppddl_cursor.specs.declared.place.Place.{Place}
use Rattle.ppddl_cursor.specs.Forms.{Form, Forms}
use Rattle.type_table.specs.Types.{has_cycle}
use Rattle.ppddl_forms.specs.Conditions.{condition}
use Rattle.ppddl_forms.specs.Effects.{effect}
use Rattle.ppddl_forms.specs.Terms.{Scope}
use Rattle.ppddl_forms.specs.Variables.{variables}
use Rattle.ppddl_forms.specs.Words.{amount}
use Rattle.ppddl_forms.specs.items.Items.{item}
use Rattle.ppddl_forms.specs.objects.Objects.{objects}
use Rattle.ppddl_form_grammar.specs.fits.Growth.{AreKept, domain_of, AreDeclaredIn, is_value}

-- ---- what is read

abbrev pub VariablesFit : Type 0
VariablesFit = (d : Declared) (fs : Forms) (b : Place) (ps : List Param) → variables d fs b ≡ Ok ps → params_fit d.types ps ≡ true

abbrev pub ConditionFits : Type 0
ConditionFits = (d : Declared) (s : Scope) (f : Form) (c : Condition) → condition d s f ≡ Ok c
    → (w : World) (domain : Domain) → AreDeclaredIn d w domain → condition_fits w domain c (in_sight s) ≡ true

abbrev pub EffectFits : Type 0
EffectFits = (d : Declared) (s : Scope) (f : Form) (e : Effect) → effect d s f ≡ Ok e
    → (w : World) (domain : Domain) → AreDeclaredIn d w domain → effect_fits w domain e (in_sight s) ≡ true

abbrev pub EffectDraws : Type 0
EffectDraws = (d : Declared) (s : Scope) (f : Form) (e : Effect) → effect d s f ≡ Ok e → EachDraw AreProbabilities e

abbrev pub ObjectsFit : Type 0
ObjectsFit = (d : Declared) (fs : Forms) (b : Place) (os : List ObjectDecl) → objects d fs b ≡ Ok os
    → objects_fit d.types d.objects ≡ true → objects_fit d.types (d.objects ++ os) ≡ true

abbrev pub ItemFits : Type 0
ItemFits = (d : Declared) (values : List ValueItem) (f : Form) (i : InitItem) → item d values f ≡ Ok i → is_value i ≡ false
    → (w : World) (domain : Domain) → AreDeclaredIn d w domain → item_fits w domain i ≡ true

abbrev pub ItemDraws : Type 0
ItemDraws = (d : Declared) (values : List ValueItem) (f : Form) (i : InitItem) → item d values f ≡ Ok i → EachItemDraw AreProbabilities i

abbrev pub ValueFits : Type 0
ValueFits = (d : Declared) (values : List ValueItem) (f : Form) (v : ValueItem) → item d values f ≡ Ok (Value v)
    → (w : World) (domain : Domain) → AreDeclaredIn d w domain → values_fit w domain values ≡ true → values_fit w domain (values ++ v ∷ []) ≡ true

abbrev pub RewardFits : Type 0
RewardFits = (f : Form) (n : ℕ) → amount 1 MOST_PENALTY f ≡ Ok n → reward_fits (Some n) ≡ true

abbrev pub NameIsPlain : Type 0
NameIsPlain = (w : List ℕ) → is_name w ≡ true → is_plain w ≡ true

-- ---- where more is declared

abbrev pub ConditionGrows : Type 0
ConditionGrows = (d : Declared) (w : World) (domain : Domain) → AreDeclaredIn d w domain → (c : Condition) (scope : List Param)
    → condition_fits (world_of d) (domain_of d) c scope ≡ true → condition_fits w domain c scope ≡ true

abbrev pub EffectGrows : Type 0
EffectGrows = (d : Declared) (w : World) (domain : Domain) → AreDeclaredIn d w domain → (e : Effect) (scope : List Param)
    → effect_fits (world_of d) (domain_of d) e scope ≡ true → effect_fits w domain e scope ≡ true

abbrev pub ItemGrows : Type 0
ItemGrows = (d : Declared) (w : World) (domain : Domain) → AreDeclaredIn d w domain → (i : InitItem)
    → item_fits (world_of d) (domain_of d) i ≡ true → item_fits w domain i ≡ true

abbrev pub ValuesGrow : Type 0
ValuesGrow = (d : Declared) (w : World) (domain : Domain) → AreDeclaredIn d w domain → (values : List ValueItem)
    → values_fit (world_of d) (domain_of d) values ≡ true → values_fit w domain values ≡ true

abbrev pub ParamsGrow : Type 0
ParamsGrow = (types more : List TypeDecl) (ps : List Param) → params_fit types ps ≡ true → params_fit (types ++ more) ps ≡ true

abbrev pub ObjectsGrow : Type 0
ObjectsGrow = (types more : List TypeDecl) (os : List ObjectDecl) → objects_fit types os ≡ true → objects_fit (types ++ more) os ≡ true

abbrev pub DeclarationsGrow : Type 0
DeclarationsGrow = (types more : List TypeDecl) (ds : List PredicateDecl)
    → declarations_fit types ds ≡ true → declarations_fit (types ++ more) ds ≡ true

-- ---- what is declared

abbrev pub DistinctGrows : Type 0
DistinctGrows = (names : List Name) (name : Name) → are_distinct names ≡ true → list_any (same_name name) names ≡ false
    → are_distinct (names ++ name ∷ []) ≡ true

abbrev pub TypesFit : Type 0
TypesFit = (types : List TypeDecl) → are_distinct (map (λ (t : TypeDecl). t.name) types) ≡ true
    → list_any (λ (t : TypeDecl). same_name t.name (codes "object")) types ≡ false → has_cycle types ≡ false → types_fit types ≡ true

abbrev pub declaration : Name → List Param → PredicateDecl
declaration name params = record { name = name; params = params }

abbrev pub DeclarationFits : Type 0
DeclarationFits = (types : List TypeDecl) (ds : List PredicateDecl) (name : Name) (ps : List Param) → declarations_fit types ds ≡ true
    → is_name name ≡ true → predicate_named ds name ≡ None → params_fit types ps ≡ true → declarations_fit types (ds ++ declaration name ps ∷ []) ≡ true

abbrev pub NowDeclared : Type 0
NowDeclared = (d : Declared) → AreDeclaredIn d (world_of d) (domain_of d)

abbrev pub KeptDeclared : Type 0
KeptDeclared = (d e : Declared) → AreKept d e → (w : World) (domain : Domain) → AreDeclaredIn e w domain → AreDeclaredIn d w domain
