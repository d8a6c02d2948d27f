-- What sections that are read declare and give fits, and has names in lower case, as statements.
--     TypesAreDeclared, PredicatesAreDeclared, FunctionsAreDeclared
--                              a section declares more of its kind, and nothing else
--     TypesKeepFit             behind what fits, types fit where none were declared before
--     PredicatesKeepFit, FunctionsKeepFit, ObjectsKeepFit
--                              behind what fits, what is declared fits
--     ActionFits, ActionDraws  an action fits in every world and domain in which what was declared so far is declared, and draws by
--                              probabilities
--     ActionIsNew              its name is none of those seen
--     ActionGrows              it fits where more is declared
--     StartFits, StartDraws, ValuesFit
--                              so do the items of `:init` and the values of functions
--     GoalFits, GoalRewardFits so do the goal and the goal reward
--     FormsAreLower            the forms of a reader are in lower case
--     TypesHaveNames, PredicatesHaveNames, FunctionsHaveNames, ObjectsHaveNames, ActionHasName
--                              what is declared in such forms has names in lower case
use Rattle.std.specs.Prelude.{◌≡◌, ℕ, true, All, List, [], ◌∷◌, ◌++◌, Some, Ok}
use Rattle.std.specs.List.{list_all}
use Rattle.ppddl_model.specs.declared.tree.Action.{Action}
use Rattle.ppddl_model.specs.declared.tree.Condition.{Condition}
use Rattle.ppddl_model.specs.declared.tree.Domain.{Domain}
use Rattle.ppddl_model.specs.declared.tree.ObjectDecl.{ObjectDecl}
use Rattle.ppddl_model.specs.Draws.{EachDraw, EachItemDraw}
use Rattle.ppddl_model.specs.Objects.{World}
use Rattle.ppddl_model.specs.WellFormed.{are_distinct, condition_fits, action_fits, item_fits, values_fit, reward_fits, AreProbabilities}
use Rattle.ppddl_forms.specs.names.Declarations.{Declared, with_objects, world_of}
use Rattle.ppddl_cursor.specs.declared.place.Place.{Place}
use Rattle.ppddl_cursor.specs.Forms.{Forms, lowered_forms}
use Rattle.ppddl_forms.specs.objects.Objects.{objects}
use Rattle.ppddl_form_grammar.specs.fits.Growth.{domain_of, AreDeclaredIn}
use Rattle.ppddl_reader.specs.declared.sections.start.Start.{Start}
use Rattle.ppddl_reader.specs.sections.Actions.{action}
use Rattle.ppddl_reader.specs.sections.Goals.{goal, goal_reward}
use Rattle.ppddl_reader.specs.sections.Predicates.{predicates, functions}
use Rattle.ppddl_reader.specs.sections.Starts.{start}
use Rattle.ppddl_reader.specs.sections.Types.{types}
use Rattle.ppddl_grammar.specs.fits.Fitting.{IsFit, DeclaresTypes, DeclaresPredicates, DeclaresFunctions}
use Rattle.ppddl_grammar.specs.fits.Names.{is_lower_name, AreLower, HaveLowerNames}

-- ---- what a section declares

abbrev pub TypesAreDeclared : Type 0
TypesAreDeclared = (d : Declared) (fs : Forms) (b : Place) (e : Declared) → types d fs b ≡ Ok e → DeclaresTypes d e

abbrev pub PredicatesAreDeclared : Type 0
PredicatesAreDeclared = (d : Declared) (fs : Forms) (b : Place) (e : Declared) → predicates d fs b ≡ Ok e → DeclaresPredicates d e

abbrev pub FunctionsAreDeclared : Type 0
FunctionsAreDeclared = (d : Declared) (fs : Forms) (b : Place) (e : Declared) → functions d fs b ≡ Ok e → DeclaresFunctions d e

abbrev pub TypesKeepFit : Type 0
TypesKeepFit = (d : Declared) (fs : Forms) (b : Place) (e : Declared) → types d fs b ≡ Ok e → d.types ≡ [] → IsFit d → IsFit e

abbrev pub PredicatesKeepFit : Type 0
PredicatesKeepFit = (d : Declared) (fs : Forms) (b : Place) (e : Declared) → predicates d fs b ≡ Ok e → IsFit d → IsFit e

abbrev pub FunctionsKeepFit : Type 0
FunctionsKeepFit = (d : Declared) (fs : Forms) (b : Place) (e : Declared) → functions d fs b ≡ Ok e → IsFit d → IsFit e

abbrev pub ObjectsKeepFit : Type 0
ObjectsKeepFit = (d : Declared) (fs : Forms) (b : Place) (os : List ObjectDecl) → objects d fs b ≡ Ok os → IsFit d → IsFit (with_objects d os)

-- ---- actions

abbrev pub ActionFits : Type 0
ActionFits = (d : Declared) (seen : List (List ℕ)) (fs : Forms) (b : Place) (a : Action) → action d seen fs b ≡ Ok a
    → (w : World) (domain : Domain) → AreDeclaredIn d w domain → action_fits w domain a ≡ true

abbrev pub ActionDraws : Type 0
ActionDraws = (d : Declared) (seen : List (List ℕ)) (fs : Forms) (b : Place) (a : Action) → action d seen fs b ≡ Ok a → EachDraw AreProbabilities a.effect

abbrev pub ActionIsNew : Type 0
ActionIsNew = (d : Declared) (seen : List (List ℕ)) (fs : Forms) (b : Place) (a : Action) → action d seen fs b ≡ Ok a
    → are_distinct seen ≡ true → are_distinct (seen ++ a.name ∷ []) ≡ true

abbrev pub ActionGrows : Type 0
ActionGrows = (d : Declared) (w : World) (domain : Domain) → AreDeclaredIn d w domain → (a : Action)
    → action_fits (world_of d) (domain_of d) a ≡ true → action_fits w domain a ≡ true

-- ---- problems

abbrev pub StartFits : Type 0
StartFits = (d : Declared) (fs : Forms) (b : Place) (s : Start) → start d fs b ≡ Ok s
    → (w : World) (domain : Domain) → AreDeclaredIn d w domain → list_all (item_fits w domain) s.items ≡ true

abbrev pub ValuesFit : Type 0
ValuesFit = (d : Declared) (fs : Forms) (b : Place) (s : Start) → start d fs b ≡ Ok s
    → (w : World) (domain : Domain) → AreDeclaredIn d w domain → values_fit w domain s.values ≡ true

abbrev pub StartDraws : Type 0
StartDraws = (d : Declared) (fs : Forms) (b : Place) (s : Start) → start d fs b ≡ Ok s → All (EachItemDraw AreProbabilities) s.items

abbrev pub GoalFits : Type 0
GoalFits = (d : Declared) (fs : Forms) (b : Place) (c : Condition) → goal d fs b ≡ Ok c
    → (w : World) (domain : Domain) → AreDeclaredIn d w domain → condition_fits w domain c [] ≡ true

abbrev pub GoalRewardFits : Type 0
GoalRewardFits = (fs : Forms) (b : Place) (n : ℕ) → goal_reward fs b ≡ Ok n → reward_fits (Some n) ≡ true

-- ---- names

abbrev pub FormsAreLower : Type 0
FormsAreLower = (fs : Forms) → AreLower (lowered_forms fs)

abbrev pub TypesHaveNames : Type 0
TypesHaveNames = (d : Declared) (fs : Forms) (b : Place) (e : Declared) → types d fs b ≡ Ok e → AreLower fs → HaveLowerNames d → HaveLowerNames e

abbrev pub PredicatesHaveNames : Type 0
PredicatesHaveNames = (d : Declared) (fs : Forms) (b : Place) (e : Declared) → predicates d fs b ≡ Ok e → AreLower fs → HaveLowerNames d → HaveLowerNames e

abbrev pub FunctionsHaveNames : Type 0
FunctionsHaveNames = (d : Declared) (fs : Forms) (b : Place) (e : Declared) → functions d fs b ≡ Ok e → AreLower fs → HaveLowerNames d → HaveLowerNames e

abbrev pub ObjectsHaveNames : Type 0
ObjectsHaveNames = (d : Declared) (fs : Forms) (b : Place) (os : List ObjectDecl) → objects d fs b ≡ Ok os
    → AreLower fs → HaveLowerNames d → HaveLowerNames (with_objects d os)

abbrev pub ActionHasName : Type 0
ActionHasName = (d : Declared) (seen : List (List ℕ)) (fs : Forms) (b : Place) (a : Action) → action d seen fs b ≡ Ok a → AreLower fs → is_lower_name a.name ≡ true
