-- The grammar of sections and the relations are one language, as statements.
--     TypesAreDerived, TypesAreAccepted              of `:types`
--     PredicatesAreDerived, PredicatesAreAccepted    of `:predicates`
--     FunctionsAreDerived, FunctionsAreAccepted      of `:functions`
--     ActionIsDerived, ActionIsAccepted              of `:action`
--     StartIsDerived, StartIsAccepted                of `:init`
--     GoalIsDerived, GoalIsAccepted                  of `:goal`
--     RewardIsDerived, RewardIsAccepted              of `:goal-reward`
use Rattle.std.specs.Prelude.{◌≡◌, ℕ, false, List, Ok}
use Rattle.std.specs.List.{list_any}
use Rattle.ppddl_model.specs.declared.tree.Action.{Action}
use Rattle.ppddl_model.specs.declared.tree.Condition.{Condition}
use Rattle.ppddl_model.specs.declared.tree.PredicateDecl.{PredicateDecl}
use Rattle.ppddl_model.specs.declared.tree.TypeDecl.{TypeDecl}
use Rattle.ppddl_forms.specs.names.Declarations.{Declared, with_types}
use Rattle.ppddl_cursor.specs.declared.place.Place.{Place}
use Rattle.ppddl_cursor.specs.Ahead.{same}
use Rattle.ppddl_cursor.specs.Forms.{Forms}
use Rattle.ppddl_reader.specs.declared.sections.start.Start.{Start}
use Rattle.ppddl_reader.specs.sections.Actions as action_by
use Rattle.ppddl_reader.specs.sections.Goals as goal_by
use Rattle.ppddl_reader.specs.sections.Predicates.{predicates, functions}
use Rattle.ppddl_reader.specs.sections.Starts.{no_items, start}
use Rattle.ppddl_reader.specs.sections.Types.{types}
use Rattle.ppddl_grammar.specs.fits.Fitting.{with_predicates, with_functions}
use Rattle.ppddl_grammar.specs.sections.Declarations.{IsPredicates, IsFunctions}
use Rattle.ppddl_grammar.specs.sections.Actions.{IsAction}
use Rattle.ppddl_grammar.specs.sections.Types.{IsTypes}
use Rattle.ppddl_grammar.specs.sections.Problems.{Items, IsGoal, IsGoalReward}

abbrev pub TypesAreDerived : Type 0
TypesAreDerived = (d : Declared) (fs : Forms) (b : Place) (e : Declared) → types d fs b ≡ Ok e → (ts : List TypeDecl) × (e ≡ with_types d ts) × IsTypes d fs ts

abbrev pub TypesAreAccepted : Type 0
TypesAreAccepted = (d : Declared) (fs : Forms) (b : Place) (ts : List TypeDecl) → IsTypes d fs ts → types d fs b ≡ Ok (with_types d ts)

abbrev pub PredicatesAreDerived : Type 0
PredicatesAreDerived = (d : Declared) (fs : Forms) (b : Place) (e : Declared) → predicates d fs b ≡ Ok e
    → (ps : List PredicateDecl) × (e ≡ with_predicates d ps) × IsPredicates d fs ps

abbrev pub PredicatesAreAccepted : Type 0
PredicatesAreAccepted = (d : Declared) (fs : Forms) (b : Place) (ps : List PredicateDecl) → IsPredicates d fs ps → predicates d fs b ≡ Ok (with_predicates d ps)

abbrev pub FunctionsAreDerived : Type 0
FunctionsAreDerived = (d : Declared) (fs : Forms) (b : Place) (e : Declared) → functions d fs b ≡ Ok e
    → (ps : List PredicateDecl) × (e ≡ with_functions d ps) × IsFunctions d fs ps

abbrev pub FunctionsAreAccepted : Type 0
FunctionsAreAccepted = (d : Declared) (fs : Forms) (b : Place) (ps : List PredicateDecl) → IsFunctions d fs ps → functions d fs b ≡ Ok (with_functions d ps)

abbrev pub ActionIsDerived : Type 0
ActionIsDerived = (d : Declared) (seen : List (List ℕ)) (fs : Forms) (b : Place) (a : Action) → action_by.action d seen fs b ≡ Ok a
    → IsAction d fs a × (list_any (same a.name) seen ≡ false)

abbrev pub ActionIsAccepted : Type 0
ActionIsAccepted = (d : Declared) (seen : List (List ℕ)) (fs : Forms) (b : Place) (a : Action) → IsAction d fs a → list_any (same a.name) seen ≡ false
    → action_by.action d seen fs b ≡ Ok a

abbrev pub StartIsDerived : Type 0
StartIsDerived = (d : Declared) (fs : Forms) (b : Place) (s : Start) → start d fs b ≡ Ok s → Items d no_items fs s

abbrev pub StartIsAccepted : Type 0
StartIsAccepted = (d : Declared) (fs : Forms) (b : Place) (s : Start) → Items d no_items fs s → start d fs b ≡ Ok s

abbrev pub GoalIsDerived : Type 0
GoalIsDerived = (d : Declared) (fs : Forms) (b : Place) (c : Condition) → goal_by.goal d fs b ≡ Ok c → IsGoal d fs c

abbrev pub GoalIsAccepted : Type 0
GoalIsAccepted = (d : Declared) (fs : Forms) (b : Place) (c : Condition) → IsGoal d fs c → goal_by.goal d fs b ≡ Ok c

abbrev pub RewardIsDerived : Type 0
RewardIsDerived = (fs : Forms) (b : Place) (n : ℕ) → goal_by.goal_reward fs b ≡ Ok n → IsGoalReward fs n

abbrev pub RewardIsAccepted : Type 0
RewardIsAccepted = (fs : Forms) (b : Place) (n : ℕ) → IsGoalReward fs n → goal_by.goal_reward fs b ≡ Ok n
