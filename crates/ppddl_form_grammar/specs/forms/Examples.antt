-- Worked examples, which compute: the conditions and effects of the triangle tire world, the effects of a haul, and texts that miss
-- such forms by one token.
use Rattle.std.specs.Prelude.{◌≡◌, ℕ, List, [], ◌∷◌, Result, Ok, Err, codes}
use Rattle.std.proofs.Common.{refl}
use Rattle.plain_list.specs.Results.{◌>>=◌}
use Rattle.ppddl_lex.specs.declared.refusal.LexRefusal.{LexRefusal}
use Rattle.ppddl_lex.specs.declared.token.Token.{Token}
use Rattle.ppddl_lex.specs.Lexemes.{tokens_of}
use Rattle.ppddl_model.specs.declared.refusal.TextCode.{TextCode}
use Rattle.ppddl_model.specs.declared.refusal.TextCode.TheVariants as code
use Rattle.ppddl_model.specs.declared.tree.Atom.{Atom}
use Rattle.ppddl_model.specs.declared.tree.Condition.{Condition}
use Rattle.ppddl_model.specs.declared.tree.Condition.TheVariants as condition_of
use Rattle.ppddl_model.specs.declared.tree.Effect.{Effect}
use Rattle.ppddl_model.specs.declared.tree.Effect.TheVariants as effect_of
use Rattle.ppddl_model.specs.declared.tree.Task.{Task}
use Rattle.ppddl_model.specs.declared.tree.Term.TheVariants.{Variable}
use Rattle.ppddl_model.specs.examples.Haul.{go, whole_haul}
use Rattle.ppddl_model.specs.examples.Tire.{move_car, changetire, tire}
use Rattle.ppddl_forms.specs.names.Declarations.{Declared}
use Rattle.ppddl_cursor.specs.Forms.{Form}
use Rattle.ppddl_cursor.specs.Pieces.{text_ahead}
use Rattle.ppddl_cursor.specs.Reading.{Fault, fails, one_at}
use Rattle.ppddl_cursor.specs.Sequences.{of_word, word_or_group, checking, in_group, group_with, one_then, last, giving, adding, located, keyword}
use Rattle.ppddl_forms.specs.Sequences.{or_word, each_to}
use Rattle.ppddl_forms.specs.Words.{name, variable, probability, reward}
use Rattle.ppddl_forms.specs.Variables.{other_variable, listed_by, listed, variables, variable_list}
use Rattle.ppddl_forms.specs.Terms.{Scope, plain_term, term, argument, next_argument, arguments, applied, application, atom_in, atom}
use Rattle.ppddl_forms.specs.Chances.{next_chance}
use Rattle.ppddl_forms.specs.Costs.{function_in, function_group, group_cost, cost_value, cost}
use Rattle.ppddl_forms.specs.Conditions.{equality, condition, condition_in, negation, conditions}
use Rattle.ppddl_forms.specs.Effects.{deletion, effect, effect_in, effects, for_all, for_each, conditional, guarded, branches, branch}

abbrev declared_by : Task → Declared
declared_by task = record { types = task.domain.types; objects = task.problem.objects; predicates = task.domain.predicates; functions = task.domain.functions }

-- what is read of the one form of a text
abbrev read_by : {A : Type 0} → (Form → Result A Fault) → List ℕ → Result (List Token) LexRefusal → Result A Fault
read_by read text (Ok ts) = one_at read (text_ahead text 1 ts) >>= λ y. Ok y.0
read_by read text (Err e) = fails code.BadByte (record { file = 1; line = 0 })

unfoldable condition_text : Declared → Scope → List ℕ → Result Condition Fault
condition_text d s text = read_by (condition d s) text (tokens_of text)

unfoldable effect_text : Declared → Scope → List ℕ → Result Effect Fault
effect_text d s text = read_by (effect d s) text (tokens_of text)

-- on line 1
abbrev refused_as : {A : Type 0} → TextCode → Result A Fault
refused_as c = fails c (record { file = 1; line = 1 })

-- ---- the triangle tire world

abbrev tire_names : Declared
tire_names = declared_by tire

is_move_condition : condition_text tire_names (move_car.params ∷ []) (codes "(and (vehicle-at ?from) (road ?from ?to) (not-flattire))") ≡ Ok move_car.condition
unfolding condition_text one_at condition condition_in conditions atom_in one_then name of_word application applied giving arguments each_to next_argument argument checking located plain_term
is_move_condition = refl

is_move_effect : effect_text tire_names (move_car.params ∷ []) (codes "(and (vehicle-at ?to) (not (vehicle-at ?from)) (probabilistic 0.5 (not (not-flattire))))") ≡ Ok move_car.effect
unfolding effect_text one_at effect effect_in effects branches branch next_chance probability deletion atom atom_in in_group last one_then name of_word application applied giving arguments each_to next_argument argument checking located plain_term
is_move_effect = refl

is_changetire_condition : condition_text tire_names (changetire.params ∷ []) (codes "(and (spare-in ?loc) (vehicle-at ?loc))") ≡ Ok changetire.condition
unfolding condition_text one_at condition condition_in conditions atom_in one_then name of_word application applied giving arguments each_to next_argument argument checking located plain_term
is_changetire_condition = refl

is_changetire_effect : effect_text tire_names (changetire.params ∷ []) (codes "(and (not (spare-in ?loc)) (not-flattire))") ≡ Ok changetire.effect
unfolding effect_text one_at effect effect_in effects deletion atom atom_in in_group last one_then name of_word application applied giving arguments each_to next_argument argument checking located plain_term
is_changetire_effect = refl

-- one argument is missing
misses_an_argument : condition_text tire_names (move_car.params ∷ []) (codes "(and (vehicle-at ?from) (road ?from) (not-flattire))") ≡ refused_as code.Arity
unfolding condition_text one_at condition condition_in conditions atom_in one_then name of_word application applied giving arguments each_to next_argument argument checking located plain_term
misses_an_argument = refl

-- a variable that is not in sight
misses_a_variable : condition_text tire_names (changetire.params ∷ []) (codes "(and (spare-in ?loc) (vehicle-at ?to))") ≡ refused_as code.UnknownName
unfolding condition_text one_at condition condition_in conditions atom_in one_then name of_word application applied giving arguments each_to next_argument argument checking located plain_term
misses_a_variable = refl

-- a probability above 1
misses_a_point : effect_text tire_names (move_car.params ∷ []) (codes "(and (vehicle-at ?to) (not (vehicle-at ?from)) (probabilistic 5 (not (not-flattire))))") ≡ refused_as code.Probability
unfolding effect_text one_at effect effect_in effects branches branch next_chance probability deletion atom atom_in in_group last one_then name of_word application applied giving arguments each_to next_argument argument checking located plain_term
misses_a_point = refl

-- ---- the haul

is_haul_effect : effect_text (declared_by whole_haul) (go.params ∷ []) (codes "(and (at ?y) (not (at ?x)) (decrease (reward) (length ?x ?y)))") ≡ Ok go.effect
unfolding effect_text one_at effect effect_in effects cost reward word_or_group group_with keyword cost_value group_cost function_group function_in deletion atom atom_in in_group last one_then name of_word application applied giving arguments each_to next_argument argument checking located plain_term
is_haul_effect = refl

-- an `increase` is no cost
misses_the_sense : effect_text (declared_by whole_haul) (go.params ∷ []) (codes "(and (at ?y) (not (at ?x)) (increase (reward) (length ?x ?y)))") ≡ refused_as code.Unsupported
unfolding effect_text one_at effect effect_in effects deletion atom atom_in in_group last one_then name of_word application applied giving arguments each_to next_argument argument checking located plain_term
misses_the_sense = refl

-- ---- a `forall` with a `when` and a `probabilistic` within

abbrev at : List ℕ → Atom
at v = record { predicate = codes "at"; args = Variable v ∷ [] }

abbrev moved : Effect
moved = effect_of.Forall (record { name = codes "?z"; kinds = codes "object" ∷ [] } ∷ [])
    (effect_of.When (condition_of.Not (condition_of.Equal (Variable (codes "?z")) (Variable (codes "?x"))))
    (effect_of.Chance (record { chance = record { num = 1; den = 3 }; effect = effect_of.Delete (at (codes "?z")) } ∷ [])))

is_moved : effect_text (declared_by whole_haul) (go.params ∷ []) (codes "(forall (?z) (when (not (= ?z ?x)) (probabilistic 1/3 (not (at ?z)))))") ≡ Ok moved
unfolding effect_text one_at effect effect_in for_all for_each variable_list variables listed listed_by or_word other_variable variable adding conditional guarded condition condition_in negation equality term branches branch next_chance probability deletion atom atom_in in_group last one_then name of_word application applied giving arguments each_to next_argument argument checking located plain_term
is_moved = refl

-- a list of variables is a group
misses_a_parenthesis : effect_text (declared_by whole_haul) (go.params ∷ []) (codes "(forall ?z (when (not (= ?z ?x)) (probabilistic 1/3 (not (at ?z)))))") ≡ refused_as code.Expected
unfolding effect_text one_at effect effect_in for_all variable_list in_group
misses_a_parenthesis = refl

-- a sum above 1
misses_a_digit : effect_text (declared_by whole_haul) (go.params ∷ []) (codes "(probabilistic 1/3 (at ?x) 2/3 (at ?y) 0.1 (not (at ?x)))") ≡ refused_as code.SumAboveOne
unfolding effect_text one_at effect effect_in branches branch next_chance probability deletion atom atom_in in_group last one_then name of_word application applied giving arguments each_to next_argument argument checking located plain_term
misses_a_digit = refl
