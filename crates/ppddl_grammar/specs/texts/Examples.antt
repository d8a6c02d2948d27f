-- Worked examples, which compute: the texts of the coin, the triangle tire world, in one text and in two, and the haul are read as their tasks.
use Rattle.std.specs.Prelude.{◌≡◌, ℕ, List, [], ◌∷◌, ◌++◌, take, drop, Some, None, Ok, codes}
use Rattle.std.specs.List.{flat_map}
use Rattle.std.proofs.Common.{refl}
use Rattle.ppddl_model.specs.declared.tree.Task.{Task}
use Rattle.ppddl_model.specs.examples.Coin.{coin}
use Rattle.ppddl_model.specs.examples.Haul.{whole_haul}
use Rattle.ppddl_model.specs.examples.Tire.{tire}
use Rattle.ppddl_reader.specs.tasks.Texts.{task_of}
use Rattle.ppddl_cursor.specs.Reading.{one_at, rest_at, all_at}
use Rattle.ppddl_cursor.specs.Sequences.{of_word, in_group, word_or_group, checking, refused_if, one_then, last, optional, giving, each, adding, many, located, keyword, group_with}
use Rattle.ppddl_forms.specs.Chances.{next_chance}
use Rattle.ppddl_forms.specs.Conditions.{equality, condition, condition_in, negation, conditions}
use Rattle.ppddl_forms.specs.Costs.{bare_function, function_in, function_group, function_term, amount_cost, function_cost, word_cost, group_cost, cost_value, cost}
use Rattle.ppddl_forms.specs.Effects as effect_by
use Rattle.ppddl_forms.specs.Sequences.{by_word, or_word, many_behind, refused, each_to}
use Rattle.ppddl_forms.specs.Terms.{plain_term, term, argument, next_argument, arguments, applied, application, atom_in, atom}
use Rattle.ppddl_forms.specs.Variables as variable_by
use Rattle.ppddl_forms.specs.Words.{name, variable, flag, amount, probability, reward}
use Rattle.ppddl_forms.specs.items.Items as item_by
use Rattle.ppddl_forms.specs.items.Sequences.{skipped, unsupported, by_head, pairs, second_of}
use Rattle.ppddl_forms.specs.objects.Objects as object_by
use Rattle.ppddl_reader.specs.sections.Actions as action_by
use Rattle.ppddl_reader.specs.sections.Goals as goal_by
use Rattle.ppddl_reader.specs.sections.Predicates as predicate_by
use Rattle.ppddl_reader.specs.sections.Sequences.{typed_list, typing_behind, whole_or}
use Rattle.ppddl_reader.specs.sections.Starts.{started, start_behind}
use Rattle.ppddl_reader.specs.sections.Types.{another_type, parent_type, types_under}
use Rattle.ppddl_reader.specs.domains.Domains as domain_by
use Rattle.ppddl_reader.specs.problems.Problems as problem_by
use Rattle.ppddl_reader.specs.tasks.Texts as text_by

-- lines of text, each with its line feed
abbrev text : List (List ℕ) → List ℕ
text lines = flat_map (λ l. l ++ 10 ∷ []) lines

abbrev coin_lines : List (List ℕ)
coin_lines =
    codes "(define (domain coin)" ∷
    codes "  (:requirements :mdp)" ∷
    codes "  (:predicates (done))" ∷
    codes "  (:action flip" ∷
    codes "    :effect (and (decrease (reward) 1) (probabilistic 0.5 (done)))))" ∷
    codes "(define (problem toss)" ∷
    codes "  (:domain coin)" ∷
    codes "  (:init)" ∷
    codes "  (:goal (done))" ∷
    codes "  (:goal-reward 10)" ∷
    codes "  (:metric maximize (reward)))" ∷ []

abbrev tire_lines : List (List ℕ)
tire_lines =
    codes "(define (domain triangle-tire)" ∷
    codes "  (:requirements :typing :strips :equality :probabilistic-effects)" ∷
    codes "  (:types location)" ∷
    codes "  (:predicates (vehicle-at ?loc - location) (spare-in ?loc - location)" ∷
    codes "    (road ?from - location ?to - location) (not-flattire))" ∷
    codes "  (:action move-car" ∷
    codes "    :parameters (?from - location ?to - location)" ∷
    codes "    :precondition (and (vehicle-at ?from) (road ?from ?to) (not-flattire))" ∷
    codes "    :effect (and (vehicle-at ?to) (not (vehicle-at ?from))" ∷
    codes "      (probabilistic 0.5 (not (not-flattire)))))" ∷
    codes "  (:action changetire" ∷
    codes "    :parameters (?loc - location)" ∷
    codes "    :precondition (and (spare-in ?loc) (vehicle-at ?loc))" ∷
    codes "    :effect (and (not (spare-in ?loc)) (not-flattire))))" ∷
    codes "(define (problem triangle-tire-1)" ∷
    codes "  (:domain triangle-tire)" ∷
    codes "  (:objects l1 l2 l3 - location)" ∷
    codes "  (:init (vehicle-at l1) (road l1 l2) (road l2 l3) (spare-in l2) (not-flattire))" ∷
    codes "  (:goal (vehicle-at l3)))" ∷ []

abbrev haul_lines : List (List ℕ)
haul_lines =
    codes "(define (domain haul)" ∷
    codes "  (:predicates (at ?x) (road ?x ?y))" ∷
    codes "  (:functions (length ?x ?y) - number)" ∷
    codes "  (:action go :parameters (?x ?y)" ∷
    codes "    :precondition (and (at ?x) (road ?x ?y))" ∷
    codes "    :effect (and (at ?y) (not (at ?x)) (decrease (reward) (length ?x ?y)))))" ∷
    codes "(define (problem haul-1)" ∷
    codes "  (:domain haul) (:objects a b c)" ∷
    codes "  (:init (at a) (road a b) (road b c) (road a c)" ∷
    codes "    (= (length a b) 1.5) (= (length b c) 2) (= (length a c) 4))" ∷
    codes "  (:goal (at c)) (:goal-reward 10))" ∷ []

-- the file and the line of a problem are where its name stands
abbrev tire_in_two : Task
tire_in_two = record tire { problem = record tire.problem { file = 2; line = 1 } }

are_read : task_of (text coin_lines) None ∷ task_of (text tire_lines) None ∷ task_of (text (take 14 tire_lines)) (Some (text (drop 14 tire_lines)))
    ∷ task_of (text haul_lines) None ∷ []
    ≡ Ok coin ∷ Ok tire ∷ Ok tire_in_two ∷ Ok whole_haul ∷ []
unfolding one_at rest_at all_at of_word in_group word_or_group checking refused_if one_then last optional giving each adding many located keyword group_with next_chance equality condition condition_in negation conditions bare_function function_in function_group function_term amount_cost function_cost word_cost group_cost cost_value cost effect_by.deletion effect_by.effect effect_by.effect_in effect_by.effects effect_by.for_all effect_by.for_each effect_by.conditional effect_by.guarded effect_by.branches effect_by.branch by_word or_word many_behind refused each_to plain_term term argument next_argument arguments applied application atom_in atom variable_by.type_name variable_by.one_type variable_by.type_names variable_by.either_type variable_by.types_of variable_by.other_variable variable_by.listed_by variable_by.listed variable_by.variables variable_by.variable_list name variable flag amount probability reward item_by.negative item_by.added_by item_by.added_in item_by.added item_by.next_branch item_by.branches item_by.value item_by.item_in item_by.item skipped unsupported by_head pairs second_of object_by.object_type object_by.typed object_by.listed_by object_by.listed object_by.objects_behind action_by.field action_by.params_field action_by.condition_field action_by.effect_field action_by.fields action_by.new_action action_by.action goal_by.flags goal_by.domain_name goal_by.goal goal_by.goal_reward goal_by.sense goal_by.metric_value goal_by.metric predicate_by.new_predicate predicate_by.predicate predicate_by.new_function predicate_by.function predicate_by.predicates predicate_by.another_function predicate_by.numbers typed_list typing_behind whole_or started start_behind another_type parent_type types_under domain_by.section_flag domain_by.another_action domain_by.section domain_by.sections domain_by.domain problem_by.section_flag problem_by.section problem_by.sections text_by.heading_word text_by.heading text_by.definition text_by.definitions text_by.task_of
are_read = refl
