-- Worked examples, which compute: the text of the haul's problem, and texts that miss it by a little.
use Rattle.std.specs.Prelude.{◌≡◌, ℕ, List, [], ◌∷◌, ◌++◌, None, Result, Ok, Err, codes}
use Rattle.std.proofs.Common.{refl}
use Rattle.std.specs.List.{flat_map}
use Rattle.plain_list.specs.Results.{◌>>=◌}
use Rattle.ppddl_lex.specs.declared.refusal.LexRefusal.{LexRefusal}
use Rattle.ppddl_lex.specs.declared.token.Token.{Token}
use Rattle.ppddl_lex.specs.Lexemes.{tokens_of}
use Rattle.ppddl_model.specs.declared.refusal.TextCode.{TextCode}
use Rattle.ppddl_model.specs.declared.refusal.TextCode.TheVariants as code
use Rattle.ppddl_model.specs.declared.tree.Condition.TheVariants as condition
use Rattle.ppddl_model.specs.declared.tree.Problem.{Problem}
use Rattle.ppddl_model.specs.examples.Haul.{whole_haul}
use Rattle.ppddl_forms.specs.names.Declarations.{Declared}
use Rattle.ppddl_cursor.specs.Pieces.{text_ahead}
use Rattle.ppddl_cursor.specs.Reading.{Fault, fails, one_at}
use Rattle.ppddl_cursor.specs.Sequences.{of_word, word_or_group, in_group, group_with, one_then, last, giving, each, adding, checking, located, keyword}
use Rattle.ppddl_forms.specs.declared.name.Name.{Name}
use Rattle.ppddl_forms.specs.Conditions.{condition, condition_in, conditions}
use Rattle.ppddl_forms.specs.Costs.{bare_function, function_in, function_group, function_term}
use Rattle.ppddl_forms.specs.Sequences.{or_word, each_to, refused}
use Rattle.ppddl_forms.specs.Terms.{plain_term, argument, next_argument, arguments, applied, application, atom_in, atom}
use Rattle.ppddl_forms.specs.Words.{name, flag, amount, reward}
use Rattle.ppddl_forms.specs.items.Items.{value, item_in, item}
use Rattle.ppddl_forms.specs.items.Sequences.{skipped, by_head}
use Rattle.ppddl_forms.specs.objects.Objects.{object_type, typed, listed_by, listed, objects_behind}
use Rattle.ppddl_reader.specs.sections.Goals.{flags, domain_name, goal, goal_reward, sense, metric_value, metric}
use Rattle.ppddl_reader.specs.sections.Sequences.{whole_or}
use Rattle.ppddl_reader.specs.sections.Starts.{started, start_behind}
use Rattle.ppddl_reader.specs.problems.Problems.{section_flag, section, sections, problem}

-- what the domain of the haul declares
abbrev haul_names : Declared
haul_names = record {
  types = whole_haul.domain.types;
  objects = whole_haul.domain.constants;
  predicates = whole_haul.domain.predicates;
  functions = whole_haul.domain.functions;
}

abbrev heading : Name
heading = record { text = codes "haul-1"; place = record { file = 1; line = 7 } }

abbrev read_by : List ℕ → Result (List Token) LexRefusal → Result Problem Fault
read_by text (Ok ts) = one_at (in_group (problem heading (codes "haul") haul_names)) (text_ahead text 1 ts) >>= λ y. Ok y.0.0
read_by text (Err e) = fails code.BadByte (record { file = 1; line = 0 })

-- the problem of the name `haul-1` behind it, between `(` and `)`; each line has its line feed
unfoldable problem_text : List (List ℕ) → Result Problem Fault
problem_text lines = read_by (flat_map (λ l. l ++ 10 ∷ []) lines) (tokens_of (flat_map (λ l. l ++ 10 ∷ []) lines))

abbrev at_line : TextCode → ℕ → Result Problem Fault
at_line c n = fails c (record { file = 1; line = n })

-- ---- what is accepted

abbrev init_lines : List (List ℕ)
init_lines =
    codes "(:init (at a) (road a b) (road b c) (road a c)" ∷ codes "(= (length a b) 1.5) (= (length b c) 2) (= (length a c) 4))" ∷ []

is_haul : problem_text
    (codes "((:domain haul) (:requirements :typing)" ∷ codes "(:objects a b - object c)" ∷ init_lines
    ++ codes "(:goal (at c)) (:goal-reward 10) (:metric maximize (reward)))" ∷ []) ≡ Ok whole_haul.problem
unfolding of_word word_or_group in_group group_with one_then last giving each adding checking located keyword one_at or_word each_to refused name flag amount reward plain_term argument next_argument arguments applied application atom_in atom bare_function function_in function_group function_term condition condition_in conditions skipped by_head value item_in item object_type typed listed_by listed objects_behind whole_or flags domain_name goal goal_reward sense metric_value metric started start_behind section_flag section sections problem_text
is_haul = refl

-- in another order, and in letters of either case
is_haul_again : problem_text
    (codes "((:METRIC Maximize Reward) (:Objects A B C)" ∷ codes "(:goal (AT c))" ∷ init_lines ++ codes "(:goal-reward 10.0) (:domain Haul))" ∷ []) ≡ Ok whole_haul.problem
unfolding of_word word_or_group in_group group_with one_then last giving each adding checking located keyword one_at or_word each_to refused name flag amount reward plain_term argument next_argument arguments applied application atom_in atom bare_function function_in function_group function_term condition condition_in conditions skipped by_head value item_in item object_type typed listed_by listed objects_behind whole_or flags domain_name goal goal_reward sense metric_value metric started start_behind section_flag section sections problem_text
is_haul_again = refl

-- a domain and a goal are enough
is_least : problem_text (codes "((:goal ()) (:domain haul))" ∷ [])
    ≡ Ok (record { name = codes "haul-1"; file = 1; line = 7; objects = []; init = []; values = []; goal = condition.All []; goal_reward = None })
unfolding of_word word_or_group in_group group_with one_then last giving each adding checking located keyword one_at or_word each_to refused name flag amount reward plain_term argument next_argument arguments applied application atom_in atom bare_function function_in function_group function_term condition condition_in conditions skipped by_head value item_in item object_type typed listed_by listed objects_behind whole_or flags domain_name goal goal_reward sense metric_value metric started start_behind section_flag section sections problem_text
is_least = refl

-- ---- what is refused

-- no goal, and no domain: at the `)`
misses_a_section : problem_text (codes "((:domain haul)" ∷ codes "(:goal-reward 10)" ∷ codes ")" ∷ [])
    ∷ problem_text (codes "((:goal ())" ∷ codes ")" ∷ []) ∷ []
    ≡ at_line code.Expected 3 ∷ at_line code.Expected 2 ∷ []
unfolding of_word word_or_group in_group group_with one_then last giving each adding checking located keyword one_at or_word each_to refused name flag amount reward plain_term argument next_argument arguments applied application atom_in atom bare_function function_in function_group function_term condition condition_in conditions skipped by_head value item_in item object_type typed listed_by listed objects_behind whole_or flags domain_name goal goal_reward sense metric_value metric started start_behind section_flag section sections problem_text
misses_a_section = refl

-- a section that stood, one that a domain has, one that no text has, and a word that is no flag
misses_a_flag : problem_text (codes "((:init)" ∷ codes "(:init)" ∷ codes ")" ∷ [])
    ∷ problem_text (codes "((:types place))" ∷ []) ∷ problem_text (codes "((:constraints))" ∷ []) ∷ problem_text (codes "((goal ()))" ∷ []) ∷ []
    ≡ at_line code.Twice 2 ∷ at_line code.Expected 1 ∷ at_line code.Unsupported 1 ∷ at_line code.Expected 1 ∷ []
unfolding of_word word_or_group in_group group_with one_then last giving each adding checking located keyword one_at or_word each_to refused name flag amount reward plain_term argument next_argument arguments applied application atom_in atom bare_function function_in function_group function_term condition condition_in conditions skipped by_head value item_in item object_type typed listed_by listed objects_behind whole_or flags domain_name goal goal_reward sense metric_value metric started start_behind section_flag section sections problem_text
misses_a_flag = refl

-- another domain, and a goal that names an object which is declared behind it
misses_a_name : problem_text (codes "((:domain hauls)" ∷ codes "(:goal ()))" ∷ [])
    ∷ problem_text (codes "((:domain haul)" ∷ codes "(:goal (at c))" ∷ codes "(:objects c))" ∷ []) ∷ []
    ≡ at_line code.DomainName 1 ∷ at_line code.UnknownName 2 ∷ []
unfolding of_word word_or_group in_group group_with one_then last giving each adding checking located keyword one_at or_word each_to refused name flag amount reward plain_term argument next_argument arguments applied application atom_in atom bare_function function_in function_group function_term condition condition_in conditions skipped by_head value item_in item object_type typed listed_by listed objects_behind whole_or flags domain_name goal goal_reward sense metric_value metric started start_behind section_flag section sections problem_text
misses_a_name = refl
