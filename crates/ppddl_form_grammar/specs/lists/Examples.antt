-- Worked examples, which compute: lists of objects and items of `:init` that are accepted, and texts that miss such forms by one token.
use Rattle.std.specs.Prelude.{◌≡◌, ℕ, List, [], ◌∷◌, Result, Ok, Err, codes}
use Rattle.std.proofs.Common.{refl}
use Rattle.plain_list.specs.Results.{◌>>=◌}
use Rattle.ppddl_lex.specs.declared.refusal.LexRefusal.{LexRefusal}
use Rattle.ppddl_lex.specs.declared.token.Token.{Token}
use Rattle.ppddl_lex.specs.Lexemes.{tokens_of}
use Rattle.ppddl_model.specs.declared.refusal.TextCode.{TextCode}
use Rattle.ppddl_model.specs.declared.refusal.TextCode.TheVariants as code
use Rattle.ppddl_model.specs.declared.tree.Atom.{Atom}
use Rattle.ppddl_model.specs.declared.tree.InitItem.{InitItem}
use Rattle.ppddl_model.specs.declared.tree.InitItem.TheVariants as tree
use Rattle.ppddl_model.specs.declared.tree.ObjectDecl.{ObjectDecl}
use Rattle.ppddl_model.specs.declared.tree.Term.TheVariants.{Object}
use Rattle.ppddl_model.specs.declared.tree.ValueItem.{ValueItem}
use Rattle.ppddl_model.specs.examples.Haul.{whole_haul}
use Rattle.ppddl_forms.specs.names.Declarations.{Declared}
use Rattle.ppddl_cursor.specs.Forms.{Form}
use Rattle.ppddl_cursor.specs.Pieces.{text_ahead}
use Rattle.ppddl_cursor.specs.Reading.{Fault, fails, one_at}
use Rattle.ppddl_cursor.specs.Sequences.{of_word, word_or_group, in_group, one_then, last, optional, giving, each, adding, checking, located}
use Rattle.ppddl_forms.specs.Sequences.{or_word, each_to, many_behind}
use Rattle.ppddl_forms.specs.Words.{name, probability, amount}
use Rattle.ppddl_forms.specs.Terms.{plain_term, argument, next_argument, arguments, applied, application, atom_in, atom}
use Rattle.ppddl_forms.specs.Chances.{next_chance}
use Rattle.ppddl_forms.specs.Costs.{bare_function, function_in, function_group, function_term}
use Rattle.ppddl_forms.specs.items.Sequences.{skipped, unsupported, by_head, pairs, second_of}
use Rattle.ppddl_forms.specs.items.Items.{branch_of, negative, added_by, added_in, added, next_branch, branches, value, item_in, item}
use Rattle.ppddl_forms.specs.objects.Objects.{object_type, typed, listed_by, listed, objects_behind, objects}
use Rattle.ppddl_form_grammar.specs.lists.Items.{value_of}
use Rattle.ppddl_form_grammar.specs.lists.Objects.{object_of}

abbrev haul_names : Declared
haul_names = record {
  types = whole_haul.domain.types;
  objects = whole_haul.problem.objects;
  predicates = whole_haul.domain.predicates;
  functions = whole_haul.domain.functions;
}

-- what is read of the one form of a text
abbrev read_by : {A : Type 0} → (Form → Result A Fault) → List ℕ → Result (List Token) LexRefusal → Result A Fault
read_by read text (Ok ts) = one_at read (text_ahead text 1 ts) >>= λ y. Ok y.0
read_by read text (Err e) = fails code.BadByte (record { file = 1; line = 0 })

unfoldable objects_text : List ℕ → Result (List ObjectDecl) Fault
objects_text text = read_by (in_group (objects haul_names)) text (tokens_of text)

unfoldable item_text : List ValueItem → List ℕ → Result InitItem Fault
item_text values text = read_by (item haul_names values) text (tokens_of text)

-- on line 1
abbrev refused_as : {A : Type 0} → TextCode → Result A Fault
refused_as c = fails c (record { file = 1; line = 1 })

abbrev at : List ℕ → Atom
at o = record { predicate = codes "at"; args = Object o ∷ [] }

abbrev length_of : List ℕ → List ℕ → Atom
length_of o p = record { predicate = codes "length"; args = Object o ∷ Object p ∷ [] }

-- ---- lists of objects: the haul has declared `a`, `b` and `c`, all of type `object`

-- `a` is declared again with its type; `e` has none
is_list : objects_text (codes "(a d - object e)") ≡ Ok (object_of (codes "a") (codes "object") ∷ object_of (codes "d") (codes "object") ∷ object_of (codes "e") (codes "object") ∷ [])
unfolding of_word word_or_group in_group adding checking one_at or_word each_to name object_type typed listed_by listed objects_behind unsupported objects_text
is_list = refl

-- no type behind the dash
misses_a_type : objects_text (codes "(a d - )") ≡ refused_as code.Expected
unfolding of_word word_or_group in_group adding checking one_at or_word each_to name object_type typed listed_by listed objects_behind unsupported objects_text
misses_a_type = refl

-- no object before the dash
misses_an_object : objects_text (codes "(- object)") ≡ refused_as code.Expected
unfolding of_word word_or_group in_group adding checking one_at or_word each_to name object_type typed listed_by listed objects_behind unsupported objects_text
misses_an_object = refl

-- a type that is not declared
misses_a_declaration : objects_text (codes "(d - depot)") ≡ refused_as code.UnknownName
unfolding of_word word_or_group in_group adding checking one_at or_word each_to name object_type typed listed_by listed objects_behind unsupported objects_text
misses_a_declaration = refl

-- and that another declaration of `a` does not have, which comes first
misses_the_first_type : objects_text (codes "(a - depot)") ≡ refused_as code.Twice
unfolding of_word word_or_group in_group adding checking one_at or_word each_to name object_type typed listed_by listed objects_behind unsupported objects_text
misses_the_first_type = refl

-- ---- items of `:init`

-- a fact
is_fact : item_text [] (codes "(at a)") ≡ Ok (tree.Fact (at (codes "a")))
unfolding of_word word_or_group in_group one_then last optional giving checking located each adding one_at each_to many_behind name probability amount plain_term argument next_argument arguments applied application atom_in atom next_chance bare_function function_in function_group function_term skipped unsupported by_head pairs second_of negative added_by added_in added next_branch branches value item_in item item_text
is_fact = refl

-- what is denied adds nothing
is_denial : item_text [] (codes "(not (at a))") ≡ Ok (tree.Chance [])
unfolding of_word word_or_group in_group one_then last optional giving checking located each adding one_at each_to many_behind name probability amount plain_term argument next_argument arguments applied application atom_in atom next_chance bare_function function_in function_group function_term skipped unsupported by_head pairs second_of negative added_by added_in added next_branch branches value item_in item item_text
is_denial = refl

-- two branches
is_chance : item_text [] (codes "(probabilistic 1/3 (at a) 0.5 (and (at b) (at c)))")
    ≡ Ok (tree.Chance (branch_of (record { num = 1; den = 3 }) (at (codes "a") ∷ []) ∷ branch_of (record { num = 1; den = 2 }) (at (codes "b") ∷ at (codes "c") ∷ []) ∷ []))
unfolding of_word word_or_group in_group one_then last optional giving checking located each adding one_at each_to many_behind name probability amount plain_term argument next_argument arguments applied application atom_in atom next_chance bare_function function_in function_group function_term skipped unsupported by_head pairs second_of negative added_by added_in added next_branch branches value item_in item item_text
is_chance = refl

-- a value, in micro-units
is_value : item_text [] (codes "(= (length a b) 1.5)") ≡ Ok (tree.Value (value_of (length_of (codes "a") (codes "b")) 1500000))
unfolding of_word word_or_group in_group one_then last optional giving checking located each adding one_at each_to many_behind name probability amount plain_term argument next_argument arguments applied application atom_in atom next_chance bare_function function_in function_group function_term skipped unsupported by_head pairs second_of negative added_by added_in added next_branch branches value item_in item item_text
is_value = refl

-- no variable is in sight
misses_a_name : item_text [] (codes "(at ?a)") ≡ refused_as code.UnknownName
unfolding of_word word_or_group in_group one_then last optional giving checking located each adding one_at each_to many_behind name probability amount plain_term argument next_argument arguments applied application atom_in atom next_chance bare_function function_in function_group function_term skipped unsupported by_head pairs second_of negative added_by added_in added next_branch branches value item_in item item_text
misses_a_name = refl

-- an atom in a group of its own
misses_a_head : item_text [] (codes "(and (at a))") ≡ refused_as code.Unsupported
unfolding of_word word_or_group in_group one_then last optional giving checking located each adding one_at each_to many_behind name probability amount plain_term argument next_argument arguments applied application atom_in atom next_chance bare_function function_in function_group function_term skipped unsupported by_head pairs second_of negative added_by added_in added next_branch branches value item_in item item_text
misses_a_head = refl

-- a sum above 1
misses_a_digit : item_text [] (codes "(probabilistic 1/2 (at a) 0.6 (at b))") ≡ refused_as code.SumAboveOne
unfolding of_word word_or_group in_group one_then last optional giving checking located each adding one_at each_to many_behind name probability amount plain_term argument next_argument arguments applied application atom_in atom next_chance bare_function function_in function_group function_term skipped unsupported by_head pairs second_of negative added_by added_in added next_branch branches value item_in item item_text
misses_a_digit = refl

-- a function has one value
misses_the_value : item_text (value_of (length_of (codes "a") (codes "b")) 1500000 ∷ []) (codes "(= (length a b) 2)") ≡ refused_as code.Twice
unfolding of_word word_or_group in_group one_then last optional giving checking located each adding one_at each_to many_behind name probability amount plain_term argument next_argument arguments applied application atom_in atom next_chance bare_function function_in function_group function_term skipped unsupported by_head pairs second_of negative added_by added_in added next_branch branches value item_in item item_text
misses_the_value = refl
