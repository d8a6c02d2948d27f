-- Words. Letters A to Z are read as a to z.
--     lowered w             the word w with its letters lowered; what a reader compares and keeps
--     is_same_word w lower  w is this word of small letters
--     is_reserved w         w is a word of the language, and no name
--     is_name w             a letter, then letters, digits, `-` and `_`, and not reserved
--     is_variable w         `?` and such a word, reserved or not
--     is_flag w             a word that begins with `:`
use Rattle.std.specs.Prelude.{◌≡◌, ℕ, List, [], ◌∷◌, codes, Bool, true, false, not, ◌==◌, ◌&&◌, ◌||◌, refl}
use Rattle.std.specs.Char.{is_ascii_alphabetic, is_ascii_alphanumeric}
use Rattle.std.specs.List.{list_any, list_all}
use Rattle.std.specs.Str.{bytes_eq, str_to_ascii_lowercase}
use Rattle.ppddl_lex.specs.declared.keywords.TheConstants.{DEFINE, DOMAIN, PROBLEM, MAXIMIZE}
use Rattle.ppddl_lex.specs.declared.keywords.TheConstants.{ACTION_FLAG, DOMAIN_FLAG, EFFECT_FLAG, GOAL_FLAG, GOAL_REWARD_FLAG}
use Rattle.ppddl_lex.specs.declared.keywords.TheConstants.{INIT_FLAG, METRIC_FLAG, PREDICATES_FLAG, REQUIREMENTS_FLAG}
use Rattle.ppddl_lex.specs.declared.keywords.TheConstants.{AND, OR, NOT, IMPLY, EXISTS, FORALL, WHEN, PROBABILISTIC}
use Rattle.ppddl_lex.specs.declared.keywords.TheConstants.{INCREASE, DECREASE, ASSIGN, SCALE_UP, SCALE_DOWN, EITHER, REWARD}

abbrev pub lowered : List ℕ → List ℕ
lowered = str_to_ascii_lowercase

abbrev pub is_same_word : List ℕ → List ℕ → Bool
is_same_word w lower = bytes_eq (lowered w) lower

-- a letter, a digit, `-` or `_`
abbrev pub is_name_byte : ℕ → Bool
is_name_byte b = is_ascii_alphanumeric b || b == 45 || b == 95

abbrev pub has_name_form : List ℕ → Bool
has_name_form [] = false
has_name_form (b ∷ bs) = is_ascii_alphabetic b && list_all is_name_byte bs

abbrev pub reserved_words : List (List ℕ)
reserved_words =
    AND.now ∷ OR.now ∷ NOT.now ∷ IMPLY.now ∷ EXISTS.now ∷ FORALL.now ∷ WHEN.now ∷ PROBABILISTIC.now
    ∷ INCREASE.now ∷ DECREASE.now ∷ ASSIGN.now ∷ SCALE_UP.now ∷ SCALE_DOWN.now ∷ EITHER.now ∷ REWARD.now ∷ []

abbrev pub is_reserved : List ℕ → Bool
is_reserved w = list_any (is_same_word w) reserved_words

abbrev pub is_name : List ℕ → Bool
is_name w = has_name_form w && not (is_reserved w)

abbrev pub is_variable : List ℕ → Bool
is_variable [] = false
is_variable (b ∷ bs) = b == 63 && has_name_form bs

abbrev pub is_flag : List ℕ → Bool
is_flag [] = false
is_flag (b ∷ bs) = b == 58

-- ---- laws

abbrev pub LoweringIsIdempotent : Type 0
LoweringIsIdempotent = (w : List ℕ) → lowered (lowered w) ≡ lowered w

abbrev pub CaseOfNamesIsFree : Type 0
CaseOfNamesIsFree = (w : List ℕ) → is_name (lowered w) ≡ is_name w

-- ---- worked examples

example_reserved_words : reserved_words ≡
    codes "and" ∷ codes "or" ∷ codes "not" ∷ codes "imply" ∷ codes "exists" ∷ codes "forall" ∷ codes "when" ∷ codes "probabilistic"
    ∷ codes "increase" ∷ codes "decrease" ∷ codes "assign" ∷ codes "scale-up" ∷ codes "scale-down" ∷ codes "either" ∷ codes "reward" ∷ []
example_reserved_words = refl

example_words_of_definitions : DEFINE.now ∷ DOMAIN.now ∷ PROBLEM.now ∷ MAXIMIZE.now ∷ []
    ≡ codes "define" ∷ codes "domain" ∷ codes "problem" ∷ codes "maximize" ∷ []
example_words_of_definitions = refl

example_flags :
    ACTION_FLAG.now ∷ DOMAIN_FLAG.now ∷ EFFECT_FLAG.now ∷ GOAL_FLAG.now ∷ GOAL_REWARD_FLAG.now ∷ INIT_FLAG.now ∷ METRIC_FLAG.now
    ∷ PREDICATES_FLAG.now ∷ REQUIREMENTS_FLAG.now ∷ []
    ≡ codes ":action" ∷ codes ":domain" ∷ codes ":effect" ∷ codes ":goal" ∷ codes ":goal-reward" ∷ codes ":init" ∷ codes ":metric"
    ∷ codes ":predicates" ∷ codes ":requirements" ∷ []
example_flags = refl

example_name : is_name (codes "Move-car_2") ≡ true
example_name = refl

example_reserved : is_name (codes "AND") ≡ false
example_reserved = refl

example_digit_first : is_name (codes "2nd") ≡ false
example_digit_first = refl

example_variable : is_variable (codes "?X") ≡ true
example_variable = refl

example_reserved_variable : is_variable (codes "?and") ≡ true
example_reserved_variable = refl

example_mark_alone : is_variable (codes "?") ≡ false
example_mark_alone = refl

example_flag : is_flag (codes ":types") ≡ true
example_flag = refl
