-- A command's options and positional words as clap's rules.
use Rattle.std.specs.Prelude.{◌≡◌, ℕ, ◌+◌, ◌<◌, ◌≤◌, true, false, List, [], ◌∷◌, ◌++◌, map, length, Option, Some, None, slice_index_or, codes}
use Rattle.std.specs.Str.{bytes_eq}
use Rattle.clap.specs.Walk.{Rule, Row, arg_by_long, arg_by_id, arg_by_index, reading_by}
use Rattle.clap.specs.Simple.{App, Shape, new_rule, new_shape}
use Rattle.clap.specs.declared.builder.action.ArgAction.TheVariants.{Set}
use Rattle.clap.specs.declared.builder.value_parser.ValueParser.TheVariants as vp
use Rattle.clap.specs.declared.parser.matches.ValueSource.TheVariants.{CommandLine}
use Rattle.plan_request.specs.words.Words.{Text, Item, positional, given, is_among}

-- a rule as the command is made
abbrev pub rule : Option Text → Text → Rule
rule long name = record (new_rule name) { long = long; action = Some Set }

abbrev pub option_rule : Text → Rule
option_rule name = rule (Some name) name

abbrev pub positional_rule : Text → Rule
positional_rule name = rule None name

abbrev pub rules : List Text → List Text → List Rule
rules os ps = map option_rule os ++ map positional_rule ps

-- a rule as it is built: one value, taken as it is
abbrev pub built_rule : Option Text → Option ℕ → Text → Rule
built_rule long index name = record (rule long name) {
  index = index;
  parser = Some vp.String;
  range = Some (record { start_inclusive = 1; end_inclusive = 1 });
}

abbrev pub built_option : Text → Rule
built_option name = built_rule (Some name) None name

abbrev pub built_positional : ℕ → Text → Rule
built_positional i name = built_rule None (Some i) name

abbrev pub name_at : List Text → ℕ → Text
name_at ps k = slice_index_or ps k []

-- the rules find each option and each positional word, and their names differ
pub record IsTable (c : List Rule) (os ps : List Text) : Type 0 where
  pub long : (n : Text) → is_among n os ≡ true → arg_by_long c n ≡ Some (built_option n)
  pub id : (n : Text) → is_among n os ≡ true → arg_by_id c n ≡ Some (built_option n)
  pub index : (k : ℕ) → k < length ps → arg_by_index c (k + 1) ≡ Some (built_positional (k + 1) (name_at ps k))
  pub place : (k : ℕ) → k < length ps → arg_by_id c (name_at ps k) ≡ Some (built_positional (k + 1) (name_at ps k))
  pub apart : (k : ℕ) → k < length ps → is_among (name_at ps k) os ≡ false
  pub distinct : (j k : ℕ) → j < k → k < length ps → bytes_eq (name_at ps j) (name_at ps k) ≡ false
  pub few : length ps ≤ 2

-- what clap keeps of one value
abbrev pub row : Text → Text → Row
row name v = record {
  id = name;
  values = v ∷ [];
  count = None;
  source = Some CommandLine;
  reading = reading_by (built_option name);
}

-- what clap keeps of items, where `k` positional words stood before
abbrev pub rows_from : List Text → ℕ → List Item → List Row
rows_from ps k [] = []
rows_from ps k (positional w ∷ is) = row (name_at ps k) w ∷ rows_from ps (k + 1) is
rows_from ps k (given n v ∷ is) = row n v ∷ rows_from ps k is

-- ---- the commands

-- a command: its name, its options, and the ids of its positional words
pub record Form : Type 0 where
  pub name : Text
  pub options : List Text
  pub words : List Text

abbrev pub placed : ℕ → List Text → List Rule
placed i [] = []
placed i (p ∷ ps) = built_positional i p ∷ placed (i + 1) ps

abbrev pub built_rules : List Text → List Text → List Rule
built_rules os ps = map built_option os ++ placed 1 ps

abbrev pub text_options : List Text
text_options = codes "problem" ∷ codes "penalty" ∷ codes "step-cost" ∷ []

abbrev pub check_options : List Text
check_options = codes "cert" ∷ text_options

abbrev pub run_options : List Text
run_options = codes "cert" ∷ codes "problem" ∷ codes "penalty" ∷ codes "step-cost" ∷ codes "gap" ∷ codes "rounds" ∷ codes "trials" ∷ codes "depth" ∷ codes "tau"
    ∷ codes "workers" ∷ codes "states" ∷ codes "sweep-states" ∷ codes "seed" ∷ codes "ends" ∷ codes "progress" ∷ []

abbrev pub solve_options : List Text
solve_options = codes "lower" ∷ run_options

abbrev pub solve_form : Form
solve_form = record { name = codes "solve"; options = solve_options; words = codes "DOMAIN" ∷ [] }

abbrev pub check_form : Form
check_form = record { name = codes "check"; options = check_options; words = codes "DOMAIN" ∷ [] }

abbrev pub serve_form : Form
serve_form = record { name = codes "serve"; options = run_options; words = codes "DOMAIN" ∷ [] }

abbrev pub ground_form : Form
ground_form = record { name = codes "ground"; options = text_options; words = codes "DOMAIN" ∷ [] }

abbrev pub bench_form : Form
bench_form = record { name = codes "bench"; options = []; words = codes "N" ∷ codes "SEED" ∷ [] }

abbrev pub merge_form : Form
merge_form = record { name = codes "merge"; options = codes "with" ∷ codes "into" ∷ check_options; words = codes "DOMAIN" ∷ [] }

abbrev pub walk_form : Form
walk_form = record { name = codes "walk"; options = codes "seed" ∷ codes "walks" ∷ codes "steps" ∷ check_options; words = codes "DOMAIN" ∷ [] }

abbrev pub draw_form : Form
draw_form = record { name = codes "draw"; options = codes "into" ∷ codes "states" ∷ check_options; words = codes "DOMAIN" ∷ [] }

abbrev pub forms : List Form
forms = solve_form ∷ check_form ∷ serve_form ∷ ground_form ∷ bench_form ∷ merge_form ∷ walk_form ∷ draw_form ∷ []

-- ---- the same as clap's command

abbrev pub sub_shape : Form → Shape
sub_shape f = record (new_shape f.name) { rules = rules f.options f.words }

abbrev pub top_shape : Shape
top_shape = record (new_shape (codes "plan")) {
  no_binary_name = true;
  disable_help_flag = true;
  disable_help_subcommand = true;
  disable_version_flag = true;
}

abbrev pub plan_app : List Form → App
plan_app fs = record { top = record top_shape { is_leaf = false }; subs = map sub_shape fs }

abbrev pub built_sub : Form → Shape
built_sub f = record (sub_shape f) {
  rules = built_rules f.options f.words;
  no_binary_name = true;
  disable_help_flag = true;
  disable_help_subcommand = true;
  disable_version_flag = true;
  is_built = true;
}
