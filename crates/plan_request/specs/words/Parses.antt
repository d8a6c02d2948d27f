-- What a parse of words answers.
use Rattle.std.specs.Prelude.{◌≡◌, ℕ, ◌<◌, true, List, length, Option, Some, None, option_and_then, slice_get}
use Rattle.clap.specs.Walk.{Row, first_of}
use Rattle.clap.specs.Simple.{subcommand_rows_of}
use Rattle.plan_request.specs.words.Words.{Text, Item, is_among, positionals_of, value_of}
use Rattle.plan_request.specs.words.Table.{Form, name_at}
use Rattle.plan_request.specs.words.Scans.{formed}
use Rattle.plan_request.specs.words.Shown.{shown_form}
use Rattle.plan_request.specs.declared.words.parsing.Parsed.{Parsed}

abbrev pub first_in : Text → Option (Text × List Row) → Option Text
first_in name found = option_and_then (λ q. first_of name q.1) found

-- what clap found under a name
abbrev pub value_in : Text → Parsed → Option Text
value_in name p = first_in name (subcommand_rows_of p.matches)

-- clap found what the items give, under each option and each positional word
pub record HasValues (f : Form) (items : List Item) (p : Parsed) : Type 0 where
  pub options : (n : Text) → is_among n f.options ≡ true → value_in n p ≡ value_of n items
  pub words : (i : ℕ) → i < length f.words → value_in (name_at f.words i) p ≡ slice_get (positionals_of items) i

-- None exactly where the words are out of form
abbrev pub Answers : List Text → Option Parsed → Type 0
Answers ws None = formed ws ≡ None
Answers ws (Some p) = (items : List Item) × (formed ws ≡ Some (shown_form p.form, items)) × HasValues (shown_form p.form) items p
