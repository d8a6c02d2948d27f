-- How a command is called, as one line, by the table of forms.
--     value_name name     what stands for the value of an option
--     is_wanted name      the option is wanted wherever a command has it
--     is_flag name        the option may stand without its value, of which there is one
--     usage_of f          a command with its names and its options, which stand in brackets where they may be left out
--     usages words        that of the command that the first word names; of every command where it names none
use Rattle.std.specs.Prelude.{Bool, ◌||◌, if◌then◌else◌, List, [], ◌∷◌, ◌++◌, find, flat_map, Option, Some, None, codes}
use Rattle.std.specs.Str.{bytes_eq}
use Rattle.plan_request.specs.words.Words.{Text}
use Rattle.plan_request.specs.words.Table.{Form, forms}

abbrev pub is_wanted : Text → Bool
is_wanted name = bytes_eq name (codes "cert") || bytes_eq name (codes "with") || bytes_eq name (codes "into")

abbrev pub is_flag : Text → Bool
is_flag name = bytes_eq name (codes "progress")

abbrev pub value_name : Text → Text
value_name name =
    if is_wanted name || bytes_eq name (codes "problem") then codes "FILE"
    else if bytes_eq name (codes "penalty") || bytes_eq name (codes "step-cost") || bytes_eq name (codes "gap") then codes "AMOUNT"
    else if bytes_eq name (codes "ends") then codes "depth|new"
    else if bytes_eq name (codes "lower") then codes "none|cost|relaxed"
    else codes "NUMBER"

abbrev pub option_usage : Text → Text
option_usage name =
    if is_wanted name then codes " --" ++ name ++ codes " " ++ value_name name
    else if is_flag name then codes " [--" ++ name ++ codes "]"
    else codes " [--" ++ name ++ codes " " ++ value_name name ++ codes "]"

abbrev pub name_usage : Text → Text
name_usage name = codes " " ++ name

unfoldable pub usage_of : Form → Text
usage_of f = codes "usage: ppddl_plan " ++ f.name ++ flat_map name_usage f.words ++ flat_map option_usage f.options ++ codes "\n"

abbrev pub usages_by : Option Form → Text
usages_by None = flat_map usage_of forms
usages_by (Some f) = usage_of f

abbrev pub usages : List Text → Text
usages [] = flat_map usage_of forms
usages (w ∷ ws) = usages_by (find (λ f. bytes_eq f.name w) forms)
