-- What is at fault in words in form that ask for nothing: an option of the command that is wanted and not given, or a value that it
-- may not have. `given` is what stands under a name, as in specs/Asked.antt. The ranges stand there too, where the values are read:
-- in `sources_of`, `effort_of`, `sizes_of`, `walking_of`, `drawing_of` and `benched_of`.
--     kind_of command name              what may be given to an option of the command, or as its word
--     fits kind text                    the text may be given
--     ValueFault                        what is at fault
--     fault_under kind name given       what is at fault with what is given under a name
--     first_fault command given names   the first fault under these names
--     fault_in f given                  the first fault under a command's options, then under its words; where there is none, it is
--                                       `--sweep-states` that is not below `--states`
--     fault_of_values words             the fault of words in form
use Rattle.std.specs.Prelude.{◌-◌, ◌^◌, Bool, true, is_some, cond, if◌then◌else◌, List, [], ◌∷◌, Option, Some, None, unwrap_or, codes}
use Rattle.std.specs.Str.{bytes_eq}
use Rattle.plan_request.specs.words.Words.{Text, Item}
use Rattle.plan_request.specs.words.Table.{Form}
use Rattle.plan_request.specs.words.Scans.{formed}
use Rattle.plan_request.specs.words.Faults.{or_else}
use Rattle.plan_request.specs.Numbers.{whole, amount}
use Rattle.plan_request.specs.Asked.{Given, given_in, ends_named, lower_named, progress_named}
use Rattle.plan_request.specs.reasons.Usage.{is_wanted}
use Rattle.plan_request.specs.declared.reasons.value_kind.ValueKind.{ValueKind}
use Rattle.plan_request.specs.declared.reasons.value_kind.ValueKind.TheVariants as kinds

unfoldable pub states_kind : Text → ValueKind
states_kind command = if bytes_eq (codes "draw") command then kinds.Whole 1 10000 else kinds.Whole 65 262144

unfoldable pub whole_kind : Text → Option ValueKind
whole_kind name =
    if bytes_eq (codes "rounds") name then Some (kinds.Whole 0 100000)
    else if bytes_eq (codes "trials") name then Some (kinds.Whole 0 4096)
    else if bytes_eq (codes "depth") name then Some (kinds.Whole 1 10000)
    else if bytes_eq (codes "tau") name then Some (kinds.Whole 1 1000)
    else if bytes_eq (codes "workers") name then Some (kinds.Whole 1 16)
    else if bytes_eq (codes "sweep-states") name then Some (kinds.Whole 64 262143)
    else if bytes_eq (codes "walks") name then Some (kinds.Whole 1 100)
    else if bytes_eq (codes "steps") name then Some (kinds.Whole 1 10000)
    else if bytes_eq (codes "seed") name then Some (kinds.Whole 0 (2 ^ 64 - 1))
    else if bytes_eq (codes "SEED") name then Some (kinds.Whole 0 (2 ^ 64 - 1))
    else if bytes_eq (codes "N") name then Some (kinds.Whole 2 1000)
    else None

unfoldable pub kind_of : Text → Text → ValueKind
kind_of command name =
    if bytes_eq (codes "states") name then states_kind command
    else if bytes_eq (codes "penalty") name then kinds.Amount 1 (10 ^ 14)
    else if bytes_eq (codes "step-cost") name then kinds.Amount 0 (10 ^ 12)
    else if bytes_eq (codes "gap") name then kinds.Amount 0 (10 ^ 14)
    else if bytes_eq (codes "ends") name then kinds.Ends
    else if bytes_eq (codes "lower") name then kinds.Lower
    else if bytes_eq (codes "progress") name then kinds.Progress
    else unwrap_or (whole_kind name) kinds.Name

unfoldable pub fits : ValueKind → Text → Bool
fits kinds.Name text = true
fits (kinds.Amount least most) text = is_some (amount least most text)
fits (kinds.Whole least most) text = is_some (whole least most text)
fits kinds.Ends text = is_some (ends_named text)
fits kinds.Lower text = is_some (lower_named text)
fits kinds.Progress text = is_some (progress_named text)

pub data ValueFault : Type 0 where
  -- this option is wanted, and is not given
  lacking : Text → ValueFault
  -- this is given under a name that takes another kind
  unfit : ValueKind → Text → Text → ValueFault
  -- as many states are swept as the table holds, or more
  swept : ValueFault

abbrev pub fault_under : ValueKind → Text → Option Text → Option ValueFault
fault_under kind name None = cond (is_wanted name) (Some (lacking name)) None
fault_under kind name (Some text) = cond (fits kind text) None (Some (unfit kind name text))

abbrev pub first_fault : Text → Given → List Text → Option ValueFault
first_fault command given [] = None
first_fault command given (n ∷ ns) = or_else (fault_under (kind_of command n) n (given n)) (first_fault command given ns)

abbrev pub fault_in : Form → Given → ValueFault
fault_in f given = unwrap_or (or_else (first_fault f.name given f.options) (first_fault f.name given f.words)) swept

abbrev pub fault_formed : Option (Form × List Item) → ValueFault
fault_formed None = swept
fault_formed (Some p) = fault_in p.0 (given_in p.0 p.1)

abbrev pub fault_of_values : List Text → ValueFault
fault_of_values words = fault_formed (formed words)
