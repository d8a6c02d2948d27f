-- What is wrong, in words: a sentence for each code with which a run is stopped.
--     reason_of_text code           a refused text
--     reason_of_certificate code    a certificate that is not accepted, by the number of what is wrong
--     names_line code               the number stands for a line of the certificate's text, and not for a row
--     reason_of_limit code          what a limit counts, by its number; it stands behind `more than M`
--     reason_of_fault fault         words out of form
--     kind_words kind               what an option takes
--     reason_of_value fault         words in form that ask for nothing
-- The codes are those of docs/FORMATS.md. There is no public standard of these sentences.
use Rattle.std.specs.Prelude.{ℕ, Bool, true, nat_eq, ◌||◌, ◌/◌, ◌^◌, if◌then◌else◌, List, ◌++◌, codes, decimal}
use Rattle.std.specs.Str.{bytes_eq}
use Rattle.plan_request.specs.words.Words.{Text}
use Rattle.plan_request.specs.words.Faults.{Fault, no_command, unknown, stray, repeated, unvalued, excess, missing}
use Rattle.plan_request.specs.reasons.Values.{ValueFault, lacking, unfit, swept}
use Rattle.plan_request.specs.declared.reasons.value_kind.ValueKind.{ValueKind}
use Rattle.plan_request.specs.declared.reasons.value_kind.ValueKind.TheVariants as kinds
use Rattle.ppddl_model.specs.declared.refusal.TextCode.{TextCode}
use Rattle.ppddl_model.specs.declared.refusal.TextCode.TheVariants as code

abbrev pub reason_of_text : TextCode → List ℕ
reason_of_text code.BadByte = codes "a byte is not allowed outside comments"
reason_of_text code.Unbalanced = codes "a parenthesis has no partner"
reason_of_text code.TooDeep = codes "more than 100 parentheses are open"
reason_of_text code.Expected = codes "no planning text goes on like this"
reason_of_text code.UnknownName = codes "a name or variable is not declared before its use"
reason_of_text code.Arity = codes "there are too many or too few arguments"
reason_of_text code.TypeMismatch = codes "an argument is not of its parameter's type"
reason_of_text code.Probability = codes "a probability is above 1, or the common denominator goes above 10^18"
reason_of_text code.SumAboveOne = codes "the probabilities go above 1 in sum"
reason_of_text code.Unsupported = codes "this form is outside the profile of PPDDL that is read"
reason_of_text code.Number = codes "this is not a number of the form and range that are wanted here"
reason_of_text code.NoDomain = codes "no domain is defined before"
reason_of_text code.NoProblem = codes "no problem is defined behind the domain"
reason_of_text code.Twice = codes "this is given a second time, or in another way than before"
reason_of_text code.DomainName = codes "the problem is of another domain"
reason_of_text code.TypeCycle = codes "a type is its own ancestor, or object is under another type"
reason_of_text code.CostNotPositive = codes "outside when and probabilistic this action may cost nothing"
reason_of_text code.NoPenalty = codes "neither --penalty nor :goal-reward gives the price of giving up"

unfoldable pub reason_of_certificate : ℕ → List ℕ
reason_of_certificate code =
    if nat_eq code 30 then codes "no certificate has such a line here"
    else if nat_eq code 31 then codes "the line, or what stands in it, is out of order"
    else if nat_eq code 32 then codes "a list has more or fewer lines here than its count says"
    else if nat_eq code 33 then codes "there are more bytes than a certificate may have"
    else if nat_eq code 34 then codes "the lower value is above what giving up or an open action costs, or is not 0 at a goal"
    else if nat_eq code 35 then codes "the upper value is below what the act costs, or is not 0 at a goal"
    else if nat_eq code 36 then codes "the act is goal at no goal, another one at a goal, or an action that is not open"
    else if nat_eq code 37 then codes "the interval is not that of the initial states"
    else if nat_eq code 38 then codes "the penalty is not that of the task"
    else if nat_eq code 39 then codes "an atom is none that may change"
    else if nat_eq code 40 then codes "no row uses this line"
    else codes "it is not accepted"

abbrev pub names_line : ℕ → Bool
names_line code =
    if nat_eq code 30 then true
    else if nat_eq code 31 then true
    else if nat_eq code 32 then true
    else nat_eq code 40

unfoldable pub reason_of_limit : ℕ → List ℕ
reason_of_limit code =
    if nat_eq code 20 then codes "joint choices of one part of an effect"
    else if nat_eq code 21 then codes "as the denominator of an action's effect or of :init"
    else if nat_eq code 22 then codes "instances of actions to be tried"
    else if nat_eq code 23 then codes "ground actions"
    else if nat_eq code 24 then codes "changing ground atoms"
    else if nat_eq code 25 then codes "initial states"
    else if nat_eq code 26 then codes "objects and constants"
    else if nat_eq code 27 then codes "micro-units of one choice with all its guarded costs"
    else if nat_eq code 28 then codes "bytes in this text or in that under --problem"
    else if nat_eq code 29 then codes "as the ground size"
    else if nat_eq code 33 then codes "bytes of a certificate"
    else if nat_eq code 41 then codes "states with a row in either certificate"
    else codes "of what is counted"

abbrev pub reason_of_fault : Fault → List ℕ
reason_of_fault no_command = codes "a command is wanted"
reason_of_fault (unknown w) = codes "no command has this name: " ++ w
reason_of_fault (stray w) = codes "this is neither a name nor an option of the command with its value: " ++ w
reason_of_fault (repeated n) = codes "an option stands twice: --" ++ n
reason_of_fault (unvalued n) = codes "an option has no value: --" ++ n
reason_of_fault (excess w) = codes "this is one name too many: " ++ w
reason_of_fault (missing p) = codes "a name is missing: " ++ p

-- the least amount of an option is 0 or a micro-unit
abbrev pub least_words : ℕ → List ℕ
least_words least = if nat_eq least 0 then codes "0" else codes "0.000001"

abbrev pub kind_words : ValueKind → List ℕ
kind_words kinds.Name = codes "a name"
kind_words (kinds.Amount least most) = least_words least ++ (codes " to " ++ (decimal (most / 10 ^ 6) ++ codes " units with at most six decimals"))
kind_words (kinds.Whole least most) = codes "a whole number from " ++ (decimal least ++ (codes " to " ++ decimal most))
kind_words kinds.Ends = codes "depth or new"
kind_words kinds.Lower = codes "none, cost or relaxed"
kind_words kinds.Progress = codes "lines, or nothing"

-- what stands before the name of an option, and before that of a word
abbrev pub hyphens : Text → Text
hyphens name = if bytes_eq name (codes "N") || bytes_eq name (codes "SEED") then codes "" else codes "--"

abbrev pub unfit_words : List ℕ → Text → Text → List ℕ
unfit_words taken name text = hyphens name ++ (name ++ (codes " takes " ++ (taken ++ (codes ": " ++ text))))

abbrev pub reason_of_value : ValueFault → List ℕ
reason_of_value (lacking name) = codes "an option is wanted: --" ++ name
reason_of_value (unfit kind name text) = unfit_words (kind_words kind) name text
reason_of_value swept = codes "--sweep-states is not below --states, which is 65536 where it is not given"
