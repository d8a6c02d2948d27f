-- The numbers and the rows of verdicts.
--     number_of v    the number of the condition that fails; what is accepted has none
--     row_of v       the row at fault, 0 where none is
use Rattle.std.specs.Prelude.{ℕ, Option, Some, None}
use Rattle.certificate_check.specs.declared.verdict.Verdict.{Verdict}
use Rattle.certificate_check.specs.declared.verdict.Verdict.TheVariants.{Accepted, Penalty, UnknownAtom, Act, Lower, Upper, Ends}

abbrev pub number_of : Verdict → Option ℕ
number_of Accepted = None
number_of (Lower row) = Some 34
number_of (Upper row) = Some 35
number_of (Act row) = Some 36
number_of Ends = Some 37
number_of Penalty = Some 38
number_of (UnknownAtom row) = Some 39

abbrev pub row_of : Verdict → ℕ
row_of (Lower row) = row
row_of (Upper row) = row
row_of (Act row) = row
row_of (UnknownAtom row) = row
row_of Accepted = 0
row_of Penalty = 0
row_of Ends = 0
