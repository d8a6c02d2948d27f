-- The numbers and the lines of the refusals of certificates.
--     number_of e    the number of a refusal; want of memory has none
--     line_of e      the line that is wrong, 0 where none is
use Rattle.std.specs.Prelude.{ℕ, Option, Some, None}
use Rattle.certificate.specs.declared.refusal.CertRefusal.{CertRefusal}
use Rattle.certificate.specs.declared.refusal.CertRefusal.TheVariants.{Syntax, Order, Count}
use Rattle.certificate.specs.declared.refusal.CertRefusal.TheVariants.{TooLong, Unused, Memory}

abbrev pub number_of : CertRefusal → Option ℕ
number_of (Syntax line) = Some 30
number_of (Order line) = Some 31
number_of (Count line) = Some 32
number_of TooLong = Some 33
number_of (Unused line) = Some 40
number_of Memory = None

abbrev pub line_of : CertRefusal → ℕ
line_of (Syntax line) = line
line_of (Order line) = line
line_of (Count line) = line
line_of TooLong = 0
line_of (Unused line) = line
line_of Memory = 0
