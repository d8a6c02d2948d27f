use Rattle.std.proofs.Common.{◌≡◌, ◌≤◌, drop}
use Rattle.std.specs.Str.{all_ascii_digits}
use Rattle.certificate.specs.declared.limits.TheConstants.{MOST_UNITS}
use Rattle.certificate.specs.Decoding.{number_after}
use Rattle.certificate.proofs.reading.fields.number_of.Given as goal

abbrev pub invariant-loop-digit : goal.invariant-loop-digit
invariant-loop-digit l = record {
  bounded : l.number ≤ MOST_UNITS;
  value : number_after l.number (drop l.digit-index l.text) ≡ number_after 0 l.text;
  digits : all_ascii_digits (drop l.digit-index l.text) ≡ all_ascii_digits l.text;
}
