use Rattle.std.proofs.Common.{◌≡◌, ◌-◌, ◌≤◌, ◌++◌, length, take, drop}
use Rattle.certificate.specs.declared.limits.TheConstants.{MOST_UNITS}
use Rattle.certificate.specs.Decoding.{number_after, digits_at}
use Rattle.certificate.proofs.reading.fields.number_at.Given as goal

abbrev pub invariant-loop-length : goal.invariant-loop-length
invariant-loop-length l = record {
  within : l.length ≤ length l.text;
  bounded : l.number ≤ MOST_UNITS;
  value : number_after 0 (take l.length l.text) ≡ l.number;
  digits : digits_at l.text ≡ (take l.length l.text ++ (digits_at (drop l.length l.text)).0, (digits_at (drop l.length l.text)).1);
}

abbrev pub decreases-loop-length : goal.decreases-loop-length
decreases-loop-length l = length l.text - l.length
