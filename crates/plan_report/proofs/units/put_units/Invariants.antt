use Rattle.std.proofs.Common.{◌≡◌, ◌≤◌, ◌+◌, ◌++◌, length, take}
use Rattle.plan_report.proofs.units.put_units.Given as goal

abbrev pub invariant-loop-byte : goal.invariant-loop-byte
invariant-loop-byte l = record {
  place : l.place ≡ l.byte-index;
  written : take l.place l.into ≡ take l.byte-index l.whole;
  short : length l.whole ≤ 14;
}

abbrev pub invariant-loop-digit : goal.invariant-loop-digit
invariant-loop-digit l = record {
  place : l.place ≡ l.initial.place + l.digit-index;
  written : take l.place l.into ≡ take l.initial.place l.initial.into ++ take l.digit-index l.digit-items;
  short : l.initial.place ≤ 15;
}
