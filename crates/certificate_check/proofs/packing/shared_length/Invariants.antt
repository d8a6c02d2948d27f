use Rattle.std.proofs.Common.{◌≡◌, ◌≤◌, ◌-◌, take, length}
use Rattle.certificate_check.proofs.packing.shared_length.Given as goal

abbrev pub invariant-loop-count : goal.invariant-loop-count
invariant-loop-count l = record {
  before : l.count ≤ length l.before;
  atoms : l.count ≤ length l.atoms;
  shared : take l.count l.before ≡ take l.count l.atoms;
}

abbrev pub decreases-loop-count : goal.decreases-loop-count
decreases-loop-count l = length l.before - l.count
