use Rattle.std.proofs.Common.{◌≡◌, ◌≤◌, take, length}
use Rattle.certificate_check.specs.Packing.{state_by}
use Rattle.certificate_check.proofs.packing.pop_atoms.Given as goal

abbrev pub invariant-loop-place : goal.invariant-loop-place
invariant-loop-place l = record {
  left : l.left ≤ l.place;
  within : l.place ≤ length l.atoms;
  state : l.state ≡ state_by l.numbers (take l.place l.atoms) (length l.fn.state);
}

abbrev pub decreases-loop-place : goal.decreases-loop-place
decreases-loop-place l = l.place
