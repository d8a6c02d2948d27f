use Rattle.std.proofs.Common.{◌≡◌, take, length}
use Rattle.certificate_check.specs.Claims.{are_known}
use Rattle.certificate_check.specs.Packing.{state_by}
use Rattle.certificate_check.proofs.packing.push_atoms.Given as goal

abbrev pub invariant-loop-place : goal.invariant-loop-place
invariant-loop-place l = record {
  state : l.state ≡ state_by l.numbers (take l.place l.atoms) (length l.fn.state);
  known : l.is_known ≡ are_known l.numbers (take l.place l.atoms);
}
