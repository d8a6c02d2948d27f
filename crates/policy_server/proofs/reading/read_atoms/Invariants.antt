-- The state is that of the atoms so far, if all of them are atoms of the problem.
use Rattle.std.proofs.Common.{◌≡◌, ◌-◌, length}
use Rattle.bound_core.specs.Core.{width}
use Rattle.policy_server.specs.Parts.{IsPlace, IsTextRoom}
use Rattle.policy_server.proofs.Spelled.{Reading}
use Rattle.policy_server.proofs.reading.read_atoms.Given as goal

abbrev pub invariant-loop-behind : goal.invariant-loop-behind
invariant-loop-behind l = record {
  reading : Reading l.problem l.line l.fn.place l.place l.known l.state;
  at : IsPlace l.line l.place;
  room : IsTextRoom l.text;
  wide : length l.state ≡ width l.problem;
}

abbrev pub decreases-loop-behind : goal.decreases-loop-behind
decreases-loop-behind l = length l.line - l.place.offset
