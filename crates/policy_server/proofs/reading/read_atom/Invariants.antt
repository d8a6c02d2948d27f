-- The text is that of the names so far.
use Rattle.std.proofs.Common.{◌≤◌, ◌<◌, ◌*◌, ◌-◌, length}
use Rattle.policy_server.specs.Parts.{IsPlace, IsTextRoom}
use Rattle.policy_server.proofs.Spelled.{Naming}
use Rattle.policy_server.proofs.reading.read_atom.Given as goal

abbrev pub invariant-loop-behind : goal.invariant-loop-behind
invariant-loop-behind l = record {
  naming : Naming l.line l.fn.place l.place l.text.bytes;
  at : IsPlace l.line l.place;
  room : IsTextRoom l.text;
  long : length l.text.bytes ≤ 2 * l.place.offset;
  behind : l.fn.place.offset < l.place.offset;
}

abbrev pub decreases-loop-behind : goal.decreases-loop-behind
decreases-loop-behind l = length l.line - l.place.offset
