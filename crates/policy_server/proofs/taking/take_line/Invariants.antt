-- The bytes so far were taken, and no line feed is among them.
use Rattle.std.proofs.Common.{◌≡◌, length, false}
use Rattle.policy_server.specs.declared.limits.TheConstants.{MOST_LINE}
use Rattle.policy_server.specs.Lines.{IsWhole}
use Rattle.policy_server.specs.Serving.{input, Took}
use Rattle.policy_server.proofs.taking.take_line.Given as goal

abbrev pub invariant-loop-turn : goal.invariant-loop-turn
invariant-loop-turn g l = record {
  whole : IsWhole l.line.bytes;
  long : length l.line.bytes ≡ l._turn;
  room : l.line.room ≡ MOST_LINE;
  took : Took (input g.I.Source.left g.I.Source.ends g.I.Source.faults l.fn.source) (input g.I.Source.left g.I.Source.ends g.I.Source.faults l.source) l.line.bytes false false;
}
