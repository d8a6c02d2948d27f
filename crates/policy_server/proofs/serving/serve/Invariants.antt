-- The whole lines so far are answered.
use Rattle.std.proofs.Common.{◌≡◌}
use Rattle.policy_server.specs.Serving.{input}
use Rattle.policy_server.specs.Parts.{IsBufferOf}
use Rattle.policy_server.proofs.Runs.{SoFar}
use Rattle.policy_server.proofs.serving.serve.Given as goal

abbrev pub invariant-loop-queries : goal.invariant-loop-queries
invariant-loop-queries g l = record {
  so_far : SoFar l.words l.fn.pass l.pass (input g.I.Source.left g.I.Source.ends g.I.Source.faults l.fn.source) (input g.I.Source.left g.I.Source.ends g.I.Source.faults l.source) (g.O.Sink.taken l.fn.sink) (g.O.Sink.taken l.sink) l.queries;
  steady : g.O.Sink.faults l.sink ≡ g.O.Sink.faults l.fn.sink;
  buffer : IsBufferOf l.words.problem l.buffer;
}
