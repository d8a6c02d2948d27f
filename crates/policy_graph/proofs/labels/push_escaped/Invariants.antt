use Rattle.std.proofs.Common.{◌≡◌, ◌++◌, take}
use Rattle.policy_graph.specs.Text.{escaped}
use Rattle.policy_graph.proofs.labels.push_escaped.Given as goal

abbrev pub invariant-loop-byte : goal.invariant-loop-byte
invariant-loop-byte l = l.out.items ≡ l.initial.out.items ++ escaped (take l.byte-index l.text)
