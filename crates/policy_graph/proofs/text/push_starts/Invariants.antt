use Rattle.std.proofs.Common.{◌≡◌, ◌++◌}
use Rattle.std.specs.List.{flat_map, range_with_len}
use Rattle.policy_graph.specs.Text.{start_line}
use Rattle.policy_graph.proofs.text.push_starts.Given as goal

abbrev pub invariant-loop-place : goal.invariant-loop-place
invariant-loop-place l =
    l.out.items ≡ l.initial.out.items ++ flat_map (start_line l.problem l.count) (range_with_len 0 l.place)
