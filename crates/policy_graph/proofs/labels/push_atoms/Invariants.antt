use Rattle.std.proofs.Common.{◌≡◌, ◌++◌}
use Rattle.std.specs.List.{flat_map, range_with_len}
use Rattle.policy_graph.specs.Text.{atom_line}
use Rattle.policy_graph.proofs.labels.push_atoms.Given as goal

abbrev pub invariant-loop-number : goal.invariant-loop-number
invariant-loop-number l =
    l.out.items ≡ l.initial.out.items ++ flat_map (atom_line l.atoms l.state) (range_with_len 0 l.number)
