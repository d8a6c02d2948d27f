use Rattle.std.proofs.Common.{◌≡◌, ◌++◌, drop, map}
use Rattle.grounder.specs.starts.Growing.{start_of}
use Rattle.grounder.proofs.starts.packing.packed_starts.Given as goal

abbrev pub invariant-loop-choice : goal.invariant-loop-choice
invariant-loop-choice l =
    l.starts.items ++ map (start_of l.count) (drop l.choice-index l.choice-items) ≡ map (start_of l.count) l.choice-items
