use Rattle.std.proofs.Common.{◌≡◌, [], map}
use Rattle.std.specs.List.{range_with_len}
use Rattle.applicable_actions.specs.Runs.{items_of}
use Rattle.applicable_actions.proofs.entry_runs.EntryRuns.new.Given as goal

abbrev pub invariant-loop-atom : goal.invariant-loop-atom
invariant-loop-atom l = map items_of l.by_atom.items ≡ map (λ _. []) (range_with_len 0 l._atom)
