use Rattle.std.proofs.Common.{◌≡◌, map, take}
use Rattle.ground_step.specs.Names.{place_of}
use Rattle.policy_graph.proofs.row_states.atom_numbers.Given as goal

abbrev pub invariant-loop-text : goal.invariant-loop-text
invariant-loop-text l = l.numbers.items ≡ map (place_of l.problem.atoms) (take l.text-index l.texts)
