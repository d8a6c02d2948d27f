use Rattle.std.proofs.Common.{◌≡◌, map, take}
use Rattle.ground_step.specs.Names.{place_of, action_names}
use Rattle.policy_graph.proofs.row_states.action_codes.Given as goal

abbrev pub invariant-loop-text : goal.invariant-loop-text
invariant-loop-text l = l.codes.items ≡ map (place_of (action_names l.problem)) (take l.text-index l.texts)
