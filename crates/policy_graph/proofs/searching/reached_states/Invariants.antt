use Rattle.std.proofs.Common.{◌-◌, ◌≤◌, length}
use Rattle.certificate_check.specs.Laws.{act_in}
use Rattle.ground_model.specs.Steps.{ground_process, ground_starts}
use Rattle.policy_graph.specs.Search.{IsSearched}
use Rattle.policy_graph.proofs.searching.reached_states.Given as goal

abbrev pub invariant-loop-done : goal.invariant-loop-done
invariant-loop-done l =
    IsSearched (ground_process l.claims.problem) (act_in l.claims.problem l.claims.certificate) (ground_starts l.claims.problem)
    l.most l.states.keys l.done
    × (l.done ≤ length l.states.keys)

abbrev pub decreases-loop-done : goal.decreases-loop-done
decreases-loop-done l = l.most - l.done
