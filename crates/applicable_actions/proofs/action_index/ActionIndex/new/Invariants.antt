use Rattle.std.proofs.Common.{◌≤◌, length}
use Rattle.applicable_actions.specs.Index.{AreRuns}
use Rattle.applicable_actions.specs.LeftOut.{index_of}
use Rattle.applicable_actions.proofs.action_index.ActionIndex.new.Given as goal

abbrev pub invariant-loop-code : goal.invariant-loop-code
invariant-loop-code l = record {
  few : length l.conditions.items ≤ l.code;
  runs_are : AreRuns (index_of l.problem l.fn.left_out) l.conditions.items l.runs l.code;
}
