-- The sum so far is that of the first choices, and no choice adds more than a number that leaves room.
use Rattle.std.proofs.Common.{◌≡◌, ◌≤◌, ◌*◌, ◌^◌, ◌+◌, length, take}
use Rattle.plain_list.specs.weighted.Mean.{total}
use Rattle.ground_model.specs.Choices.{cost_of, next_state}
use Rattle.ground_model.specs.Packed.{has_bit}
use Rattle.ground_model.specs.declared.action.Choice.{Choice}
use Rattle.core_run.specs.Boards.{numbers}
use Rattle.core_run.proofs.means.action_value.Given as goal

abbrev pub invariant-loop-choice : goal.invariant-loop-choice
invariant-loop-choice l = record {
  fits : length l.next ≡ length l.state;
  room : l.sum ≤ l.choice-index * (2 ^ 64 * (11 * 10 ^ 13));
  sum : l.sum ≡ total (λ (c : Choice). c.weight * (cost_of (has_bit l.state) c
      + numbers l.problem l.board.ids.items l.seen l.side (next_state l.state c))) (take l.choice-index l.choice-items);
}
