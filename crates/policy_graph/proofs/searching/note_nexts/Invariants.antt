use Rattle.std.proofs.Common.{◌≡◌, length, map, take}
use Rattle.ground_model.specs.Packed.{same_state}
use Rattle.ground_model.specs.Choices.{next_state}
use Rattle.policy_graph.specs.Search.{noted_all}
use Rattle.policy_graph.proofs.searching.note_nexts.Given as goal

abbrev pub invariant-loop-choice : goal.invariant-loop-choice
invariant-loop-choice l = record {
  same : l.choice-items ≡ l.action.choices;
  long : length l.next ≡ length l.state;
  noted : l.states.keys
      ≡ noted_all same_state l.most l.initial.states.keys (map (next_state l.state) (take l.choice-index l.choice-items));
}
