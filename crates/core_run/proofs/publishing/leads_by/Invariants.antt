-- The choices that are left lead to the target exactly where all do.
use Rattle.std.proofs.Common.{◌≡◌, drop, length}
use Rattle.std.specs.List.{list_any}
use Rattle.ground_model.specs.declared.action.Choice.{Choice}
use Rattle.ground_model.specs.Packed.{same_state}
use Rattle.ground_model.specs.Choices.{next_state}
use Rattle.core_run.proofs.publishing.leads_by.Given as goal

abbrev pub invariant-loop-choice : goal.invariant-loop-choice
invariant-loop-choice l = record {
  fits : length l.next ≡ length l.state;
  rest : list_any (λ (c : Choice). same_state (next_state l.state c) l.target) (drop l.choice-index l.choice-items)
      ≡ list_any (λ (c : Choice). same_state (next_state l.state c) l.target) l.action.choices;
}
