-- What the choices so far lead to is listed.
use Rattle.std.proofs.Common.{◌≡◌, length, map, take}
use Rattle.ground_model.specs.Choices.{next_state}
use Rattle.trial_workers.specs.explorer.Found.{Grows}
use Rattle.trial_workers.proofs.explorer.expanding.add_choices.Given as goal

abbrev pub invariant-loop-choice : goal.invariant-loop-choice
invariant-loop-choice l = record {
  fits : length l.next ≡ length l.state;
  grows : Grows l.most (map (next_state l.state) (take l.choice-index l.choice-items)) l.initial.listing l.listing;
}
