-- What the actions so far lead to is listed.
use Rattle.std.proofs.Common.{◌≡◌, length, take}
use Rattle.std.specs.Prelude.{flat_map}
use Rattle.decision_process.specs.Levels.{nexts}
use Rattle.ground_model.specs.Steps.{ground_process}
use Rattle.trial_workers.specs.explorer.Found.{Grows}
use Rattle.trial_workers.proofs.explorer.expanding.add_actions.Given as goal

abbrev pub invariant-loop-code : goal.invariant-loop-code
invariant-loop-code l = record {
  fits : length l.next ≡ length l.state;
  grows : Grows l.most (flat_map (λ k. nexts (ground_process l.index) k l.state) (take l.code-index l.codes)) l.initial.listing l.listing;
}
