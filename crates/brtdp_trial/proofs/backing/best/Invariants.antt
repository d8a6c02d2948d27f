use Rattle.std.proofs.Common.{◌≡◌, ◌≤◌, take}
use Rattle.std.specs.Prelude.{map}
use Rattle.brtdp_trial.specs.Listed.{expected, least}
use Rattle.brtdp_trial.proofs.backing.best.Given as goal

abbrev pub invariant-loop-action : goal.invariant-loop-action
invariant-loop-action l =
    (l.least ≤ l.cap)
    × (l.least ≡ least l.cap (map (expected l.cap l.side l.numbers) (take l.action-index l.actions)))
