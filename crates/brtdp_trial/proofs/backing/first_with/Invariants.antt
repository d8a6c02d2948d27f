use Rattle.std.proofs.Common.{ℕ, ◌<◌, get_or}
use Rattle.std.specs.Prelude.{◌≢◌}
use Rattle.brtdp_trial.specs.Listed.{means}
use Rattle.brtdp_trial.specs.declared.backing.Side.TheVariants.{Lower}
use Rattle.brtdp_trial.proofs.backing.first_with.Given as goal

abbrev pub invariant-loop-place : goal.invariant-loop-place
invariant-loop-place l = (j : ℕ) → j < l.place → get_or (means l.cap Lower l.numbers l.actions) j 0 ≢ l.low
