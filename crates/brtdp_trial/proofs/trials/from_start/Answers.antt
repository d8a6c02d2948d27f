use Rattle.std.proofs.Common.{◌≡◌}
use Rattle.std.specs.Prelude.{Option, Some, None, ℕ}
use Rattle.brtdp_trial.specs.Meaning.{HasId}
use Rattle.brtdp_trial.proofs.Walking.{All_at}
use Rattle.brtdp_trial.proofs.trials.from_start.Goals as goal

has_none : (o : Option ℕ) (n : ℕ) → o ≡ Some n → o ≡ None → ⊥
has_none o n a b = cc

pub returns-in-None-clause-turns : goal.returns-in-None-clause-turns
returns-in-None-clause-turns g c =
    let has = All_at HasId c.args.starts.now _ c.get.result c.requires.placed c.get.ensures in
    absurd (has_none c.get.result.id has.0 has.1 c.in-None.is)
