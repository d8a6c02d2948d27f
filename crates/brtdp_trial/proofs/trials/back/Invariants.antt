use Rattle.std.proofs.Common.{ℕ, ◌≤◌, List, take, length}
use Rattle.std.specs.Prelude.{All, reverse}
use Rattle.brtdp_trial.specs.Meaning.{Told}
use Rattle.brtdp_trial.specs.Paths.{ids_of}
use Rattle.brtdp_trial.specs.Trials.{AreBackedUp}
use Rattle.brtdp_trial.specs.declared.turn.Turn.{Turn}
use Rattle.brtdp_trial.proofs.trials.back.Given as goal

-- the turns behind the first `left` ones are backed up, between the bounds s and u
pub record AreBack {S : Type 0} (knows : S → ℕ → Type 0) (later : S → S → Type 0) (told : Told S) (turns : List Turn) (s u : S) (left : ℕ) : Type 0 where
  pub since : later s u
  pub within : left ≤ length turns
  pub known : All (λ t. knows u t.id) turns
  pub rest : (z : S) → AreBackedUp later told (reverse (ids_of (take left turns))) u z
      → AreBackedUp later told (reverse (ids_of turns)) s z

abbrev pub invariant-loop-left : goal.invariant-loop-left
invariant-loop-left g l = AreBack g.B.Bounds.knows g.B.Bounds.later g.B.Bounds.told l.path.turns l.fn.bounds l.bounds l.left

abbrev pub decreases-loop-left : goal.decreases-loop-left
decreases-loop-left g l = l.left
