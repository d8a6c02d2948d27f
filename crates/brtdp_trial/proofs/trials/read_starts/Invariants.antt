use Rattle.std.proofs.Common.{◌≡◌, List, take, length}
use Rattle.std.specs.Prelude.{All, true, ℕ}
use Rattle.brtdp_trial.specs.Meaning.{HasId, IsInterval, LeadsToKnown, weights_of, Told}
use Rattle.brtdp_trial.specs.declared.step.Step.{Step}
use Rattle.brtdp_trial.proofs.trials.read_starts.Given as goal

-- the first i starts were read, between the bounds s and u
pub record AreRead {S : Type 0} (knows : S → ℕ → Type 0) (later : S → S → Type 0) (weights : S → List ℕ) (told : Told S) (s u : S) (i : ℕ) (steps : List Step) : Type 0 where
  pub since : later s u
  pub by_weight : weights_of steps ≡ take i (weights s)
  pub count : length steps ≡ i
  pub intervals : All IsInterval steps
  pub placed : All HasId steps
  pub known : All (LeadsToKnown (knows u)) steps
  pub exact : told.tells s ≡ true → (steps ≡ take i (told.starts s)) × (u ≡ s)

abbrev pub invariant-loop-i : goal.invariant-loop-i
invariant-loop-i g l = AreRead g.B.Bounds.knows g.B.Bounds.later g.B.Bounds.weights g.B.Bounds.told l.fn.bounds l.bounds l.i l.starts
