use Rattle.std.proofs.Common.{◌≡◌, ℕ, ◌+◌, ◌-◌, ◌<◌, List, ◌++◌, length}
use Rattle.std.specs.Prelude.{All, Bool, false}
use Rattle.brtdp_trial.specs.Draws.{draw_of, Place}
use Rattle.brtdp_trial.specs.Meaning.{Last, Told}
use Rattle.brtdp_trial.specs.Paths.{PathView}
use Rattle.brtdp_trial.specs.Turns.{AreTurns}
use Rattle.brtdp_trial.specs.declared.aim.Aim.{Aim}
use Rattle.brtdp_trial.specs.declared.turn.Turn.{Turn}
use Rattle.brtdp_trial.specs.declared.ends.TrialEnd.{TrialEnd}
use Rattle.brtdp_trial.proofs.trials.walk.Given as goal

-- `pushed` turns stand, from the bounds s to the bounds u, and the state `id` is next, which was new or not
pub record Stands {S : Type 0} (knows : S → ℕ → Type 0) (later full : S → S → Type 0) (last : S → Last) (told : Told S)
    (a : Aim) (start now : Place) (before path : PathView) (s u : S) (first id : ℕ) (new : Bool) (pushed : ℕ) : Type 0 where
  pub since : later s u
  pub known : knows u id
  pub count : length path.turns ≡ pushed
  pub few : pushed < a.depth
  pub same : path ≡ record before { turns = path.turns }
  pub draws : now ≡ record start { next = pushed + 1 }
  pub all_known : All (λ t. knows u t.id) path.turns
  -- what follows these turns from here follows from the first state
  pub rest : (ts : List Turn) (e : TrialEnd) (z : S)
      → AreTurns later full last told (draw_of start.seed start.number) a ts pushed id new u e z
      → AreTurns later full last told (draw_of start.seed start.number) a (path.turns ++ ts) 0 first false s e z

abbrev pub invariant-loop-end : goal.invariant-loop-end
invariant-loop-end g l = Stands g.B.Bounds.knows g.B.Bounds.later g.B.Bounds.full g.B.Bounds.last g.B.Bounds.told
    l.fn.aim l.fn.draws l.draws l.fn.path l.path l.fn.bounds l.bounds l.fn.first l.id l.new l.pushed

abbrev pub decreases-loop-end : goal.decreases-loop-end
decreases-loop-end g l = l.fn.aim.depth - l.pushed
