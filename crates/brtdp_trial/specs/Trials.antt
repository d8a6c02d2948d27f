-- Whole trials: the starts are read, one is drawn, the turns follow, and their states are backed up once more in
-- reverse order.
--     IsStartDrawn b r steps total d    d was drawn of the starts by the number r, exactly where b says that the sum is not 0
--     IsStartDraw r steps d             d is the draw of a start
--     FromStart d steps ts s e z        the turns behind the draw of a start, from the bounds s to the bounds z; without a
--                                       drawn start there are none, and the trial ends by Narrow
--     AreBackedUp ids s z               these states are backed up in order, from the bounds s to the bounds z
--     IsTrial draw tau depth ends s p e z
--                                       a trial from the bounds s to the bounds z with the path p, which ends by e
use Rattle.std.specs.Prelude.{◌≡◌, ℕ, ◌%◌, ◌==◌, Bool, true, false, Option, Some, None}
use Rattle.std.specs.Prelude.{List, [], ◌∷◌, reverse, sum}
use Rattle.std.specs.List.{slice_get}
use Rattle.brtdp_trial.specs.Meaning.{Last, Told, spreads, weights_of, width}
use Rattle.brtdp_trial.specs.Draws.{IsFirstAbove}
use Rattle.brtdp_trial.specs.Paths.{PathView, ids_of}
use Rattle.brtdp_trial.specs.Turns.{AreTurns}
use Rattle.brtdp_trial.specs.declared.aim.Aim.{Aim}
use Rattle.brtdp_trial.specs.declared.ending.Ends.{Ends}
use Rattle.brtdp_trial.specs.declared.step.Step.{Step}
use Rattle.brtdp_trial.specs.declared.start_draw.StartDraw.{StartDraw}
use Rattle.brtdp_trial.specs.declared.start_draw.StartDrawn.{StartDrawn}
use Rattle.brtdp_trial.specs.declared.turn.Turn.{Turn}
use Rattle.brtdp_trial.specs.declared.ends.TrialEnd.{TrialEnd}
use Rattle.brtdp_trial.specs.declared.ends.TrialEnd.TheVariants.{Narrow}

abbrev pub IsStartDrawn : Bool → ℕ → List Step → ℕ → Option StartDrawn → Type 0
IsStartDrawn true r steps total drawn = drawn ≡ None
IsStartDrawn false r steps total drawn =
    (d : StartDrawn) × (drawn ≡ Some d) × (d.rest ≡ r % total)
    × IsFirstAbove (spreads steps) d.rest d.index
    × ((s : Step) × (slice_get steps d.index ≡ Some s) × (d.gap ≡ width s))

pub record IsStartDraw (r : ℕ) (steps : List Step) (d : StartDraw) : Type 0 where
  pub total : d.total ≡ sum (spreads steps)
  pub drawn : IsStartDrawn (d.total == 0) r steps d.total d.drawn

abbrev pub aim_at : StartDrawn → ℕ → ℕ → Ends → Aim
aim_at d tau depth ends = record { gap = d.gap; tau = tau; depth = depth; ends = ends }

module _ {S : Type 0} (later : S → S → Type 0) (told : Told S) where
  abbrev pub AreBackedUp : List ℕ → S → S → Type 0
  AreBackedUp [] s z = z ≡ s
  AreBackedUp (id ∷ ids) s z =
      (u : S) × later s u × (told.tells s ≡ true → u ≡ told.after s id) × AreBackedUp ids u z

module _ {S : Type 0} (later full : S → S → Type 0) (last : S → Last) (told : Told S) (draw : ℕ → ℕ)
    (tau depth : ℕ) (ends : Ends) where
  abbrev pub FromStart : Option StartDrawn → List Step → List Turn → S → TrialEnd → S → Type 0
  FromStart None steps ts s e z = (ts ≡ []) × (e ≡ Narrow) × (z ≡ s)
  FromStart (Some d) steps ts s e z =
      (x : Step) × (id : ℕ) × (slice_get steps d.index ≡ Some x) × (x.id ≡ Some id)
      × AreTurns later full last told draw (aim_at d tau depth ends) ts 0 id false s e z

-- the starts as they were read, the bounds then, and the bounds before the states of the turns are backed up again
pub record IsTrial {S : Type 0} (later full : S → S → Type 0) (weights : S → List ℕ) (last : S → Last)
    (told : Told S) (draw : ℕ → ℕ) (tau depth : ℕ) (ends : Ends) (s : S) (p : PathView) (e : TrialEnd)
    (z : S) : Type 0 where
  pub steps : List Step
  pub read : S
  pub walked : S
  pub follows : later s read
  pub by_weight : weights_of steps ≡ weights s
  pub exact : told.tells s ≡ true → (steps ≡ told.starts s) × (read ≡ s)
  pub opening : IsStartDraw (draw 0) steps p.start
  pub turns : FromStart later full last told draw tau depth ends p.start.drawn steps p.turns read e walked
  pub back : AreBackedUp later told (reverse (ids_of p.turns)) walked z
