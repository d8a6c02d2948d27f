-- Turns: what is drawn of the choices of a backup, and what follows.
--     is_narrow a den total          no choice is wide, or all of them are narrow beside the drawn start: their mean width is
--                                    below the gap divided by tau
--     stop_at a n new code den total how a trial ends at its turn n before a choice is drawn, if it does: by giving up, by what
--                                    is narrow, where it ends at a state that was new, and by the depth, in this order
--     onward a n new t               what follows the turn n
--     IsDrawn r steps total d        d was drawn of the steps by the number r
--     IsDraw e r steps total d       it was drawn exactly where the trial does not end before
--     IsTurn a n new s u t           t is turn n of a trial, from the bounds s to the bounds u, at a state that was new when it was
--                                    drawn, or not; a choice of its backup has no id only where that backup has found that a state
--                                    gets none (`full`)
--     AreTurns ts n id new s e z     these are the turns behind turn n; the first is at the state id, which was new when it was
--                                    drawn, or not, from the bounds s to the bounds z, and the trial ends by e
use Rattle.std.specs.Prelude.{◌≡◌, ℕ, ◌+◌, ◌*◌, ◌%◌, ◌==◌, ◌&&◌, nat_lt, Bool, true, cond}
use Rattle.std.specs.Prelude.{Option, Some, None, List, [], ◌∷◌, sum, All}
use Rattle.std.specs.List.{slice_get}
use Rattle.brtdp_trial.specs.Meaning.{Last, Told, AreChoices, UnplacedOnlyWhere, is_new, spreads}
use Rattle.brtdp_trial.specs.Endings.{stops_at_new}
use Rattle.brtdp_trial.specs.Draws.{IsFirstAbove}
use Rattle.brtdp_trial.specs.declared.aim.Aim.{Aim}
use Rattle.brtdp_trial.specs.declared.step.TheConstants.{GIVE_UP}
use Rattle.brtdp_trial.specs.declared.step.Step.{Step}
use Rattle.brtdp_trial.specs.declared.turn.Drawn.{Drawn}
use Rattle.brtdp_trial.specs.declared.turn.Turn.{Turn}
use Rattle.brtdp_trial.specs.declared.ends.TrialEnd.{TrialEnd}
use Rattle.brtdp_trial.specs.declared.ends.TrialEnd.TheVariants.{Dead, Narrow, Depth, New, Unplaced}
use Rattle.brtdp_trial.specs.declared.ends.Onward.{Onward}
use Rattle.brtdp_trial.specs.declared.ends.Onward.TheVariants.{Ends, Goes}

abbrev pub is_narrow : Aim → ℕ → ℕ → Bool
is_narrow a den total = cond (total == 0) true (nat_lt (total * a.tau) (a.gap * den))

abbrev pub stop_at : Aim → ℕ → Bool → ℕ → ℕ → ℕ → Option TrialEnd
stop_at a n new code den total =
    cond (code == GIVE_UP) (Some Dead)
    (cond (is_narrow a den total) (Some Narrow)
    (cond (stops_at_new a.ends && new) (Some New)
    (cond (n == a.depth) (Some Depth) None)))

abbrev pub onward_to : Bool → Option ℕ → Onward
onward_to new None = Ends Unplaced
onward_to new (Some id) = Goes id new

abbrev pub onward_by : Option Drawn → Onward
onward_by None = Ends Depth
onward_by (Some d) = onward_to d.new d.id

abbrev pub onward_from : Option TrialEnd → Option Drawn → Onward
onward_from (Some e) d = Ends e
onward_from None d = onward_by d

abbrev pub onward : Aim → ℕ → Bool → Turn → Onward
onward a n new t = onward_from (stop_at a n new t.code t.den t.total) t.drawn

pub record IsDrawn (r : ℕ) (steps : List Step) (total : ℕ) (d : Drawn) : Type 0 where
  pub rest : d.rest ≡ r % total
  pub index : IsFirstAbove (spreads steps) d.rest d.index
  pub to : (s : Step) × (slice_get steps d.index ≡ Some s) × (d.id ≡ s.id)
      × (d.new ≡ is_new s)

abbrev pub IsDraw : Option TrialEnd → ℕ → List Step → ℕ → Option Drawn → Type 0
IsDraw (Some e) r steps total drawn = drawn ≡ None
IsDraw None r steps total drawn = (d : Drawn) × (drawn ≡ Some d) × IsDrawn r steps total d

abbrev pub Leads : Onward → (TrialEnd → Type 0) → (ℕ → Bool → Type 0) → Type 0
Leads (Ends e) stop go = stop e
Leads (Goes id new) stop go = go id new

module _ {S : Type 0} (later full : S → S → Type 0) (last : S → Last) (told : Told S) (draw : ℕ → ℕ)
    (a : Aim) where
  -- the code, the denominator and the choices are those of the backup, and turn n takes draw n
  pub record IsTurn (n : ℕ) (new : Bool) (s u : S) (t : Turn) : Type 0 where
    pub follows : later s u
    pub exact : told.tells s ≡ true → (last u ≡ told.backed s t.id) × (u ≡ told.after s t.id)
    pub choices : AreChoices (last u)
    pub unplaced : All (UnplacedOnlyWhere (full s u)) (last u).steps
    pub code : t.code ≡ (last u).code
    pub den : t.den ≡ (last u).den
    pub total : t.total ≡ sum (spreads (last u).steps)
    pub drawn : IsDraw (stop_at a n new t.code t.den t.total) (draw n) (last u).steps t.total t.drawn

  abbrev pub AreTurns : List Turn → ℕ → ℕ → Bool → S → TrialEnd → S → Type 0
  AreTurns [] n id new s e z = ⊥
  AreTurns (t ∷ ts) n id new s e z =
      (u : S) × (t.id ≡ id) × IsTurn (n + 1) new s u t
      × Leads (onward a (n + 1) new t)
      (λ e'. (ts ≡ []) × (e ≡ e') × (z ≡ u))
      (λ id' new'. AreTurns ts (n + 1) id' new' u e z)
