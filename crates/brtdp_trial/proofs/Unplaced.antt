-- A trial that ends before a state without an id has a turn whose backup has found that a state gets none.
use Rattle.std.proofs.Common.{◌≡◌, refl, sym, ap, subst, ◌∙◌, ℕ, ◌+◌, Bool, true, false, cond, List, [], ◌∷◌}
use Rattle.std.specs.Prelude.{Option, Some, None}
use Rattle.brtdp_trial.specs.Meaning.{Last, Told, UnplacedOnlyWhere}
use Rattle.brtdp_trial.specs.Turns.{AreTurns, IsDraw, IsTurn, Leads, onward, onward_by, onward_from, onward_to, stop_at}
use Rattle.brtdp_trial.specs.Trials.{FromStart, aim_at}
use Rattle.brtdp_trial.specs.declared.aim.Aim.{Aim}
use Rattle.brtdp_trial.specs.declared.ending.Ends.{Ends as To}
use Rattle.brtdp_trial.specs.declared.step.Step.{Step}
use Rattle.brtdp_trial.specs.declared.start_draw.StartDrawn.{StartDrawn}
use Rattle.brtdp_trial.specs.declared.turn.Turn.{Turn}
use Rattle.brtdp_trial.specs.declared.turn.Drawn.{Drawn}
use Rattle.brtdp_trial.specs.declared.ends.TrialEnd.{TrialEnd}
use Rattle.brtdp_trial.specs.declared.ends.TrialEnd.TheVariants.{Dead, Narrow, Depth, New, Unplaced}
use Rattle.brtdp_trial.specs.declared.ends.Onward.{Onward}
use Rattle.brtdp_trial.specs.declared.ends.Onward.TheVariants.{Ends, Goes}
use Rattle.brtdp_trial.proofs.Walking.{All_at}

-- ---- one turn

stops_placed : (b c x d : Bool) → cond b (Some Dead) (cond c (Some Narrow) (cond x (Some New) (cond d (Some Depth) None))) ≡ Some Unplaced → ⊥
stops_placed true c x d e = absurd cc
stops_placed false true x d e = absurd cc
stops_placed false false true d e = absurd cc
stops_placed false false false true e = absurd cc
stops_placed false false false false e = absurd cc

ends_same : (x y : TrialEnd) → Ends x ≡ Ends y → x ≡ y
ends_same x y e = cc

drawn_then : (o : Option TrialEnd) (d : Option Drawn) → onward_from o d ≡ Ends Unplaced → (o ≡ Some Unplaced → ⊥)
    → (o ≡ None) × (onward_by d ≡ Ends Unplaced)
drawn_then None d e never = (refl, e)
drawn_then (Some x) d e never = absurd (never (ap Some (ends_same x Unplaced e)))

to_none : (new : Bool) (o : Option ℕ) → onward_to new o ≡ Ends Unplaced → o ≡ None
to_none new None e = refl
to_none new (Some id) e = absurd cc

module _ {S : Type 0} (later full : S → S → Type 0) (last : S → Last) (told : Told S) (draw : ℕ → ℕ) where
  turn_is_full : (a : Aim) (n : ℕ) (new : Bool) (s u : S) (t : Turn) → IsTurn later full last told draw a n new s u t
      → onward a n new t ≡ Ends Unplaced → full s u
  turn_is_full a n new s u t turn ends =
      let stop = stop_at a n new t.code t.den t.total in
      let then : (stop ≡ None) × (onward_by t.drawn ≡ Ends Unplaced) = drawn_then stop t.drawn ends (stops_placed _ _ _ _) in
      let is : IsDraw None (draw n) (last u).steps t.total t.drawn =
      subst (λ o. IsDraw o (draw n) (last u).steps t.total t.drawn) then.0 turn.drawn in
      let none : is.0.id ≡ None = to_none is.0.new is.0.id (sym (ap onward_by is.1) ∙ then.1) in
      All_at (UnplacedOnlyWhere (full s u)) (last u).steps is.0.index is.2.to.0 turn.unplaced is.2.to.1 (sym is.2.to.2 ∙ none)

  -- ---- all turns

  module _ (on : (x : S) → later x x) (stays : (w x y z : S) → later w x → full x y → later y z → full w z) where
    led_is_full : (a : Aim) (t : Turn) (ts : List Turn) (n : ℕ) (new : Bool) (s u : S) (e : TrialEnd) (z : S)
        → IsTurn later full last told draw a (n + 1) new s u t
        → e ≡ Unplaced → ((id : ℕ) (new' : Bool) → AreTurns later full last told draw a ts (n + 1) id new' u e z → full u z)
        → (o : Onward) → onward a (n + 1) new t ≡ o
        → Leads o (λ e'. (ts ≡ []) × (e ≡ e') × (z ≡ u)) (λ id new'. AreTurns later full last told draw a ts (n + 1) id new' u e z)
        → full s z
    led_is_full a t ts n new s u e z turn ends rest (Ends e') is led =
        let end : e' ≡ Unplaced = sym led.1 ∙ ends in
        subst (λ y. full s y) (sym led.2) (turn_is_full a (n + 1) new s u t turn (is ∙ ap Ends end))
    led_is_full a t ts n new s u e z turn ends rest (Goes id new') is led = stays s u z z turn.follows (rest id new' led) (on z)

    turns_are_full : (a : Aim) (ts : List Turn) (n id : ℕ) (new : Bool) (s : S) (e : TrialEnd) (z : S) → AreTurns later full last told draw a ts n id new s e z
        → e ≡ Unplaced → full s z
    turns_are_full a [] n id new s e z are ends = absurd are
    turns_are_full a (t ∷ ts) n id new s e z are ends =
        led_is_full a t ts n new s are.0 e z are.2 ends (λ id' new' rest. turns_are_full a ts (n + 1) id' new' are.0 e z rest ends)
        (onward a (n + 1) new t) refl are.3

    narrow_is_other : (e : TrialEnd) → e ≡ Narrow → e ≡ Unplaced → ⊥
    narrow_is_other e narrow ends = cc

    pub start_is_full : (tau depth : ℕ) (to : To) (d : Option StartDrawn) (steps : List Step) (ts : List Turn) (s : S) (e : TrialEnd) (z : S)
        → FromStart later full last told draw tau depth to d steps ts s e z → e ≡ Unplaced → full s z
    start_is_full tau depth to None steps ts s e z from ends = absurd (narrow_is_other e from.1 ends)
    start_is_full tau depth to (Some d) steps ts s e z from ends = turns_are_full (aim_at d tau depth to) ts 0 from.1 false s e z from.4 ends
