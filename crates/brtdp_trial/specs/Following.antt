-- One listing follows another where it has the same states and starts, whatever its numbers; the laws of this.
use Rattle.std.proofs.Common.{◌≡◌, ℕ, true, sym, ap, subst, ◌∙◌}
use Rattle.std.specs.Prelude.{List, map}
use Rattle.brtdp_trial.specs.Listed.{Listing, HasUnplaced, HasUnplacedIn, state_at}
use Rattle.brtdp_trial.specs.declared.listed.ListedStart.{ListedStart}
use Rattle.brtdp_trial.specs.declared.listed.ListedState.{ListedState}

abbrev pub Follows : Listing → Listing → Type 0
Follows x y = (y.states ≡ x.states) × (y.starts ≡ x.starts)

pub later_follows : (x y z : Listing) → Follows x y → Follows y z → Follows x z
later_follows x y z a b = (b.0 ∙ a.0, b.1 ∙ a.1)

pub placed_stays : (x y : Listing) (id : ℕ) → Follows x y → (state_at x.states id).placed ≡ true
    → (state_at y.states id).placed ≡ true
placed_stays x y id a placed =
    subst (λ (states : List ListedState). (state_at states id).placed ≡ true) (sym a.0) placed

pub unplaced_stays : (x y : Listing) → Follows x y → HasUnplaced x → HasUnplaced y
unplaced_stays x y a unplaced = subst HasUnplacedIn (sym a.0) unplaced

pub weights_stay : (x y : Listing) → Follows x y
    → map (λ (s : ListedStart). s.weight) y.starts ≡ map (λ (s : ListedStart). s.weight) x.starts
weights_stay x y a = ap (map (λ (s : ListedStart). s.weight)) a.1
