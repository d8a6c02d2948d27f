-- The weights of actions, apart from their choices.
--     share_of c                 the weight of a choice, and whether it is not idle
--     Odds                       the shares of an action's choices, in their order, and the denominator
--     odds_of a                  those of an action
--     IsWithin shares s          the span is one of these shares
--     odds_in shares s           what the span has of them, with its denominator
--     HavePlaced actions spans shares
--                                the spans are those of the actions, in their order
--     HasPlaced a s old new      the span has the odds of the action in new: the old shares, with no more than its own behind them
use Rattle.std.specs.Prelude.{◌≡◌, ℕ, ◌+◌, ◌≤◌, not, List, ◌++◌, length, map, take, drop, All}
use Rattle.ground_model.specs.declared.action.Choice.{Choice}
use Rattle.ground_model.specs.declared.action.GroundAction.{GroundAction}
use Rattle.kept_transitions.specs.Idle.{is_idle}
use Rattle.bellman_backup.specs.declared.share.Share.{Share}
use Rattle.bellman_backup.specs.declared.span.Span.{Span}

abbrev pub share_of : Choice → Share
share_of c = record { weight = c.weight; moves = not (is_idle c) }

pub record Odds : Type 0 where
  pub shares : List Share
  pub den : ℕ

abbrev pub odds_of : GroundAction → Odds
odds_of a = record { shares = map share_of a.choices; den = a.den }

abbrev pub IsWithin : List Share → Span → Type 0
IsWithin shares s = s.first + s.count ≤ length shares

abbrev pub odds_in : List Share → Span → Odds
odds_in shares s = record { shares = take s.count (drop s.first shares); den = s.den }

pub record HavePlaced (actions : List GroundAction) (spans : List Span) (shares : List Share) : Type 0 where
  pub within : All (IsWithin shares) spans
  pub odds : map (odds_in shares) spans ≡ map odds_of actions

pub record HasPlaced (a : GroundAction) (s : Span) (old new : List Share) : Type 0 where
  pub more : List Share
  pub grown : new ≡ old ++ more
  pub few : length more ≤ length a.choices
  pub within : IsWithin new s
  pub odds : odds_in new s ≡ odds_of a
