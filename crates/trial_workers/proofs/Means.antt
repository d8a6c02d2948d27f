-- Means over the starts rise with what they are means of.
use Rattle.std.proofs.Common.{ℕ, ◌≤◌, List}
use Rattle.plain_list.proofs.lemmas.weighted.Totals.{total-weighted_le}
use Rattle.decision_process.specs.Process.{Start, at_starts}
use Rattle.decision_process.specs.Backup.{floor, ceiling}
use Rattle.decision_process.proofs.Rounding.{floor_rises, ceiling_rises}
use Rattle.ground_model.specs.Packed.{State}
use Rattle.ground_model.specs.Ground.{Ground}
use Rattle.ground_model.specs.Steps.{ground_starts}

means_rise : (f h : State → ℕ) (starts : List (Start State)) → ((s : State) → f s ≤ h s) → at_starts f starts ≤ at_starts h starts
means_rise f h starts each = total-weighted_le (λ (x : Start State). x.weight) (λ x. f x.state) (λ x. h x.state) starts (λ x inside. each x.state)

module _ (g : Ground) (f h : State → ℕ) (each : (s : State) → f s ≤ h s) where
  pub floors_rise : floor (at_starts f (ground_starts g)) g.start_den ≤ floor (at_starts h (ground_starts g)) g.start_den
  floors_rise = floor_rises (at_starts f (ground_starts g)) (at_starts h (ground_starts g)) g.start_den (means_rise f h (ground_starts g) each)

  pub ceilings_rise : ceiling (at_starts f (ground_starts g)) g.start_den ≤ ceiling (at_starts h (ground_starts g)) g.start_den
  ceilings_rise = ceiling_rises (at_starts f (ground_starts g)) (at_starts h (ground_starts g)) g.start_den (means_rise f h (ground_starts g) each)
