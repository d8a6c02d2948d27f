-- Choices that change nothing.
--     is_idle c                  c adds and deletes nothing, under no condition either: it leads from each state to that state
--     moving cs                  how many of these choices are not idle
use Rattle.std.specs.Prelude.{ℕ, Bool, cond, ◌&&◌, ◌==◌, List, length}
use Rattle.plain_list.specs.weighted.Mean.{total}
use Rattle.ground_model.specs.declared.action.Choice.{Choice}

abbrev pub is_idle : Choice → Bool
is_idle c = (length c.adds == 0) && ((length c.deletes == 0) && (length c.guarded == 0))

abbrev pub moving : List Choice → ℕ
moving = total (λ (c : Choice). cond (is_idle c) 0 1)
