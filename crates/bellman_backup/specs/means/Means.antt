-- The means over the starts of what a pass has seen.
--     HasStarts g v              the view has each start, with its place as its id
--     seen_value v s             the value of the least upper word that the view has seen of the state
--     lower_mean, upper_mean g v the mean of the lower bounds that it has seen of the starts, rounded down, and that of the upper
--                                ones, rounded up, as plain iteration rounds them
--     AreMeans g v w m           m is no wider than the means of v, and no narrower than those of w
use Rattle.std.specs.Prelude.{◌≡◌, ℕ, ◌≤◌, IsTrue, Some}
use Rattle.std.specs.List.{slice_get}
use Rattle.fixed_round.specs.Words.{value_of}
use Rattle.decision_process.specs.Process.{at_starts}
use Rattle.decision_process.specs.Backup.{floor, ceiling}
use Rattle.ground_model.specs.declared.start.Start.{Start}
use Rattle.ground_model.specs.Packed.{State}
use Rattle.ground_model.specs.Ground.{Ground}
use Rattle.ground_model.specs.Steps.{ground_starts}
use Rattle.word_table.specs.declared.view.View.{View}
use Rattle.word_table.specs.view.Views.{knows, has_state, seen_lower, seen_upper}
use Rattle.bellman_backup.specs.declared.means.Means.{Means}

abbrev pub HasStarts : Ground → View → Type 0
HasStarts g v = (id : ℕ) (x : Start) → slice_get g.starts id ≡ Some x
    → knows v id × IsTrue (has_state v id x.state)

abbrev pub seen_value : View → State → ℕ
seen_value v s = value_of (seen_upper v s)

abbrev pub lower_mean : Ground → View → ℕ
lower_mean g v = floor (at_starts (seen_lower v) (ground_starts g)) g.start_den

abbrev pub upper_mean : Ground → View → ℕ
upper_mean g v = ceiling (at_starts (seen_value v) (ground_starts g)) g.start_den

pub record AreMeans (g : Ground) (v w : View) (m : Means) : Type 0 where
  pub lower_since : lower_mean g v ≤ m.lower
  pub lower_until : m.lower ≤ lower_mean g w
  pub upper_since : m.upper ≤ upper_mean g v
  pub upper_until : upper_mean g w ≤ m.upper
