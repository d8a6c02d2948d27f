-- What is read of the starts one by one.
--     IsReadOf g v w id s r      bounds of s, read of its id: no wider than what v had noted of the id, and no narrower than what w has
--                                seen of s
--     over f xs                  the sum of weight times f over these starts
--     AreSums g v w xs sums      sums over these starts, no wider than those of v, and no narrower than those of w
use Rattle.std.specs.Prelude.{◌≡◌, ℕ, ◌*◌, ◌≤◌, true, List}
use Rattle.fixed_round.specs.Words.{value_of}
use Rattle.plain_list.specs.weighted.Mean.{total}
use Rattle.ground_model.specs.declared.start.Start.{Start}
use Rattle.ground_model.specs.Packed.{State}
use Rattle.ground_model.specs.Ground.{Ground}
use Rattle.ground_model.specs.Steps.{ground_process}
use Rattle.word_table.specs.declared.view.View.{View}
use Rattle.word_table.specs.view.Views.{seen_lower, noted_lower, noted_upper}
use Rattle.bellman_backup.specs.declared.means.bounds.Bounds.{Bounds}
use Rattle.bellman_backup.specs.declared.means.sums.Sums.{Sums}
use Rattle.bellman_backup.specs.means.Means.{seen_value}

pub record IsReadOf (g : Ground) (v w : View) (id : ℕ) (s : State) (r : Bounds) : Type 0 where
  pub lower_noted : noted_lower v id ≤ r.lower
  pub lower_until : r.lower ≤ seen_lower w s
  pub upper_noted : r.upper ≤ value_of (noted_upper v id)
  pub at_goal : (ground_process g).goal s ≡ true → r.upper ≡ 0
  pub upper_until : seen_value w s ≤ r.upper
  pub within_quit : (r.lower ≤ g.penalty) × (r.upper ≤ g.penalty)

abbrev pub over : (State → ℕ) → List Start → ℕ
over f xs = total (λ (x : Start). x.weight * f x.state) xs

pub record AreSums (g : Ground) (v w : View) (xs : List Start) (sums : Sums) : Type 0 where
  pub lower_since : over (seen_lower v) xs ≤ sums.lower
  pub lower_until : sums.lower ≤ over (seen_lower w) xs
  pub upper_since : sums.upper ≤ over (seen_value v) xs
  pub upper_until : over (seen_value w) xs ≤ sums.upper
  pub within_quit : (sums.lower ≤ total (λ (x : Start). x.weight) xs * g.penalty)
      × (sums.upper ≤ total (λ (x : Start). x.weight) xs * g.penalty)
