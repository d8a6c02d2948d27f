use Rattle.std.proofs.Common.{◌≡◌, ◌≤◌, ◌+◌, ◌-◌, drop, length}
use Rattle.std.specs.List.{position_or_len}
use Rattle.ground_meaning.specs.choices.Same.{same_choice}
use Rattle.outcome_dist.proofs.lists.same.place_of.Given as goal

abbrev pub invariant-loop-place : goal.invariant-loop-place
invariant-loop-place l =
    (l.place ≤ length l.list)
    × (position_or_len (λ x. same_choice x l.draft) l.list ≡ l.place + position_or_len (λ x. same_choice x l.draft) (drop l.place l.list))

abbrev pub decreases-loop-place : goal.decreases-loop-place
decreases-loop-place l = length l.list - l.place
