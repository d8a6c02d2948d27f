use Rattle.std.proofs.Common.{◌≡◌, [], take, map}
use Rattle.plain_list.specs.weighted.Merged.{with_items}
use Rattle.ground_meaning.specs.choices.Joint.{added}
use Rattle.ground_meaning.specs.choices.Same.{same_choice}
use Rattle.outcome_dist.specs.lists.Keys.{key_of}
use Rattle.outcome_dist.proofs.lists.merging.new_keys.Given as goal

abbrev pub invariant-loop-draft : goal.invariant-loop-draft
invariant-loop-draft l = l.keys.keys ≡ map key_of (with_items same_choice added [] (take l.draft-index l.list))
