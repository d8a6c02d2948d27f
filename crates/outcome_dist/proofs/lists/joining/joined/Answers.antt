use Rattle.std.proofs.Common.{◌++◌, ◌∙◌}
use Rattle.outcome_dist.proofs.lemmas.lists.Sets.{rises}
use Rattle.outcome_dist.proofs.lists.joining.joined.Goals as goal

pub less-requires : goal.less-requires
less-requires c = rises _ (c.as_slice.result.now ++ c.as_slice-2.result.now) (c.as_slice-5.ensures.value ∙ c.in_ok-adds.ensures)
