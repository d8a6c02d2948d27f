use Rattle.std.proofs.Common.{◌∙◌}
use Rattle.outcome_dist.proofs.lemmas.lists.Sets.{rises}
use Rattle.outcome_dist.proofs.lists.joining.settled.Goals as goal

pub less-requires : goal.less-requires
less-requires c = rises _ c.draft.inside.adds.items (c.as_slice.ensures.value ∙ c.make_rising.ensures)
