use Rattle.outcome_dist.proofs.lemmas.lists.Sets.{sorted_is}
use Rattle.outcome_dist.proofs.lists.atoms.make_rising.Goals as goal

pub returns : goal.returns
returns c = sorted_is _ _ _ c.sort_unstable.ensures.permutation c.sort_unstable.ensures.sorted c.dedup.ensures.filtered
