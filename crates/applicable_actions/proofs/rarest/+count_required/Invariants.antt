use Rattle.applicable_actions.proofs.rarest.+count_required.Given as goal

abbrev pub decreases-count_required : goal.decreases-count_required
decreases-count_required l = goal.size-count_required l
