-- What an accepted certificate says of the process of its problem.
use Rattle.decision_process.proofs.Readings.{certificate_encloses}
use Rattle.decision_process.proofs.Ending.{policy_ends}
use Rattle.ground_model.specs.Packed.{same_state}
use Rattle.ground_model.specs.Steps.{ground_process, ground_starts, least_choice_cost}
use Rattle.ground_model.proofs.Steps.{has_denominator, costs_at_least, start_den_positive}
use Rattle.certificate_check.specs.Claims.{low_in, high_in, ground_certificate}
use Rattle.certificate_check.specs.Laws.{act_in, BalancedEncloses, PolicyEnds}

pub balanced_encloses : BalancedEncloses
balanced_encloses g is c for =
    certificate_encloses (ground_process g) same_state (ground_starts g) g.start_den (start_den_positive g is)
    (ground_certificate g c) for.balanced

pub ends : PolicyEnds
ends g is c for n s =
    policy_ends (ground_process g) (low_in g c) (high_in g c) (act_in g c) for.balanced.balanced
    (has_denominator g is) (least_choice_cost g) (costs_at_least g is) n s
