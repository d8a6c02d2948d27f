-- What is known of states is known from below of them.
use Rattle.std.proofs.Common.{◌≡◌, min, true, false, cond, refl, sym, subst}
use Rattle.decision_process.specs.under.Under.{IsUnder}
use Rattle.decision_process.proofs.lemmas.under.Values.{zero_is_under}
use Rattle.ground_model.specs.Packed.{State}
use Rattle.ground_model.specs.Ground.{Ground}
use Rattle.ground_model.specs.Invariant.{IsGroundProblem}
use Rattle.ground_model.specs.Steps.{ground_process}
use Rattle.lower_seed.specs.Costs.{least_choice, cost_value}
use Rattle.lower_seed.proofs.LeastCosts.{least_choice_is_under}
use Rattle.relaxed_seed.proofs.Consistency.{relaxed_is_under}
use Rattle.plan_request.specs.declared.lower.Lower.TheVariants as lowers
use Rattle.plan_search.specs.Under.{KnownIsUnder}

cost_is_under : (g : Ground) → IsGroundProblem g → (s : State) → IsUnder (ground_process g) (cost_value g s) s
cost_is_under g valid s =
    (elim ((ground_process g).goal s)
    as (λ b. (ground_process g).goal s ≡ b → IsUnder (ground_process g) (cond b 0 (min g.penalty (least_choice g))) s) [
      | true ↦ λ on. zero_is_under (ground_process g) s
      | false ↦ λ off. least_choice_is_under g valid s off
    ]) refl

pub known_is_under : KnownIsUnder
known_is_under lowers.None g valid s v known = absurd known
known_is_under lowers.Cost g valid s v known = subst (λ n. IsUnder (ground_process g) n s) (sym known) (cost_is_under g valid s)
known_is_under lowers.Relaxed g valid s v known = relaxed_is_under g valid s v known
