-- The rule answers the least cost of a choice, and nothing else.
use Rattle.std.proofs.Common.{refl, rules}
use Rattle.lower_seed.specs.Costs.{cost_value}
use Rattle.plan_request.specs.declared.lower.Lower.TheVariants as lowers
use Rattle.plan_search.proofs.Below.{by_rule}
use Rattle.plan_search.proofs.under.under_cost.Goals as goal

pub returns : goal.returns
returns c =
    let g = c.args.problem.now in
    by_rule lowers.Cost g c.args.image.now.rows _ c.under_by.result c.under_by.ensures.mean (cost_value g) (λ s. refl)
    (λ s v long a. let shows = a.shows in let met = a.says.met in search rules)
