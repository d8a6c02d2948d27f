-- The rule answers the greatest relaxed cost, of which there is one.
use Rattle.std.proofs.Common.{rules}
use Rattle.std.specs.Prelude.{ℕ}
use Rattle.ground_model.specs.Packed.{State}
use Rattle.plan_request.specs.declared.lower.Lower.TheVariants as lowers
use Rattle.plan_search.proofs.Below.{by_rule}
use Rattle.plan_search.proofs.under.under_relaxed.Goals as goal

pub returns : goal.returns
returns c =
    let g = c.args.problem.now in
    let law = c.potential_laws.ensures in
    let valid = c.penalty-penalty.ensures.valid in
    let value : State → ℕ = λ s. (law.relaxed g valid s).0 in
    by_rule lowers.Relaxed g c.args.image.now.rows _ c.under_by.result c.under_by.ensures.mean value (λ s. (law.relaxed g valid s).1)
    (λ s v long a. law.determined g s v (value s) (let shows = a.shows in let met = a.says.met in search rules) (law.relaxed g valid s).1)
