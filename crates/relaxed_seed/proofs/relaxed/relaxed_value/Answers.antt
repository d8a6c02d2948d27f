use Rattle.std.proofs.Common.{ℕ, ap, ◌∙◌}
use Rattle.ground_model.specs.declared.condition.GroundCondition.{GroundCondition}
use Rattle.relaxed_seed.specs.Prices.{price, prices_at}
use Rattle.relaxed_seed.proofs.Consistency.{relaxed_is_under}
use Rattle.relaxed_seed.proofs.relaxed.relaxed_value.Goals as goal

pub returns-clause-under : goal.returns-clause-under
returns-clause-under c =
    let g = c.args.problem.now in let prices = c.put_greatest_potential.new.prices in
    relaxed_is_under g c.atoms.ensures.valid c.args.state.now c.price.result (record {
      prices = prices_at prices g.penalty;
      greatest = c.put_greatest_potential.ensures;
      value_is = c.price.ensures
          ∙ ap (λ (n : ℕ). price (prices_at prices n) n c.goal.result.now) c.penalty.ensures.value
          ∙ ap (λ (d : GroundCondition). price (prices_at prices g.penalty) g.penalty d) c.goal.ensures.value;
    })
