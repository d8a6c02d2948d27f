use Rattle.std.proofs.Common.{◌∙◌, arith}
use Rattle.ground_terms.proofs.lemmas.sizes.Stopping.{low_power, power_none, power_more, power_end}
use Rattle.ground_terms.proofs.sizes.counts.power.Goals as goal

pub returns-else-exponent-eq0 : goal.returns-else-exponent-eq0
returns-else-exponent-eq0 c = low_power c.args.base c.args.exponent (omega arith) (λ none. omega (arith, none))

pub loop-init : goal.loop-init
loop-init c = power_none c.args.base

pub loop-preserved : goal.loop-preserved
loop-preserved c = c.saturating_mul-power.ensures ∙ power_more c.args.base c.loop.counter c.loop.power c.loop.invariant

pub returns : goal.returns
returns c =
    power_end c.args.base c.args.exponent c.loop.counter c.loop.power (λ low. omega (arith, low)) (omega arith) c.loop.invariant
