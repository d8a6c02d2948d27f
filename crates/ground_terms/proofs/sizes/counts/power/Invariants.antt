use Rattle.std.proofs.Common.{◌≡◌, ◌^◌}
use Rattle.ground_terms.specs.sizes.Counted.{counted}
use Rattle.ground_terms.proofs.sizes.counts.power.Given as goal

abbrev pub invariant-loop : goal.invariant-loop
invariant-loop l = l.power ≡ counted (l.base ^ l.counter)
