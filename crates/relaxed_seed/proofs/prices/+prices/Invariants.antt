-- The parts so far, with what the others cost, cost as much as all.
use Rattle.std.proofs.Common.{◌≡◌, ◌≤◌, min, max, drop}
use Rattle.relaxed_seed.specs.Parts.{dearest, cheapest}
use Rattle.relaxed_seed.specs.Prices.{prices_at}
use Rattle.relaxed_seed.proofs.prices.+prices.Given as goal

abbrev pub invariant-cheapest-loop-part : goal.invariant-cheapest-loop-part
invariant-cheapest-loop-part l = (l.found ≤ l.penalty)
    × (min l.found (cheapest (prices_at l.prices l.penalty) l.penalty l.wanted (drop l.part-index l.parts))
    ≡ cheapest (prices_at l.prices l.penalty) l.penalty l.wanted l.parts)

abbrev pub invariant-dearest-loop-part : goal.invariant-dearest-loop-part
invariant-dearest-loop-part l =
    max l.found (dearest (prices_at l.prices l.penalty) l.penalty l.wanted (drop l.part-index l.parts))
    ≡ dearest (prices_at l.prices l.penalty) l.penalty l.wanted l.parts
