use Rattle.std.proofs.Common.{◌≡◌, ◌+◌, drop}
use Rattle.plain_list.specs.weighted.Mean.{total}
use Rattle.ground_meaning.specs.choices.Limits.{condition_size}
use Rattle.ground_terms.specs.sizes.Counted.{counted}
use Rattle.ground_terms.proofs.sizes.conditions.+condition_size.Given as goal

abbrev pub invariant-loop-part : goal.invariant-loop-part
invariant-loop-part l = record {
  small : counted l.size ≡ l.size;
  rest : counted (l.size + total (condition_size l.table) (drop l.part-index l.part-items)) ≡ counted (condition_size l.table l.condition);
}
