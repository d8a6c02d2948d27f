use Rattle.std.proofs.Common.{◌≡◌, ◌+◌, drop, length}
use Rattle.plain_list.specs.weighted.Mean.{total}
use Rattle.ppddl_model.specs.Steps.{instances}
use Rattle.ground_terms.specs.sizes.Counted.{counted}
use Rattle.grounder.proofs.lemmas.limits.Counting.{tried_by_table}
use Rattle.grounder.proofs.limits.counts.count_instances.Given as goal

abbrev pub invariant-loop-action : goal.invariant-loop-action
invariant-loop-action l = record {
  small : counted l.count ≡ l.count;
  rest : counted (l.count + total (tried_by_table l.facts) (drop l.action-index l.action-items)) ≡ counted (length (instances l.facts));
}
