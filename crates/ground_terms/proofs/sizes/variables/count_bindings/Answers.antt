use Rattle.std.proofs.Common.{◌≡◌, ℕ, ◌*◌, [], length, drop, ◌+◌, ap, sym, ◌∙◌, arith}
use Rattle.ppddl_model.specs.Objects.{bindings}
use Rattle.ground_terms.specs.sizes.Counted.{counted}
use Rattle.ground_terms.proofs.lemmas.sizes.ManyWays.{ways_more}
use Rattle.ground_terms.proofs.sizes.variables.count_bindings.Goals as goal

pub loop-variable-preserved : goal.loop-variable-preserved
loop-variable-preserved c = record {
  small = ap counted c.saturating_mul-count.ensures ∙ omega (arith, c.saturating_mul-count.ensures);
  rest =
      ap (λ k. counted (k * length (bindings c.args.table.now (drop (c.loop-variable.variable-index + 1) c.args.variables.now) []))) c.saturating_mul-count.ensures
      ∙ ways_more c.args.table.now c.args.variables.now c.loop-variable.variable-index c.loop-variable.count c.count_objects.result
      (counted (length (bindings c.args.table.now c.args.variables.now []))) c.variable-item.result c.loop-variable-test.true
      c.variable-item.is c.count_objects.ensures c.loop-variable.invariant.rest;
}

pub returns-then-count-eq0 : goal.returns-then-count-eq0
returns-then-count-eq0 c =
    let rest : ℕ = length (bindings c.args.table.now (drop c.loop-variable.variable-index c.args.variables.now) []) in
    let none : 0 * rest ≡ 0 = omega arith in
    sym (ap counted none) ∙ ap (λ k. counted (k * rest)) (sym c.if-count-eq0.true) ∙ c.loop-variable.invariant.rest
