use Rattle.std.proofs.Common.{◌≡◌, [], length, map, ◌*◌, ◌^◌, refl, sym, ap, ◌∙◌, arith}
use Rattle.exact_fraction.specs.Divisors.{lcm_of, common_multiple}
use Rattle.ppddl_model.specs.declared.tree.Branch.{Branch}
use Rattle.ppddl_model.specs.Objects.{bindings}
use Rattle.ground_meaning.specs.choices.Joint.{den_of}
use Rattle.ground_terms.specs.sizes.Counted.{counted}
use Rattle.ground_terms.proofs.lemmas.sizes.Stopping.{counted-mul}
use Rattle.ground_terms.proofs.lemmas.sizes.DenSteps.{product_more, lcm_more, lcm_end, lcm-one, den-Both, den-Chance, den-Forall, den-When, counted-power, counted-lcm_right}
use Rattle.ground_terms.proofs.sizes.denominators.+denominator.Goals as goal

pub loop-part-init : goal.loop-part-init
loop-part-init t c = record {
  small = refl;
  rest =
      let whole = den-Both c.args.table.now c.args.effect.now c.in-Both.parts c.as_slice-part-items.result.now c.in-Both.is c.as_slice-part-items.ensures in
      ap counted (omega arith ∙ sym whole);
}

pub loop-part-preserved : goal.loop-part-preserved
loop-part-preserved t c = record {
  small = omega (arith, c.saturating_mul-product.ensures);
  rest =
      product_more (den_of c.args.table.now) c.as_slice-part-items.result.now c.loop-part.part-index c.part-item.result c.loop-part.product
      c.saturating_mul-product.result c.denominator.result (counted (den_of c.args.table.now c.args.effect.now)) c.loop-part-test.true c.part-item.is
      c.denominator.ensures c.saturating_mul-product.ensures c.loop-part.invariant.rest;
}

pub loop-branch-init : goal.loop-branch-init
loop-branch-init t c = record {
  small = refl;
  each_small = refl;
  rest = ap counted (lcm-one (common_multiple (map (λ (x : Branch). x.chance.den) c.as_slice-branch-items.result.now)));
  each_rest = ap counted (lcm-one (common_multiple (map (λ (x : Branch). den_of c.args.table.now x.effect) c.as_slice-branch-items.result.now)));
}

pub loop-branch-preserved : goal.loop-branch-preserved
loop-branch-preserved t c = record {
  small = omega (arith, c.common_multiple-own.ensures);
  each_small = omega (arith, c.common_multiple-each.ensures);
  rest =
      lcm_more (λ (x : Branch). x.chance.den) c.as_slice-branch-items.result.now c.loop-branch.branch-index c.branch-item.result c.loop-branch.own
      c.common_multiple-own.result (counted (common_multiple (map (λ (x : Branch). x.chance.den) c.as_slice-branch-items.result.now)))
      c.loop-branch-test.true c.branch-item.is c.common_multiple-own.ensures c.loop-branch.invariant.rest;
  each_rest =
      lcm_more (λ (x : Branch). den_of c.args.table.now x.effect) c.as_slice-branch-items.result.now c.loop-branch.branch-index c.branch-item.result
      c.loop-branch.each c.common_multiple-each.result
      (counted (common_multiple (map (λ (x : Branch). den_of c.args.table.now x.effect) c.as_slice-branch-items.result.now)))
      c.loop-branch-test.true c.branch-item.is
      (c.common_multiple-each.ensures ∙ ap (λ d. counted (lcm_of c.loop-branch.each d)) c.denominator-in-loop-branch.ensures
      ∙ counted-lcm_right c.loop-branch.each (den_of c.args.table.now c.branch-item.result.effect))
      c.loop-branch.invariant.each_rest;
}

pub returns-in-Forall : goal.returns-in-Forall
returns-in-Forall t c =
    c.power.ensures ∙ ap (λ d. counted (d ^ c.count_bindings.result)) c.denominator-in-Forall.ensures
    ∙ ap (λ n. counted (counted (den_of c.args.table.now c.get.result.now) ^ n)) c.count_bindings.ensures
    ∙ counted-power (den_of c.args.table.now c.get.result.now) (length (bindings c.args.table.now c.as_slice.result.now []))
    ∙ ap counted (sym (den-Forall c.args.table.now c.args.effect.now c.in-Forall.inner c.get.result.now c.in-Forall.variables c.as_slice.result.now
    c.in-Forall.is c.get.ensures c.as_slice.ensures))

pub returns-in-When : goal.returns-in-When
returns-in-When t c =
    c.denominator-in-When.ensures
    ∙ ap counted (sym (den-When c.args.table.now c.args.effect.now c.in-When.field-0 c.in-When.inner c.get-in-When.result.now c.in-When.is c.get-in-When.ensures))

pub returns-after-loop-branch : goal.returns-after-loop-branch
returns-after-loop-branch t c =
    let branches = c.as_slice-branch-items.result.now in
    let own : c.loop-branch.own ≡ counted (common_multiple (map (λ (x : Branch). x.chance.den) branches))
    = lcm_end (λ (x : Branch). x.chance.den) branches c.loop-branch.branch-index c.loop-branch.own
    (counted (common_multiple (map (λ (x : Branch). x.chance.den) branches))) (λ more. omega (arith, c.loop-branch-test.false, more))
    c.loop-branch.invariant.small c.loop-branch.invariant.rest in
    let each : c.loop-branch.each ≡ counted (common_multiple (map (λ (x : Branch). den_of c.args.table.now x.effect) branches))
    = lcm_end (λ (x : Branch). den_of c.args.table.now x.effect) branches c.loop-branch.branch-index c.loop-branch.each
    (counted (common_multiple (map (λ (x : Branch). den_of c.args.table.now x.effect) branches))) (λ more. omega (arith, c.loop-branch-test.false, more))
    c.loop-branch.invariant.each_small c.loop-branch.invariant.each_rest in
    c.saturating_mul.ensures
    ∙ ap (λ k. counted (k * c.loop-branch.each)) own
    ∙ ap (λ k. counted (counted (common_multiple (map (λ (x : Branch). x.chance.den) branches)) * k)) each
    ∙ counted-mul (common_multiple (map (λ (x : Branch). x.chance.den) branches)) (common_multiple (map (λ (x : Branch). den_of c.args.table.now x.effect) branches))
    ∙ ap counted (sym (den-Chance c.args.table.now c.args.effect.now c.in-Chance.branches branches c.in-Chance.is c.as_slice-branch-items.ensures))
