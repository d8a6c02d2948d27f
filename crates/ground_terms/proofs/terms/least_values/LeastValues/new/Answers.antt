use Rattle.std.proofs.Common.{◌∙◌, ap, sym, take}
use Rattle.ground_terms.specs.terms.Maps.{number_in}
use Rattle.ground_terms.specs.terms.Values.{least_given}
use Rattle.ground_terms.proofs.lemmas.terms.Giving.{least_push, one_more}
use Rattle.ground_terms.proofs.terms.least_values.LeastValues.new.Goals as goal

pub loop-item-preserved : goal.loop-item-preserved
loop-item-preserved c =
    let items = c.args.items.now in
    let i = c.loop-item.item-index in
    λ f. ap (λ entries. number_in entries f) c.in_ok-lower.ensures
    ∙ least_push (take i items) c.loop-item.numbers c.loop-item.invariant c.item-item.result f
    ∙ ap (λ l. least_given l f) (sym (one_more items i c.item-item.result c.loop-item-test.true c.item-item.is))
