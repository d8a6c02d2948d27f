use Rattle.std.proofs.Common.{◌∙◌, ap, sym, take}
use Rattle.ground_terms.specs.terms.Keys.{key_of}
use Rattle.ground_terms.specs.terms.Maps.{number_in}
use Rattle.ground_terms.specs.terms.Values.{given}
use Rattle.ground_terms.proofs.lemmas.terms.Giving.{values_push, one_more}
use Rattle.ground_terms.proofs.terms.function_values.FunctionValues.new.Goals as goal

pub loop-item-preserved : goal.loop-item-preserved
loop-item-preserved c =
    let items = c.args.items.now in
    let i = c.loop-item.item-index in
    λ t. ap (λ entries. number_in entries (key_of t)) c.in_ok-add_value.ensures
    ∙ values_push (take i items) c.loop-item.numbers c.loop-item.invariant c.item-item.result t
    ∙ ap (λ l. given l t) (sym (one_more items i c.item-item.result c.loop-item-test.true c.item-item.is))
