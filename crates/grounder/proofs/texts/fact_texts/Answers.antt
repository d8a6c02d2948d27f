use Rattle.std.proofs.Common.{ap, arith}
use Rattle.grounder.specs.texts.Texts.{fact_texts}
use Rattle.grounder.specs.texts.Wanted.{Wanted}
use Rattle.grounder.proofs.lemmas.texts.Wanting.{item_more, none_left}
use Rattle.grounder.proofs.texts.fact_texts.Goals as goal

pub loop-item-preserved : goal.loop-item-preserved
loop-item-preserved c =
    item_more fact_texts c.args.items.now c.loop-item.item-index c.item-item.result c.item-item.result c.loop-item.texts
    c.add_fact.new.texts _ c.in_ok-add_fact.field-0 c.loop-item-test.true c.item-item.is c.in_ok-add_fact.ensures c.loop-item.invariant
    c.if-not-branch.false

pub returns : goal.returns
returns c =
    ap (λ (s : Wanted). s.texts)
    (none_left fact_texts c.args.items.now c.loop-item.item-index c.loop-item.texts _ (omega (arith, c.loop-item-test.false)) c.loop-item.invariant)
