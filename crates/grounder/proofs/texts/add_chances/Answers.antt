use Rattle.grounder.specs.texts.Texts.{chance_texts}
use Rattle.grounder.proofs.lemmas.texts.Wanting.{item_more, item_over}
use Rattle.grounder.proofs.texts.add_chances.Goals as goal

pub loop-item-preserved : goal.loop-item-preserved
loop-item-preserved c =
    item_more chance_texts c.args.items.now c.loop-item.item-index c.item-item.result c.item-item.result c.loop-item.texts
    c.add_chance.new.texts _ c.in_ok-add_chance.field-0 c.loop-item-test.true c.item-item.is c.in_ok-add_chance.ensures c.loop-item.invariant
    c.if-not-branch.false

pub returns-then-not-branch : goal.returns-then-not-branch
returns-then-not-branch c =
    item_over chance_texts c.args.items.now c.loop-item.item-index c.item-item.result c.item-item.result c.loop-item.texts
    c.add_chance.new.texts _ c.in_ok-add_chance.field-0 c.loop-item-test.true c.item-item.is c.in_ok-add_chance.ensures c.loop-item.invariant
    c.if-not-branch.true
