use Rattle.ppddl_model.specs.Steps.{world}
use Rattle.ground_terms.specs.terms.Scopes.{binding_of}
use Rattle.grounder.specs.texts.Texts.{under_texts}
use Rattle.grounder.proofs.lemmas.texts.Wanting.{item_more, item_over}
use Rattle.grounder.proofs.texts.literals.add_under.Goals as goal

pub loop-quantified-preserved : goal.loop-quantified-preserved
loop-quantified-preserved c =
    item_more (under_texts (world c.args.facts.now) (binding_of c.args.scope.now)) c.args.atoms.now c.loop-quantified.quantified-index
    c.quantified-item.result c.quantified-item.result c.loop-quantified.texts c.add_one_under.new.texts _ c.in_ok-add_one_under.field-0
    c.loop-quantified-test.true c.quantified-item.is c.in_ok-add_one_under.ensures c.loop-quantified.invariant c.if-not-branch.false

pub returns-then-not-branch : goal.returns-then-not-branch
returns-then-not-branch c =
    item_over (under_texts (world c.args.facts.now) (binding_of c.args.scope.now)) c.args.atoms.now c.loop-quantified.quantified-index
    c.quantified-item.result c.quantified-item.result c.loop-quantified.texts c.add_one_under.new.texts _ c.in_ok-add_one_under.field-0
    c.loop-quantified-test.true c.quantified-item.is c.in_ok-add_one_under.ensures c.loop-quantified.invariant c.if-not-branch.true
