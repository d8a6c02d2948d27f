use Rattle.ppddl_model.specs.Objects.{bindings}
use Rattle.ppddl_model.specs.Steps.{world}
use Rattle.task_instances.proofs.lemmas.quantified_atoms.MoreVariables.{no_more, one_under}
use Rattle.task_instances.proofs.quantified_atoms.quantifying.add_under.Goals as goal

pub loop-quantified-init : goal.loop-quantified-init
loop-quantified-init c = λ f b. no_more (world c.args.facts.now) f c.args.atoms.now.items (bindings (world c.args.facts.now) c.args.variables.now b) b

pub loop-quantified-preserved : goal.loop-quantified-preserved
loop-quantified-preserved c = λ f b.
    one_under (world c.args.facts.now) f c.args.inner.now c.loop-quantified.quantified-index c.quantified-item.result c.in_ok-outer.outer
    c.args.atoms.now.items c.loop-quantified.atoms.items c.push.new.self.items (bindings (world c.args.facts.now) c.args.variables.now b) b
    c.loop-quantified-test.true c.quantified-item.is c.in_ok-push.ensures.items (c.in_ok-outer.ensures f b) (c.loop-quantified.invariant f b)
