use Rattle.std.proofs.Common.{◌+◌, take}
use Rattle.ground_terms.proofs.lemmas.terms.Giving.{one_more}
use Rattle.task_instances.proofs.lemmas.kept_rows.Placing.{slot_more}
use Rattle.task_instances.proofs.kept_rows.pattern.slots_of.Goals as goal

pub loop-term-preserved : goal.loop-term-preserved
loop-term-preserved c =
    let terms = c.args.terms.now in
    let i = c.loop-term.term-index in
    slot_more c.args.table.now c.args.params.now (take i terms) (take (i + 1) terms) c.term-item.result c.loop-term.slots.items c.push.new.self.items
    c.in-Some.slot c.loop-term.invariant c.in-Some.ensures (one_more terms i c.term-item.result c.loop-term-test.true c.term-item.is)
    c.in_ok-push.ensures.items
