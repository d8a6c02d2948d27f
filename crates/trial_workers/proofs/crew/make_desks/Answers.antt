use Rattle.std.proofs.Common.{◌+◌, sym, subst}
use Rattle.std.specs.Arc.{arc_value}
use Rattle.trial_workers.specs.Crews.{AreDesks}
use Rattle.trial_workers.proofs.Making.{one_desk_more}
use Rattle.trial_workers.proofs.crew.make_desks.Goals as goal

pub loop-preserved : goal.loop-preserved
loop-preserved c =
    let g = arc_value c.args.index.now in let t = arc_value c.args.near.now in let n = c.loop.counter in
    subst (AreDesks g t c.args.depth (n + 1)) (sym c.in_ok-push.ensures.items)
    (one_desk_more g t c.args.depth n c.loop.desks.items record { scratch = c.in_ok-make.field-0; near = c.in_ok-try_clone.field-0; path = c.in_ok-make-2.field-0 } c.loop.invariant
    record { scratch = c.in_ok-make.ensures; near = c.in_ok-try_clone.ensures; path = c.in_ok-make-2.ensures })
