-- One start more.
use Rattle.std.proofs.Common.{ap, subst}
use Rattle.ground_model.specs.declared.start.Start.{Start}
use Rattle.ground_model.specs.Packed.{State}
use Rattle.trial_workers.specs.explorer.Found.{IsAdded}
use Rattle.trial_workers.proofs.lemmas.explorer.Distinct.{distinct_more}
use Rattle.trial_workers.proofs.explorer.levels.list_starts.Goals as goal

pub loop-start-preserved : goal.loop-start-preserved
loop-start-preserved c =
    let x = c.start-item.result in
    distinct_more (λ (x : Start). x.state) c.args.starts.now c.loop-start.start-index x c.loop-start.listing c.add.new.self
    c.loop-start-test.true c.requires c.loop-start.invariant
    (subst (λ (t : State). IsAdded c.loop-start.listing c.add.new.self t) (ap (λ (y : Start). y.state) c.start-item.is) c.in_ok-add.ensures)
