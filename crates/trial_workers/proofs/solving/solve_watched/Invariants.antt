-- So many rounds are made, the means are read behind them, and the watcher has been told of some of the readings.
use Rattle.std.proofs.Common.{◌-◌, ◌≤◌, List}
use Rattle.ground_model.specs.Packed.{State}
use Rattle.trial_workers.specs.declared.reading.Reading.{Reading}
use Rattle.trial_workers.specs.Crews.{IsListed}
use Rattle.trial_workers.specs.Watching.{means_of, HasBeenTold}
use Rattle.trial_workers.proofs.Looping.{Solving}
use Rattle.trial_workers.proofs.Watching.{Telling}
use Rattle.trial_workers.proofs.solving.solve_watched.Given as goal

abbrev pub invariant-loop-rounds : goal.invariant-loop-rounds
invariant-loop-rounds g l = (l.last.solved.rounds ≤ l.effort.rounds)
    × ((states : List State) × IsListed l.words.problem states l.extent
    × Solving l.words l.effort states l.extent l.fn.crew l.crew l.last.solved.rounds (means_of l.last.solved))
    × ((rs : List Reading) × HasBeenTold g.W.Watcher.tells rs l.fn.watcher l.watcher
    × Telling l.words.problem l.words.layout.ids l.extent.depth l.effort l.last.solved rs)

abbrev pub decreases-loop-rounds : goal.decreases-loop-rounds
decreases-loop-rounds g l = l.effort.rounds - l.last.solved.rounds
