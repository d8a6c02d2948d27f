-- The first events are allowed, and the board shows the core after them.
use Rattle.std.proofs.Common.{◌≡◌, length, take}
use Rattle.bound_core.specs.Core.{width}
use Rattle.bound_core.specs.Events.{after_each, AreAllowed}
use Rattle.core_run.specs.Run.{begun}
use Rattle.core_run.specs.Boards.{core_of, IsFormed}
use Rattle.core_run.proofs.running.run_events.Given as goal

abbrev pub invariant-loop-index : goal.invariant-loop-index
invariant-loop-index l = record {
  fits : length l.next ≡ width l.problem;
  formed : IsFormed l.problem l.board;
  allowed : AreAllowed l.problem (begun l.problem) (take l.index l.events);
  core : core_of l.problem l.board ≡ after_each l.problem (begun l.problem) (take l.index l.events);
}
