-- So many workers have desks and passes.
use Rattle.std.proofs.Common.{◌≤◌}
use Rattle.std.specs.Arc.{arc_value}
use Rattle.std.specs.Prelude.{vec_capacity}
use Rattle.trial_workers.proofs.Making.{Seating}
use Rattle.trial_workers.proofs.crew.Crew.make.Given as goal

abbrev pub invariant-loop : goal.invariant-loop
invariant-loop l = record {
  seating : Seating l.words l.fn.pass (arc_value l.near) l.workers l.depth l.counter l.desks.items l.seats.items l.pass;
  room : l.workers ≤ vec_capacity l.seats;
}
