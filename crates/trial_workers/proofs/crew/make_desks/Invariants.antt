-- So many desks are made.
use Rattle.std.specs.Arc.{arc_value}
use Rattle.trial_workers.specs.Crews.{AreDesks}
use Rattle.trial_workers.proofs.crew.make_desks.Given as goal

abbrev pub invariant-loop : goal.invariant-loop
invariant-loop l = AreDesks (arc_value l.index) (arc_value l.near) l.depth l.counter l.desks.items
