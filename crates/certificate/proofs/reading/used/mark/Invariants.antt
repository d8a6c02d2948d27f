use Rattle.std.proofs.Common.{eqb, take}
use Rattle.std.specs.List.{list_any}
use Rattle.certificate.specs.Used.{IsMarkedBy}
use Rattle.certificate.proofs.reading.used.mark.Given as goal

abbrev pub invariant-loop-place : goal.invariant-loop-place
invariant-loop-place l = IsMarkedBy (λ i. list_any (λ n. eqb n i) (take l.place-index l.places)) l.initial.used l.used
