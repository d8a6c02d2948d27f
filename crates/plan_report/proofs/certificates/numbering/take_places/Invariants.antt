use Rattle.std.proofs.Common.{◌≡◌, ◌<◌, ◌++◌, length, map}
use Rattle.std.specs.List.{All}
use Rattle.plan_report.specs.certificates.Tables.{place_in}
use Rattle.plan_report.proofs.certificates.numbering.take_places.Given as goal

abbrev pub invariant-loop-atom : goal.invariant-loop-atom
invariant-loop-atom l = record {
  callable : (goal.iterator-loop-atom).can_next l.atom-iterator;
  finite : (goal.iterator-loop-atom).is_finite l.atom-iterator;
  within : All (λ q. q < length l.places) l.atom-iterator;
  taken : l.numbers.items ++ map (place_in l.places) l.atom-iterator ≡ map (place_in l.places) l.row.atoms;
}
