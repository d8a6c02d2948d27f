-- The places so far are right, and the rows so far have them.
use Rattle.plan_report.specs.certificates.Tables.{AreActPlaces, HaveActPlaces}
use Rattle.plan_report.proofs.certificates.acts.places_of_acts.Given as goal

abbrev pub invariant-loop-row : goal.invariant-loop-row
invariant-loop-row l = record {
  places : AreActPlaces l.problem l.acts l.places.items;
  rows : HaveActPlaces l.places.items l.rows l.row-index;
}
