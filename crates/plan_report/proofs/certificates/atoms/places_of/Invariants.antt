-- The numbers so far have their places.
use Rattle.std.proofs.Common.{◌≡◌, ◌<◌, ℕ, Some, length}
use Rattle.std.specs.List.{slice_get}
use Rattle.plan_report.specs.certificates.Tables.{place_in}
use Rattle.plan_report.proofs.certificates.atoms.places_of.Given as goal

abbrev pub invariant-loop-place : goal.invariant-loop-place
invariant-loop-place l = record {
  long : length l.places.items ≡ l.count;
  placed : (k q : ℕ) → k < l.place → slice_get l.numbers k ≡ Some q → place_in l.places.items q ≡ k;
}
