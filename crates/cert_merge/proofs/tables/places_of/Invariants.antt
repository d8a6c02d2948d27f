-- The texts so far have their places.
use Rattle.std.proofs.Common.{◌≡◌, ◌<◌, ℕ, length}
use Rattle.certificate.specs.Content.{name_at}
use Rattle.certificate.specs.Numbering.{Among, place_of}
use Rattle.cert_merge.specs.Tables.{place_in}
use Rattle.cert_merge.proofs.tables.places_of.Given as goal

abbrev pub invariant-loop-text : goal.invariant-loop-text
invariant-loop-text l = record {
  long : length l.places.items ≡ l.text-index;
  placed : (i : ℕ) → i < l.text-index → Among l.table (name_at l.texts i) → place_in l.places.items i ≡ place_of l.table (name_at l.texts i);
}
