-- The ones of the words so far, at most 64 of each.
use Rattle.std.proofs.Common.{◌≡◌, ◌*◌, ◌≤◌, take}
use Rattle.std.specs.Prelude.{count_ones}
use Rattle.std.specs.List.{sum_by}
use Rattle.plan_report.proofs.certificates.kept_row.KeptRow.atom_count.Given as goal

abbrev pub invariant-loop-word : goal.invariant-loop-word
invariant-loop-word l = record {
  ones : l.count ≡ sum_by count_ones (take l.word-index l.word-items);
  few : l.count ≤ 64 * l.word-index;
}
