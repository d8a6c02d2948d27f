use Rattle.std.proofs.Common.{◌≡◌, length}
use Rattle.ground_model.specs.Packed.{words_for}
use Rattle.certificate_check.specs.Buckets.{HasLinks}
use Rattle.certificate_check.proofs.row_table.RowTable.new.Given as goal

abbrev pub invariant-loop-place : goal.invariant-loop-place
invariant-loop-place l = record {
  state : length l.state ≡ words_for (length l.rows.problem.atoms);
  links : HasLinks l.rows l.place l.lasts.items l.befores.items;
}
