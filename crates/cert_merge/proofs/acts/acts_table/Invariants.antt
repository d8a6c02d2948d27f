-- What is marked was put there, and the names of the rows that are left make the table whole.
use Rattle.std.proofs.Common.{◌≡◌, drop, map}
use Rattle.std.specs.List.{flat_map}
use Rattle.certificate.specs.declared.named.NamedRow.{NamedRow}
use Rattle.certificate.specs.Numbering.{act_names, acts_table, filled}
use Rattle.cert_merge.specs.Tables.{AreTaken}
use Rattle.cert_merge.specs.Pairs.{row_of}
use Rattle.cert_merge.proofs.acts.acts_table.Given as goal

abbrev pub invariant-loop-origin : goal.invariant-loop-origin
invariant-loop-origin l = record {
  taken : AreTaken l.first.acts l.taken.items l.names.keys;
  taken_too : AreTaken l.second.acts l.taken_too.items l.names.keys;
  filled : filled l.names.keys (flat_map (λ (r : NamedRow). act_names r.act) (map (row_of l.first l.second) (drop l.origin-index l.origins)))
      ≡ acts_table (map (row_of l.first l.second) l.origins);
}
