use Rattle.std.proofs.Common.{◌≡◌, drop}
use Rattle.std.specs.List.{flat_map}
use Rattle.certificate.specs.declared.named.NamedRow.{NamedRow}
use Rattle.certificate.specs.Numbering.{filled, act_names, acts_table}
use Rattle.certificate.proofs.reading.numbering.acts_table.Given as goal

abbrev pub invariant-loop-row : goal.invariant-loop-row
invariant-loop-row l = filled l.names.keys (flat_map (λ (r : NamedRow). act_names r.act) (drop l.row-index l.rows)) ≡ acts_table l.rows
