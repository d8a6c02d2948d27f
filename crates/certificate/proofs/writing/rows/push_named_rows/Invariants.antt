use Rattle.std.proofs.Common.{◌≡◌, ◌++◌, take, map}
use Rattle.std.specs.List.{flat_map}
use Rattle.certificate.specs.Content.{ended, named_row}
use Rattle.certificate.specs.Spelling.{named_row_line}
use Rattle.certificate.proofs.writing.rows.push_named_rows.Given as goal

abbrev pub invariant-loop-place : goal.invariant-loop-place
invariant-loop-place l = l.out.items ≡ l.initial.out.items ++ flat_map ended (map named_row_line (map (named_row l.certificate.atoms l.certificate.acts) (take l.place l.certificate.rows)))
