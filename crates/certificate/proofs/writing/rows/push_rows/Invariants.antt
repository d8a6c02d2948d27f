use Rattle.std.proofs.Common.{◌≡◌, ◌++◌, take, map}
use Rattle.std.specs.List.{flat_map}
use Rattle.certificate.specs.Content.{ended}
use Rattle.certificate.specs.Spelling.{row_line}
use Rattle.certificate.proofs.writing.rows.push_rows.Given as goal

abbrev pub invariant-loop-place : goal.invariant-loop-place
invariant-loop-place l = l.out.items ≡ l.initial.out.items ++ flat_map ended (map row_line (take l.place l.rows))
