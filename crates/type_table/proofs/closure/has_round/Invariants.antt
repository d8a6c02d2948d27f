use Rattle.std.proofs.Common.{◌≡◌, take, false}
use Rattle.std.specs.List.{list_any}
use Rattle.type_table.specs.Rows.{is_round}
use Rattle.type_table.proofs.closure.has_round.Given as goal

abbrev pub invariant-loop-link : goal.invariant-loop-link
invariant-loop-link l = list_any (is_round l.rows) (take l.link-index l.links) ≡ false
