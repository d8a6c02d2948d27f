use Rattle.std.proofs.Common.{◌≡◌, ◌++◌}
use Rattle.cert_merge.proofs.tables.entries_of.Given as goal

abbrev pub invariant-loop-name : goal.invariant-loop-name
invariant-loop-name l = l.entries.items ++ l.name-iterator ≡ l.fn.names.keys
