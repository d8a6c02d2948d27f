use Rattle.std.proofs.Common.{◌≡◌, ◌++◌, drop}
use Rattle.ground_terms.specs.terms.Keys.{name_key}
use Rattle.ground_terms.proofs.terms.keys.push_name.Given as goal

abbrev pub invariant-loop-byte : goal.invariant-loop-byte
invariant-loop-byte l = l.key.items ++ name_key (drop l.byte-index l.name) ≡ l.initial.key.items ++ name_key l.name
