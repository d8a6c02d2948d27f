use Rattle.std.proofs.Common.{take}
use Rattle.ground_terms.specs.sizes.Flags.{AreFlags}
use Rattle.ground_terms.proofs.sizes.variables.flags_of.Given as goal

abbrev pub invariant-loop-kind : goal.invariant-loop-kind
invariant-loop-kind g l = AreFlags l.table (take l.kind-index l.kinds) l.flags
