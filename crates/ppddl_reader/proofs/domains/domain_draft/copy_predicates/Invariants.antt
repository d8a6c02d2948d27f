use Rattle.std.proofs.Common.{◌≡◌, take}
use Rattle.ppddl_reader.proofs.domains.domain_draft.copy_predicates.Given as goal

abbrev pub invariant-loop-predicate : goal.invariant-loop-predicate
invariant-loop-predicate l = l.copies.items ≡ take l.predicate-index l.predicates
