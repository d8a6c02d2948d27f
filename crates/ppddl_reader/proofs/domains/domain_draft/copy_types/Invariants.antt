use Rattle.std.proofs.Common.{◌≡◌, take}
use Rattle.ppddl_reader.proofs.domains.domain_draft.copy_types.Given as goal

abbrev pub invariant-loop-type_decl : goal.invariant-loop-type_decl
invariant-loop-type_decl l = l.copies.items ≡ take l.type_decl-index l.types
