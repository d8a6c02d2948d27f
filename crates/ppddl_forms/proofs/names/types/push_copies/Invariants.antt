use Rattle.std.proofs.Common.{◌≡◌, ◌++◌, take}
use Rattle.ppddl_forms.proofs.names.types.push_copies.Given as goal

abbrev pub invariant-loop-type_decl : goal.invariant-loop-type_decl
invariant-loop-type_decl l = l.declared.items ≡ l.initial.declared.items ++ take l.type_decl-index l.more
