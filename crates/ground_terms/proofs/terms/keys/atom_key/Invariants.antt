use Rattle.std.proofs.Common.{◌≡◌, ◌++◌, drop, map}
use Rattle.std.specs.Prelude.{flat_map}
use Rattle.ppddl_model.specs.Objects.{named, ground_atom}
use Rattle.ground_terms.specs.terms.Keys.{name_key, key_of}
use Rattle.ground_terms.specs.terms.Scopes.{binding_of}
use Rattle.ground_terms.proofs.terms.keys.atom_key.Given as goal

abbrev pub invariant-loop-term : goal.invariant-loop-term
invariant-loop-term l =
    l.key.items ++ flat_map name_key (map (named (binding_of l.scope)) (drop l.term-index l.term-items)) ≡ key_of (ground_atom (binding_of l.scope) l.atom)
