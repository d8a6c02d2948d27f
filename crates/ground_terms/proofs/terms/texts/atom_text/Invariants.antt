use Rattle.std.proofs.Common.{◌≡◌, ◌++◌, drop, map}
use Rattle.std.specs.Prelude.{flat_map, codes}
use Rattle.plain_list.specs.Texts.{list_text}
use Rattle.ppddl_model.specs.Objects.{named, ground_atom}
use Rattle.ground_terms.specs.terms.Scopes.{binding_of}
use Rattle.ground_terms.proofs.lemmas.terms.Spelling.{spaced}
use Rattle.ground_terms.proofs.terms.texts.atom_text.Given as goal

abbrev pub invariant-loop-term : goal.invariant-loop-term
invariant-loop-term l =
    l.text.items ++ (flat_map spaced (map (named (binding_of l.scope)) (drop l.term-index l.term-items)) ++ codes ")")
    ≡ list_text (ground_atom (binding_of l.scope) l.atom)
