use Rattle.std.proofs.Common.{◌≡◌, map, drop}
use Rattle.grounder.specs.texts.Texts.{atom_text}
use Rattle.grounder.specs.texts.Wanted.{with_more}
use Rattle.grounder.proofs.texts.add_atoms.Given as goal

abbrev pub invariant-loop-atom : goal.invariant-loop-atom
invariant-loop-atom l = with_more l.texts (map atom_text (drop l.atom-index l.atoms)) ≡ with_more l.fn.texts (map atom_text l.atoms)
