use Rattle.std.proofs.Common.{◌≡◌, ◌++◌, drop}
use Rattle.ground_meaning.specs.choices.Rising.{less}
use Rattle.outcome_dist.proofs.lists.atoms.kept.Given as goal

abbrev pub invariant-loop-atom : goal.invariant-loop-atom
invariant-loop-atom l = l.left.items ++ less (drop l.atom-index l.atoms) l.gone ≡ less l.atoms l.gone
