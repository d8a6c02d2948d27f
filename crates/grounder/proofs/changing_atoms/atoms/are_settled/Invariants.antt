use Rattle.std.proofs.Common.{◌≡◌, drop}
use Rattle.std.specs.List.{list_all}
use Rattle.task_instances.specs.quantified_atoms.Quantified.{is_settled}
use Rattle.grounder.proofs.changing_atoms.atoms.are_settled.Given as goal

abbrev pub invariant-loop-quantified : goal.invariant-loop-quantified
invariant-loop-quantified l = list_all is_settled (drop l.quantified-index l.atoms) ≡ list_all is_settled l.atoms
