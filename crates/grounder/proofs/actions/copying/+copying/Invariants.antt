use Rattle.std.proofs.Common.{◌≡◌, take}
use Rattle.grounder.proofs.actions.copying.+copying.Given as goal

abbrev pub invariant-copied_conditions-loop-condition : goal.invariant-copied_conditions-loop-condition
invariant-copied_conditions-loop-condition l = l.copies.items ≡ take l.condition-index l.conditions
