use Rattle.std.proofs.Common.{drop}
use Rattle.outcome_dist.specs.conditions.Bindings.{numbering_of}
use Rattle.grounder.proofs.lemmas.starts.Walking.{Walk}
use Rattle.grounder.proofs.starts.items.start_choices.Given as goal

abbrev pub invariant-loop-item : goal.invariant-loop-item
invariant-loop-item l = Walk (numbering_of l.within) l.grown (drop l.item-index l.items) l.items
