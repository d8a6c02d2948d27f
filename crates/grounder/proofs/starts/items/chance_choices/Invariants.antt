use Rattle.std.proofs.Common.{drop}
use Rattle.outcome_dist.specs.conditions.Bindings.{numbering_of}
use Rattle.grounder.specs.starts.Growing.{chance_choice}
use Rattle.grounder.proofs.lemmas.starts.Drawing.{Gathered}
use Rattle.grounder.proofs.starts.items.chance_choices.Given as goal

abbrev pub invariant-loop-branch : goal.invariant-loop-branch
invariant-loop-branch l =
    Gathered (chance_choice (numbering_of l.within) l.den) l.drafts.items l.used (drop l.branch-index l.branches) l.branches
