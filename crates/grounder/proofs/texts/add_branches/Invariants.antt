use Rattle.std.proofs.Common.{◌≡◌, drop}
use Rattle.std.specs.Prelude.{flat_map}
use Rattle.grounder.specs.texts.Texts.{init_branch_texts}
use Rattle.grounder.specs.texts.Wanted.{with_more}
use Rattle.grounder.proofs.texts.add_branches.Given as goal

abbrev pub invariant-loop-branch : goal.invariant-loop-branch
invariant-loop-branch l = with_more l.texts (flat_map init_branch_texts (drop l.branch-index l.branches)) ≡ with_more l.fn.texts (flat_map init_branch_texts l.branches)
