use Rattle.std.proofs.Common.{subst}
use Rattle.grounder.specs.texts.Texts.{atom_texts, init_branch_texts}
use Rattle.grounder.specs.texts.Wanted.{IsPut}
use Rattle.grounder.proofs.lemmas.texts.Wanting.{item_more, item_over}
use Rattle.grounder.proofs.texts.add_branches.Goals as goal

pub loop-branch-preserved : goal.loop-branch-preserved
loop-branch-preserved c =
    item_more init_branch_texts c.args.branches.now c.loop-branch.branch-index c.branch-item.result c.branch-item.result c.loop-branch.texts
    c.add_atoms.new.texts _ c.in_ok-add_atoms.field-0 c.loop-branch-test.true c.branch-item.is
    (subst (λ l. IsPut c.loop-branch.texts (atom_texts l) c.in_ok-add_atoms.field-0 c.add_atoms.new.texts) c.as_slice.ensures c.in_ok-add_atoms.ensures)
    c.loop-branch.invariant c.if-not-branch.false

pub returns-then-not-branch : goal.returns-then-not-branch
returns-then-not-branch c =
    item_over init_branch_texts c.args.branches.now c.loop-branch.branch-index c.branch-item.result c.branch-item.result c.loop-branch.texts
    c.add_atoms.new.texts _ c.in_ok-add_atoms.field-0 c.loop-branch-test.true c.branch-item.is
    (subst (λ l. IsPut c.loop-branch.texts (atom_texts l) c.in_ok-add_atoms.field-0 c.add_atoms.new.texts) c.as_slice.ensures c.in_ok-add_atoms.ensures)
    c.loop-branch.invariant c.if-not-branch.true
