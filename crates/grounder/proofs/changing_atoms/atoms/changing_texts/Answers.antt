use Rattle.std.proofs.Common.{ap, ◌∙◌}
use Rattle.ppddl_model.specs.declared.tree.Task.{Task}
use Rattle.grounder.proofs.lemmas.changing_atoms.Gathering.{over_first, over_last, all_listed}
use Rattle.grounder.proofs.changing_atoms.atoms.changing_texts.Goals as goal

pub returns-then-not-branch : goal.returns-then-not-branch
returns-then-not-branch c =
    over_first c.args.facts.now c.args.most c.as_slice-actions.result.now
    (c.as_slice-actions.ensures ∙ ap (λ (t : Task). t.domain.actions) c.task-task.ensures) c.new-texts.result c.add_actions.new.texts
    c.in_ok-add_actions.field-0 c.new-texts.ensures c.if-not-branch.true c.in_ok-add_actions.ensures

pub returns-then-not-branch-2 : goal.returns-then-not-branch-2
returns-then-not-branch-2 c =
    over_last c.args.facts.now c.args.most c.as_slice-actions.result.now
    (c.as_slice-actions.ensures ∙ ap (λ (t : Task). t.domain.actions) c.task-task.ensures) c.new-texts.result c.add_actions.new.texts
    c.in_ok-add_actions.field-0 c.new-texts.ensures c.as_slice.result.now (c.as_slice.ensures ∙ ap (λ (t : Task). t.problem.init) c.task-task.ensures)
    c.add_chances.new.texts c.in_ok-add_chances.field-0 c.if-not-branch.false c.in_ok-add_actions.ensures c.in_ok-add_chances.ensures
    c.if-not-branch-2.true

pub returns : goal.returns
returns c =
    c.in_ok-texts_of_set.ensures
    ∙ all_listed c.args.facts.now c.args.most c.as_slice-actions.result.now
    (c.as_slice-actions.ensures ∙ ap (λ (t : Task). t.domain.actions) c.task-task.ensures) c.new-texts.result c.add_actions.new.texts
    c.in_ok-add_actions.field-0 c.new-texts.ensures c.as_slice.result.now (c.as_slice.ensures ∙ ap (λ (t : Task). t.problem.init) c.task-task.ensures)
    c.add_chances.new.texts c.in_ok-add_chances.field-0 c.if-not-branch.false c.in_ok-add_actions.ensures c.in_ok-add_chances.ensures
    c.if-not-branch-2.false
