use Rattle.std.proofs.Common.{ap, ◌∙◌}
use Rattle.ppddl_model.specs.Changing.{predicates_of}
use Rattle.task_instances.specs.fact_rows.Adding.{with_names}
use Rattle.task_instances.proofs.lemmas.fact_rows.Adding.{names_more}
use Rattle.task_instances.proofs.lemmas.facts.Naming.{branch_effect_predicates, begun-Both, begun-Chance, names-Forall, names-When}
use Rattle.task_instances.proofs.facts.predicates.+add_predicates.Goals as goal

pub loop-part-init : goal.loop-part-init
loop-part-init t c =
    begun-Both c.args.names.now c.args.effect.now c.in-Both.parts c.as_slice-part-items.result.now c.in-Both.is c.as_slice-part-items.ensures

pub loop-part-preserved : goal.loop-part-preserved
loop-part-preserved t c =
    names_more predicates_of c.as_slice-part-items.result.now c.loop-part.part-index c.part-item.result c.loop-part.names c.add_predicates.new.names _
    c.loop-part-test.true c.part-item.is c.in_ok-add_predicates-in-Both.ensures c.loop-part.invariant

pub loop-branch-init : goal.loop-branch-init
loop-branch-init t c =
    begun-Chance c.args.names.now c.args.effect.now c.in-Chance.branches c.as_slice-branch-items.result.now c.in-Chance.is c.as_slice-branch-items.ensures

pub loop-branch-preserved : goal.loop-branch-preserved
loop-branch-preserved t c =
    names_more branch_effect_predicates c.as_slice-branch-items.result.now c.loop-branch.branch-index c.branch-item.result c.loop-branch.names
    c.add_predicates-in-loop-branch.new.names _ c.loop-branch-test.true c.branch-item.is c.in_ok-add_predicates-in-Chance.ensures c.loop-branch.invariant

pub returns-in_ok-add_predicates-in-Forall : goal.returns-in_ok-add_predicates-in-Forall
returns-in_ok-add_predicates-in-Forall t c =
    c.in_ok-add_predicates-in-Forall.ensures
    ∙ ap (with_names c.args.names.now) (names-Forall c.args.effect.now c.in-Forall.inner c.get.result.now c.in-Forall.field-0 c.in-Forall.is c.get.ensures)

pub returns-in_ok-add_predicates-in-When : goal.returns-in_ok-add_predicates-in-When
returns-in_ok-add_predicates-in-When t c =
    c.in_ok-add_predicates-in-When.ensures
    ∙ ap (with_names c.args.names.now) (names-When c.args.effect.now c.in-When.inner c.get-in-When.result.now c.in-When.field-0 c.in-When.is c.get-in-When.ensures)
