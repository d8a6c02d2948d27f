use Rattle.std.proofs.Common.{ap, ◌∙◌}
use Rattle.ppddl_model.specs.Changing.{known_of}
use Rattle.ground_terms.specs.terms.Scopes.{binding_of}
use Rattle.task_instances.specs.known_conditions.Known.{known_in}
use Rattle.task_instances.proofs.lemmas.known_conditions.KnowSteps.{if_ok}
use Rattle.task_instances.specs.facts.Facts.{table_of}
use Rattle.task_instances.proofs.lemmas.facts.Known.{known_by_table}
use Rattle.task_instances.proofs.facts.task_facts.TaskFacts.known.Goals as goal

pub returns : goal.returns
returns c =
    let kept = c.self.inside in
    let is = c.self.invariant in
    let b = binding_of c.args.scope.now in
    if_ok c.known.result _ _ c.known.ensures
    (ap (λ w. known_in w kept.facts.changing kept.facts.init.now c.args.condition.now b) is.table
    ∙ ap (λ items. known_in (table_of kept.task.now) kept.facts.changing items c.args.condition.now b) is.init
    ∙ known_by_table kept.task.now kept.facts.changing is.changing c.args.condition.now b
    ∙ ap (λ task. known_of task c.args.condition.now b) c.self.view_is)
