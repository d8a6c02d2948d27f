use Rattle.std.proofs.Common.{Err, Ok, sym, ap, subst, ◌∙◌}
use Rattle.ppddl_model.specs.declared.tree.Action.{Action}
use Rattle.ppddl_model.specs.declared.tree.Task.{Task}
use Rattle.ppddl_model.specs.Steps.{instance_name}
use Rattle.ground_model.specs.declared.action.GroundAction.{GroundAction}
use Rattle.grounder.specs.instance_names.Names.{instance_of_row}
use Rattle.grounder.specs.actions.Forming.{IsFine, refusal_of}
use Rattle.grounder.specs.actions.Growing.{action_or_limit, IsAnswerOf}
use Rattle.grounder.proofs.lemmas.actions.Limited.{formed_is, refused_is, formed_as}
use Rattle.grounder.proofs.actions.instances.ground_action.Goals as goal

pub returns-in_ok-name-in-Ok-clause-answer : goal.returns-in_ok-name-in-Ok-clause-answer
returns-in_ok-name-in-Ok-clause-answer c =
    let task : Task = c.args.names.now.task in
    ap (λ (a : Action). action_or_limit task c.args.base (instance_of_row task a c.args.row.now)) c.requires.action
    ∙ formed_is task c.args.action.now c.args.row.now c.args.base c.in-Ok.formed c.in_ok-name-in-Ok.name
    (formed_as task c.args.within.now c.args.action.now c.as_slice-params.result.now c.args.row.now c.args.base (Ok c.in-Ok.formed)
    c.requires.named c.as_slice-params.ensures c.in-Ok.ensures)
    (c.in_ok-name-in-Ok.ensures.text ∙ ap (λ (a : Action). instance_name (instance_of_row task a c.args.row.now)) c.requires.action)

pub returns-in-Err-clause-answer : goal.returns-in-Err-clause-answer
returns-in-Err-clause-answer c =
    let task : Task = c.args.names.now.task in
    subst
    (λ e. IsAnswerOf {X = GroundAction} (Err e) (action_or_limit task c.args.base (instance_of_row task c.args.names.now.action c.args.row.now)))
    (sym c.refusal_of.ensures)
    (subst
    (λ (a : Action). IsAnswerOf {X = GroundAction} (Err (refusal_of c.in-Err.refusal)) (action_or_limit task c.args.base (instance_of_row task a c.args.row.now)))
    (sym c.requires.action)
    (refused_is task c.args.action.now c.args.row.now c.args.base c.in-Err.refusal (subst (IsFine task) c.requires.action c.requires.fine)
    (formed_as task c.args.within.now c.args.action.now c.as_slice-params.result.now c.args.row.now c.args.base (Err c.in-Err.refusal)
    c.requires.named c.as_slice-params.ensures c.in-Err.ensures)))
