use Rattle.std.proofs.Common.{◌||◌, sym, ap, ◌∙◌}
use Rattle.std.specs.List.{list_any}
use Rattle.ppddl_model.specs.declared.tree.Branch.{Branch}
use Rattle.task_instances.specs.variables.Named.{effect_names}
use Rattle.task_instances.proofs.lemmas.variables.Forms.{effect-Both, effect-Chance, effect-Forall, effect-When}
use Rattle.task_instances.proofs.variables.effects.+effect_names.Goals as goal

pub loop-part-init : goal.loop-part-init
loop-part-init t c =
    let v = c.args.variable.now in
    ap (list_any (effect_names v)) c.as_slice-part-items.ensures ∙ effect-Both v c.in-Both.parts ∙ ap (effect_names v) (sym c.in-Both.is)

pub loop-branch-init : goal.loop-branch-init
loop-branch-init t c =
    let v = c.args.variable.now in
    ap (list_any (λ (x : Branch). effect_names v x.effect)) c.as_slice-branch-items.ensures
    ∙ effect-Chance v c.in-Chance.branches ∙ ap (effect_names v) (sym c.in-Chance.is)

pub returns-in-Forall : goal.returns-in-Forall
returns-in-Forall t c =
    let v = c.args.variable.now in
    c.effect_names-in-Forall.ensures ∙ ap (effect_names v) c.get.ensures ∙ effect-Forall v c.in-Forall.field-0 c.in-Forall.inner
    ∙ ap (effect_names v) (sym c.in-Forall.is)

pub returns-then-names_variable : goal.returns-then-names_variable
returns-then-names_variable t c =
    let v = c.args.variable.now in
    let first = sym c.names_variable.ensures ∙ c.if-names_variable.true in
    c.if-names_variable.true
    ∙ sym (ap (λ t. t || effect_names v c.in-When.inner) first)
    ∙ effect-When v c.in-When.condition c.in-When.inner ∙ ap (effect_names v) (sym c.in-When.is)

pub returns-else-names_variable : goal.returns-else-names_variable
returns-else-names_variable t c =
    let v = c.args.variable.now in
    let first = sym c.names_variable.ensures ∙ c.if-names_variable.false in
    c.effect_names-else-names_variable.ensures ∙ ap (effect_names v) c.get-else-names_variable.ensures
    ∙ sym (ap (λ t. t || effect_names v c.in-When.inner) first)
    ∙ effect-When v c.in-When.condition c.in-When.inner ∙ ap (effect_names v) (sym c.in-When.is)
