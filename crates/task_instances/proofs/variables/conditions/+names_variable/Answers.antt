use Rattle.std.proofs.Common.{◌||◌, sym, ap, ◌∙◌}
use Rattle.task_instances.specs.kept_rows.Stages.{names_variable}
use Rattle.task_instances.proofs.lemmas.kept_rows.Conjoined.{names-All, names-Not, names-Imply, names-Quantified}
use Rattle.task_instances.proofs.variables.conditions.+names_variable.Goals as goal

pub loop-part-init : goal.loop-part-init
loop-part-init t c =
    names-All c.args.variable.now c.args.condition.now c.in-All.parts c.as_slice-part-items.result.now c.in-All.is c.as_slice-part-items.ensures

pub returns-in-Not : goal.returns-in-Not
returns-in-Not t c =
    let v = c.args.variable.now in
    c.names_variable.ensures ∙ ap (names_variable v) c.get.ensures ∙ names-Not v c.in-Not.inner ∙ ap (names_variable v) (sym c.in-Not.is)

pub returns-then-names_variable : goal.returns-then-names_variable
returns-then-names_variable t c =
    let v = c.args.variable.now in
    let first = ap (names_variable v) (sym c.get-in-Imply.ensures) ∙ sym c.names_variable-in-Imply.ensures ∙ c.if-names_variable.true in
    c.if-names_variable.true
    ∙ sym (ap (λ t. t || names_variable v c.in-Imply.second) first)
    ∙ names-Imply v c.in-Imply.first c.in-Imply.second ∙ ap (names_variable v) (sym c.in-Imply.is)

pub returns-else-names_variable : goal.returns-else-names_variable
returns-else-names_variable t c =
    let v = c.args.variable.now in
    let first = ap (names_variable v) (sym c.get-in-Imply.ensures) ∙ sym c.names_variable-in-Imply.ensures ∙ c.if-names_variable.false in
    c.names_variable-else-names_variable.ensures ∙ ap (names_variable v) c.get-else-names_variable.ensures
    ∙ sym (ap (λ t. t || names_variable v c.in-Imply.second) first)
    ∙ names-Imply v c.in-Imply.first c.in-Imply.second ∙ ap (names_variable v) (sym c.in-Imply.is)

pub returns-in-Exists : goal.returns-in-Exists
returns-in-Exists t c =
    let v = c.args.variable.now in
    c.names_variable-in-Exists.ensures ∙ ap (names_variable v) c.get-in-Exists.ensures
    ∙ names-Quantified v c.args.condition.now c.in-Exists.inner c.in-Exists.is
