use Rattle.std.proofs.Common.{[], sym, ap, subst, ◌∙◌}
use Rattle.std.specs.Prelude.{OnOk}
use Rattle.std.specs.List.{list_all}
use Rattle.ppddl_model.specs.Objects.{bindings}
use Rattle.ppddl_model.specs.Steps.{world}
use Rattle.task_instances.specs.kept_rows.Kept.{IsAdded}
use Rattle.task_instances.specs.kept_rows.Terms.{is_valued_under}
use Rattle.task_instances.specs.kept_rows.Patterns.{terms_in}
use Rattle.task_instances.proofs.lemmas.kept_rows.BindSteps.{nothing_added}
use Rattle.task_instances.proofs.lemmas.kept_rows.Valuing.{first_passed, first_failed, none_valued}
use Rattle.task_instances.proofs.kept_rows.binding.bind_terms.Goals as goal

pub returns-then-not-valued : goal.returns-then-not-valued
returns-then-not-valued c =
    let task = c.args.facts.now in
    let action = c.args.action.now in
    let bs = bindings (world task) action.params [] in
    nothing_added task action bs c.args.rows.now
    (none_valued task action bs
    (first_failed (world task) action.effect c.args.terms.now c.requires.terms (sym c.in_ok-valued.ensures ∙ c.if-not-valued.true)))

pub bind-bound-requires-clause-terms : goal.bind-bound-requires-clause-terms
bind-bound-requires-clause-terms c = λ b.
    let w = world c.args.facts.now in
    ap (λ l. list_all (is_valued_under w b) (terms_in l)) c.as_slice-2.ensures.value
    ∙ ap (list_all (is_valued_under w b)) c.in_ok-tests.ensures.terms
    ∙ first_passed w c.args.action.now.effect c.args.terms.now c.requires.terms (sym c.in_ok-valued.ensures ∙ c.if-not-valued.false) b

pub returns : goal.returns
returns c =
    let task = c.args.facts.now in
    let action = c.args.action.now in
    subst (λ l. OnOk c.bind-bound.result (IsAdded task action (bindings (world task) l []) c.args.rows.now c.bind-bound.new.rows))
    c.requires.params c.bind-bound.ensures.rows
