use Rattle.std.proofs.Common.{◌≡◌, [], ◌∷◌, sym, ◌∙◌}
use Rattle.std.proofs.lemmas.Result.{on_ok_weaker}
use Rattle.ground_terms.specs.terms.Scopes.{binding_of}
use Rattle.task_instances.specs.kept_rows.Rows.{with_row}
use Rattle.task_instances.specs.kept_rows.Kept.{IsAdded}
use Rattle.task_instances.proofs.lemmas.kept_rows.BindSteps.{row_added, row_left, kept_where}
use Rattle.task_instances.proofs.lemmas.kept_rows.Testing.{terms_stand}
use Rattle.task_instances.proofs.kept_rows.binding.add_row.Goals as goal

pub returns-then-valued : goal.returns-then-valued
returns-then-valued c =
    let b = binding_of c.args.scope.now in
    on_ok_weaker {P = c.push.new.self ≡ with_row c.args.rows.now c.args.row.now}
    {Q = IsAdded c.args.facts.now c.args.action.now (b ∷ []) c.args.rows.now c.push.new.self} c.push.result
    (λ is. row_added c.args.facts.now c.args.action.now b c.args.row.now c.args.rows.now c.push.new.self is
    (sym (kept_where c.args.facts.now c.args.action.now b c.in_ok-valued.valued (c.in_ok-valued.ensures ∙ c.requires.terms b) c.requires.open) ∙ c.if-valued.true)
    (record { long = c.requires.long; within = c.requires.within }) c.requires.bound) c.push.ensures

pub returns : goal.returns
returns c =
    let b = binding_of c.args.scope.now in
    row_left c.args.facts.now c.args.action.now b c.args.rows.now
    (sym (kept_where c.args.facts.now c.args.action.now b c.in_ok-valued.valued (c.in_ok-valued.ensures ∙ c.requires.terms b) c.requires.open) ∙ c.if-valued.false)

pub are_passed-requires : goal.are_passed-requires
are_passed-requires c =
    terms_stand c.args.facts.now c.args.action.now.params c.args.row.now (binding_of c.args.scope.now) c.args.terms.now c.requires.valued
    c.requires.long c.requires.within c.requires.bound
