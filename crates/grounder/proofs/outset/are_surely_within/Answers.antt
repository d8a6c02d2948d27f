use Rattle.std.proofs.Common.{◌≡◌, length, get_or, arith, subst, sym, ap, ◌∙◌}
use Rattle.std.specs.Prelude.{flat_map, All, IfSome}
use Rattle.std.proofs.lemmas.Bool.{leb-true}
use Rattle.std.specs.List.{AllZip}
use Rattle.std.proofs.lemmas.List.Elements.{All-get_or}
use Rattle.ppddl_model.specs.Chances.{SumWithinOne}
use Rattle.ppddl_model.specs.Draws.{EachDraw}
use Rattle.ppddl_model.proofs.WellFormed.{well_formed_sums}
use Rattle.ppddl_model.specs.declared.tree.Action.{Action}
use Rattle.ppddl_model.specs.declared.tree.Task.{Task}
use Rattle.ppddl_model.specs.Changing.{kept_instances}
use Rattle.ground_meaning.specs.refusals.Limits.{instances_within}
use Rattle.task_instances.specs.kept_rows.Kept.{AreKept}
use Rattle.grounder.specs.outset.Draws.{greatest_value}
use Rattle.ground_meaning.specs.choices.Limits.{condition_size}
use Rattle.ground_terms.specs.sizes.Counted.{counted}
use Rattle.task_instances.specs.facts.Facts.{table_of}
use Rattle.grounder.specs.outset.Walked.{instances_of}
use Rattle.grounder.specs.outset.Bounded.{Leads}
use Rattle.grounder.proofs.lemmas.changing_atoms.Gathering.{zip_at, zip_long, kept_by_action}
use Rattle.grounder.proofs.lemmas.outset.Bounding.{next_bounded, surely}
use Rattle.grounder.proofs.outset.are_surely_within.Goals as goal

pub loop-place-init : goal.loop-place-init
loop-place-init c = λ charges same. (
  c.args.tested,
  omega arith,
  sym (ap (instances_within c.args.facts.now charges 0 c.args.tested)
      (ap (flat_map (instances_of c.args.facts.now)) (c.as_slice-actions.ensures ∙ ap (λ (t : Task). t.domain.actions) c.task-task.ensures)
      ∙ sym (kept_by_action c.args.facts.now))),
)

pub bounds-kept-place : goal.bounds-kept-place
bounds-kept-place c =
    let task : Task = c.args.facts.now in
    let are = c.as_slice-actions.ensures ∙ ap (λ (t : Task). t.domain.actions) c.task-task.ensures in
    let long : length task.domain.actions ≡ length c.args.kept.now = zip_long (AreKept task) task.domain.actions c.args.kept.now c.requires.kept in
    let same = ap length are in
    omega (arith, long, same, c.loop-place-test.true)

pub bound_action-requires : goal.bound_action-requires
bound_action-requires c =
    let task : Task = c.args.facts.now in
    let actions = c.as_slice-actions.result.now in
    let a : Action = c.index-actions-place.result in
    let are = c.as_slice-actions.ensures ∙ ap (λ (t : Task). t.domain.actions) c.task-task.ensures in
    let zipped = zip_at (AreKept task) actions c.args.kept.now c.loop-place.place a c.index-kept-place.result
    (subst (λ l. AllZip (AreKept task) l c.args.kept.now) (sym are) c.requires.kept) c.loop-place-test.true in
    let sums = subst (All (λ (x : Action). EachDraw SumWithinOne x.effect)) (sym are) (well_formed_sums task c.requires.well_formed).actions in
    record {
      dearest = c.greatest_value-dearest.ensures ∙ ap greatest_value (c.as_slice.ensures ∙ ap (λ (t : Task). t.problem.values) c.task-task.ensures);
      fair =
          subst (λ (x : Action). EachDraw SumWithinOne x.effect) (sym c.index-actions-place.is)
          (All-get_or (λ (x : Action). EachDraw SumWithinOne x.effect) actions c.loop-place.place a c.loop-place-test.true sums);
      kept =
          subst (λ x. AreKept task x c.index-kept-place.result) (sym c.index-actions-place.is)
          (subst (AreKept task (get_or actions c.loop-place.place a)) (sym c.index-kept-place.is) zipped);
    }

pub loop-place-preserved : goal.loop-place-preserved
loop-place-preserved c = λ charges same.
    let task : Task = c.args.facts.now in
    next_bounded task charges (instances_within task charges 0 c.args.tested (kept_instances task)) c.args.base same c.as_slice-actions.result.now
    c.loop-place.place c.index-actions-place.result c.loop-place.bounded c.in-Some.next c.loop-place-test.true c.index-actions-place.is
    (subst (λ o. IfSome o (Leads task c.args.base c.index-actions-place.result c.loop-place.bounded)) c.in-Some.is c.bound_action.ensures)
    (c.loop-place.invariant charges same)

pub returns : goal.returns
returns c = λ yes charges same.
    let task : Task = c.args.facts.now in
    let counts : c.condition_size-goal.result ≡ counted (condition_size (table_of task) task.problem.goal)
    = c.condition_size-goal.ensures ∙ ap (λ w. counted (condition_size w c.task-task.result.now.problem.goal)) c.table.ensures.table
    ∙ ap (λ (t : Task). counted (condition_size (table_of task) t.problem.goal)) c.task-task.ensures in
    surely task charges c.args.tested c.loop-place.bounded c.condition_size-goal.result c.saturating_add.result c.as_slice-actions.result.now
    c.loop-place.place (omega (arith, c.loop-place-test.false)) (c.loop-place.invariant charges same) counts c.saturating_add.ensures (leb-true _ _ yes)
