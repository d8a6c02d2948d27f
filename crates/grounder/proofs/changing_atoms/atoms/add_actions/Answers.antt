use Rattle.std.proofs.Common.{◌≡◌, length, get_or, arith, subst, sym}
use Rattle.task_instances.specs.kept_rows.Kept.{AreKept}
use Rattle.grounder.specs.changing_atoms.Atoms.{action_texts}
use Rattle.grounder.proofs.lemmas.texts.Wanting.{item_more, item_over}
use Rattle.grounder.proofs.lemmas.changing_atoms.Gathering.{zip_at, zip_long}
use Rattle.grounder.proofs.changing_atoms.atoms.add_actions.Goals as goal

pub bounds-kept-place : goal.bounds-kept-place
bounds-kept-place c =
    let long : length c.args.actions.now ≡ length c.args.kept.now = zip_long (AreKept c.args.facts.now) c.args.actions.now c.args.kept.now c.requires in
    omega (arith, long, c.loop-place-test.true)

pub add_action-requires : goal.add_action-requires
add_action-requires c =
    let zipped = zip_at (AreKept c.args.facts.now) c.args.actions.now c.args.kept.now c.loop-place.place c.index-actions-place.result
    c.index-kept-place.result c.requires c.loop-place-test.true in
    subst (λ a. AreKept c.args.facts.now a c.index-kept-place.result) (sym c.index-actions-place.is)
    (subst (AreKept c.args.facts.now (get_or c.args.actions.now c.loop-place.place c.index-actions-place.result)) (sym c.index-kept-place.is) zipped)

pub loop-place-preserved : goal.loop-place-preserved
loop-place-preserved c =
    item_more (action_texts c.args.facts.now) c.args.actions.now c.loop-place.place c.index-actions-place.result c.index-actions-place.result
    c.loop-place.texts c.add_action.new.texts _ c.in_ok-add_action.field-0 c.loop-place-test.true c.index-actions-place.is c.in_ok-add_action.ensures
    c.loop-place.invariant c.if-not-branch.false

pub returns-then-not-branch : goal.returns-then-not-branch
returns-then-not-branch c =
    item_over (action_texts c.args.facts.now) c.args.actions.now c.loop-place.place c.index-actions-place.result c.index-actions-place.result
    c.loop-place.texts c.add_action.new.texts _ c.in_ok-add_action.field-0 c.loop-place-test.true c.index-actions-place.is c.in_ok-add_action.ensures
    c.loop-place.invariant c.if-not-branch.true
