use Rattle.std.proofs.Common.{◌≡◌, length, arith}
use Rattle.task_instances.specs.kept_rows.Kept.{AreKept}
use Rattle.grounder.proofs.lemmas.changing_atoms.Gathering.{zip_long}
use Rattle.grounder.proofs.changing_atoms.counting.are_too_many.Goals as goal

pub bounds-kept-place : goal.bounds-kept-place
bounds-kept-place c =
    let long : length c.args.actions.now ≡ length c.args.kept.now = zip_long (AreKept c.args.facts.now) c.args.actions.now c.args.kept.now c.requires in
    omega (arith, long, c.loop-place-test.true)
