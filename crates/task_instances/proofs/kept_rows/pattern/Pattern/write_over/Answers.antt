use Rattle.std.proofs.Common.{◌<◌, ◌+◌, length, arith}
use Rattle.std.proofs.lemmas.List.{length-set, take_more_set}
use Rattle.task_instances.specs.declared.kept_rows.pattern.Slot.TheVariants.{Number}
use Rattle.task_instances.proofs.lemmas.kept_rows.Placing.{number_more}
use Rattle.task_instances.proofs.kept_rows.pattern.Pattern.write_over.Goals as goal

pub loop-place-init : goal.loop-place-init
loop-place-init c = take_more_set c.args.into.now 0 c.args.self.now.predicate (omega (arith, c.requires.long))

pub loop-place-preserved : goal.loop-place-preserved
loop-place-preserved c =
    let items = c.as_slice-slot-items.result.now in
    let i = c.loop-place.place in
    let within : i + 1 < length c.loop-place.into
    = omega (arith, c.loop-place.auto.into, length-set c.args.into.now 0 c.args.self.now.predicate, c.requires.long, c.loop-place-test.true) in
    number_more c.args.row.now items c.loop-place.into i c.args.self.now.predicate (Number 0) c.number_in.result c.loop-place-test.true within
    c.number_in.ensures c.loop-place.invariant
