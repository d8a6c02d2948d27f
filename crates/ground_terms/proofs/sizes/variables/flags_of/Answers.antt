use Rattle.ground_terms.proofs.lemmas.sizes.Flagging.{none_flagged, flagged_more}
use Rattle.ground_terms.proofs.sizes.variables.flags_of.Goals as goal

pub loop-kind-init : goal.loop-kind-init
loop-kind-init g c = none_flagged c.args.table.now g.row.N

pub loop-kind-preserved : goal.loop-kind-preserved
loop-kind-preserved g c =
    let l = c.loop-kind in
    flagged_more c.args.table.now c.requires c.args.kinds.now l.kind-index c.kind-item.result c.as_slice.result.now c.objects_of_kind.result.now l.flags c.mark.new.flags
    c.loop-kind-test.true c.kind-item.is c.as_slice.ensures c.objects_of_kind.ensures.objects c.objects_of_kind.ensures.within l.invariant c.mark.ensures
