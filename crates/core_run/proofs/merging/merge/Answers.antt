-- Each turn takes an entry of one list, or one of both.
use Rattle.std.proofs.Common.{arith}
use Rattle.core_run.proofs.Entries.{merged_none, step_left, step_right, step_both, rest_of_both}
use Rattle.core_run.proofs.merging.merge.Goals as goal

pub loop-i-init : goal.loop-i-init
loop-i-init c = record { first = omega arith; second = omega arith; merged = rw c.new-merged.ensures.items merged_none }

pub loop-i-preserved-then-x-y : goal.loop-i-preserved-then-x-y
loop-i-preserved-then-x-y c = record {
  first = omega arith;
  second = omega arith;
  merged = rw c.in_ok-push.ensures.items
      (step_left _ _ _ c.loop-i.i c.loop-i.j c.index-first-i.result (omega arith) c.index-first-i.is c.loop-i.invariant.merged);
}

pub loop-i-preserved-then-y-x : goal.loop-i-preserved-then-y-x
loop-i-preserved-then-y-x c = record {
  first = omega arith;
  second = omega arith;
  merged = rw c.in_ok-push-2.ensures.items
      (step_right _ _ _ c.loop-i.i c.loop-i.j c.index-second-j.result (omega arith) c.index-second-j.is c.loop-i.invariant.merged);
}

pub loop-i-preserved : goal.loop-i-preserved
loop-i-preserved c = record {
  first = omega arith;
  second = omega arith;
  merged = rw (c.in_ok-push-3.ensures.items, c.narrower.ensures)
      (step_both _ _ _ c.loop-i.i c.loop-i.j c.index-first-i.result c.index-second-j.result (omega arith) (omega arith)
      c.index-first-i.is c.index-second-j.is (omega arith) c.loop-i.invariant.merged);
}

pub returns : goal.returns
returns c = rw (c.from_vec.ensures, c.in_ok-extend_from_slice-2.ensures.items, c.in_ok-extend_from_slice.ensures.items)
    (rest_of_both c.args.first.now c.args.second.now c.loop-i.merged.items c.loop-i.i c.loop-i.j c.loop-i.invariant.merged)
