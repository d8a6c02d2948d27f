use Rattle.std.proofs.Common.{◌≡◌, drop}
use Rattle.ground_step.specs.Marks.{with_marked}
use Rattle.ground_step.proofs.guarded.add_marked.Given as goal

abbrev pub invariant-loop-part : goal.invariant-loop-part
invariant-loop-part l =
    with_marked l.left l.state (drop l.part-index l.parts) ≡ with_marked l.marks l.initial.state l.parts
