use Rattle.std.proofs.Common.{sym, ap, ◌∙◌, drop}
use Rattle.ground_step.specs.Marks.{with_marked}
use Rattle.ground_step.proofs.Marks.{no_mark}
use Rattle.ground_step.proofs.guarded.add_marked.Goals as goal

pub returns-then-left-eq0 : goal.returns-then-left-eq0
returns-then-left-eq0 c =
    sym (no_mark c.loop-part.state (drop c.loop-part.part-index c.args.parts.now))
    ∙ ap (λ m. with_marked m c.loop-part.state (drop c.loop-part.part-index c.args.parts.now)) (sym c.if-left-eq0.true)
    ∙ c.loop-part.invariant
