-- The atoms from the next one on.
use Rattle.std.proofs.Common.{sym, ap, ◌∙◌}
use Rattle.ground_step.specs.Edits.{with_atoms}
use Rattle.plan_report.proofs.certificates.atoms.mark.Goals as goal

pub loop-atom-preserved : goal.loop-atom-preserved
loop-atom-preserved c = record {
  callable = tt;
  finite = tt;
  marked = ap (λ s. with_atoms s c.next.new.self) c.make_true.ensures
      ∙ ap (with_atoms c.loop-atom.marks) (sym c.in-Some.ensures.steps)
      ∙ c.loop-atom.invariant.marked;
}
