-- One atom more.
use Rattle.std.proofs.Common.{◌≡◌, ℕ, ◌&&◌, false, length, sym, ap, ◌∙◌, arith}
use Rattle.std.specs.Prelude.{nat_lt}
use Rattle.ground_model.specs.Packed.{has_bit, packed, same_state}
use Rattle.ground_model.proofs.Packed.{length-packed}
use Rattle.bound_core.specs.Core.{width}
use Rattle.core_run.proofs.Insides.{no_bits, bits_skip, bits_add}
use Rattle.core_run.proofs.publishing.is_inside.Goals.{then-has_bit, else-has_bit}
use Rattle.core_run.proofs.publishing.is_inside.Goals as goal

pub loop-atom-init : goal.loop-atom-init
loop-atom-init c = c.make_all_false.ensures ∙ ap (packed (λ _. false)) c.requires.fits ∙ no_bits (has_bit c.args.state.now) (width c.args.problem.now)

pub loop-atom-preserved : goal.loop-atom-preserved
loop-atom-preserved c = elim c.if-has_bit.branch [
  | then-has_bit w ↦ w.next-is ∙ bits_add (has_bit c.args.state.now) (width c.args.problem.now) c.loop-atom.atom c.loop-atom.next _
      (sym c.has_bit.ensures ∙ w.if-has_bit.true) c.loop-atom.invariant w.make_true.ensures
  | else-has_bit w ↦ w.next-is ∙ bits_skip (has_bit c.args.state.now) (width c.args.problem.now) c.loop-atom.atom c.loop-atom.next
      (sym c.has_bit.ensures ∙ w.if-has_bit.false) c.loop-atom.invariant
]

pub returns-clause-value : goal.returns-clause-value
returns-clause-value c =
    let all : c.loop-atom.atom ≡ length c.args.problem.now.atoms = omega (arith, c.loop-atom-test.false, c.loop-atom.auto.atom-end, ap length c.atoms-atom-end.ensures.value) in
    c.eq.ensures ∙ ap (same_state c.args.state.now) (c.loop-atom.invariant
    ∙ ap (λ (n : ℕ). packed (λ q. nat_lt q n && has_bit c.args.state.now q) (width c.args.problem.now)) all)

pub returns-clause-fits : goal.returns-clause-fits
returns-clause-fits c =
    ap length c.loop-atom.invariant ∙ length-packed (λ q. nat_lt q c.loop-atom.atom && has_bit c.args.state.now q) (width c.args.problem.now)
