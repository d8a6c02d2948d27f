-- One atom less.
use Rattle.std.proofs.Common.{◌≡◌, ◌+◌, ◌-◌, ◌<◌, length, take, sym, ap, ◌∙◌, arith}
use Rattle.std.proofs.lemmas.List.{take_all}
use Rattle.ground_step.specs.Edits.{without_atom}
use Rattle.certificate_check.specs.Packing.{state_by}
use Rattle.certificate_check.proofs.Popping.{state_popped}
use Rattle.certificate_check.proofs.Stating.{state_passed}
use Rattle.certificate_check.proofs.Verdicts.{none_of}
use Rattle.certificate_check.proofs.packing.pop_atoms.Goals as goal

pub loop-place-init : goal.loop-place-init
loop-place-init c =
    let atoms = c.args.atoms.now in
    record {
      left = c.requires.left;
      within = omega arith;
      state = c.requires.state
          ∙ ap (λ xs. state_by c.args.numbers.now xs (length c.args.state.now)) (sym (take_all (length atoms) atoms (omega arith)));
    }

pub loop-place-preserved-in-Some : goal.loop-place-preserved-in-Some
loop-place-preserved-in-Some c =
    let numbers = c.args.numbers.now in
    let atoms = c.args.atoms.now in
    let n = length c.args.state.now in
    let i = c.loop-place.place - 1 in
    let within : i < length atoms = omega (arith, c.loop-place-test.true, c.loop-place.invariant.within) in
    let next : c.loop-place.place ≡ i + 1 = omega (arith, c.loop-place-test.true) in
    record {
      left = omega (arith, c.loop-place-test.true);
      within = omega (arith, within);
      state = c.make_false.ensures
          ∙ ap (λ s. without_atom s c.in-Some.number)
          (c.loop-place.invariant.state ∙ ap (λ k. state_by numbers (take k atoms) n) next)
          ∙ state_popped numbers c.requires.differ atoms c.requires.rise i within c.in-Some.number c.in-Some.is n;
    }

pub loop-place-preserved : goal.loop-place-preserved
loop-place-preserved c =
    let numbers = c.args.numbers.now in
    let atoms = c.args.atoms.now in
    let n = length c.args.state.now in
    let i = c.loop-place.place - 1 in
    let within : i < length atoms = omega (arith, c.loop-place-test.true, c.loop-place.invariant.within) in
    let next : c.loop-place.place ≡ i + 1 = omega (arith, c.loop-place-test.true) in
    record {
      left = omega (arith, c.loop-place-test.true);
      within = omega (arith, within);
      state = c.loop-place.invariant.state ∙ ap (λ k. state_by numbers (take k atoms) n) next
          ∙ sym (state_passed numbers atoms i within (none_of _ c.in_default.not-Some) n);
    }
