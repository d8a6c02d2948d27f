-- One atom more.
use Rattle.std.proofs.Common.{length, ap, ◌∙◌, arith}
use Rattle.std.proofs.lemmas.List.{take_all}
use Rattle.ground_step.specs.Edits.{with_atom}
use Rattle.certificate_check.specs.Claims.{are_known}
use Rattle.certificate_check.specs.Packing.{state_by}
use Rattle.certificate_check.proofs.Stating.{state_passed, state_put, known_passed, known_put}
use Rattle.certificate_check.proofs.packing.push_atoms.Goals.{in-None, in-Some}
use Rattle.certificate_check.proofs.packing.push_atoms.Goals as goal

pub loop-place-preserved : goal.loop-place-preserved
loop-place-preserved c =
    let numbers = c.args.numbers.now in
    let atoms = c.args.atoms.now in
    let i = c.loop-place.place in
    let n = length c.args.state.now in
    elim c.match-numbers-atoms.branch [
      | in-None w ↦ record {
        state = w.state-is ∙ c.loop-place.invariant.state ∙ state_passed numbers atoms i c.loop-place-test.true w.in-None.is n;
        known = w.is_known-is ∙ known_passed numbers atoms i c.loop-place-test.true w.in-None.is;
      }
      | in-Some w ↦ record {
        state = w.state-is ∙ w.make_true.ensures ∙ ap (λ s. with_atom s w.in-Some.number) c.loop-place.invariant.state
            ∙ state_put numbers atoms i c.loop-place-test.true w.in-Some.number w.in-Some.is n;
        known = w.is_known-is ∙ c.loop-place.invariant.known
            ∙ known_put numbers atoms i c.loop-place-test.true w.in-Some.number w.in-Some.is;
      }
    ]

pub returns-clause-state : goal.returns-clause-state
returns-clause-state c =
    c.loop-place.invariant.state
    ∙ ap (λ xs. state_by c.args.numbers.now xs (length c.args.state.now))
    (take_all c.loop-place.place c.args.atoms.now (omega (arith, c.loop-place-test.false)))

pub returns-clause-known : goal.returns-clause-known
returns-clause-known c =
    c.loop-place.invariant.known
    ∙ ap (are_known c.args.numbers.now) (take_all c.loop-place.place c.args.atoms.now (omega (arith, c.loop-place-test.false)))
