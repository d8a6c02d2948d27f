-- What is written one after another is the next state.
use Rattle.std.proofs.Common.{◌∙◌, ℕ, Bool}
use Rattle.ground_model.specs.Packed.{has_bit}
use Rattle.ground_step.specs.Edits.{with_atoms, without_atoms, with_parts, without_parts}
use Rattle.ground_step.proofs.Edits.{changed_is_next}
use Rattle.ground_step.proofs.steps.apply_acting.Goals as goal

pub returns-clause-next : goal.returns-clause-next
returns-clause-next c =
    let bit : ℕ → Bool = has_bit c.args.state.now in
    c.add_guarded.ensures
    ∙ (λ i. with_parts bit (c.add_all.ensures i) (c.as_slice-guarded.ensures i))
    ∙ (λ i. with_parts bit (with_atoms (c.delete_guarded-held.ensures.state i) (c.as_slice-2.ensures i)) c.args.choice.now.guarded)
    ∙ (λ i.
    with_parts bit
    (with_atoms (without_parts bit (c.delete_all.ensures i) (c.as_slice-guarded.ensures i)) c.args.choice.now.adds)
    c.args.choice.now.guarded)
    ∙ (λ i.
    with_parts bit
    (with_atoms
    (without_parts bit (without_atoms (c.copy_bits.ensures i) (c.as_slice.ensures i)) c.args.choice.now.guarded)
    c.args.choice.now.adds)
    c.args.choice.now.guarded)
    ∙ changed_is_next c.args.state.now c.args.choice.now
