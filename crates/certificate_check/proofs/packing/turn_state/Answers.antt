-- What two rows have in common stays.
use Rattle.std.proofs.Common.{◌≡◌, take, length, refl, sym, ap, subst, ◌∙◌}
use Rattle.std.specs.Prelude.{IsTrue}
use Rattle.ground_model.specs.Choices.{is_member}
use Rattle.ground_model.proofs.Packed.{length-packed}
use Rattle.certificate_check.specs.Claims.{numbers_of, are_known}
use Rattle.certificate_check.specs.Packing.{state_by}
use Rattle.certificate_check.proofs.Stating.{known_first}
use Rattle.certificate_check.proofs.packing.turn_state.Goals.{then-was_known, else-was_known}
use Rattle.certificate_check.proofs.packing.turn_state.Goals as goal

pub push_atoms-requires-clause-known : goal.push_atoms-requires-clause-known
push_atoms-requires-clause-known c =
    let numbers = c.args.numbers.now in
    let before = c.args.before.now in
    let atoms = c.args.atoms.now in
    elim c.if-was_known.branch [
      | then-was_known w ↦
          subst (λ k. IsTrue (are_known numbers (take k atoms))) (sym w.shared-is)
          (subst (λ xs. IsTrue (are_known numbers xs)) w.shared_length-shared.ensures.shared
          (known_first numbers before w.shared_length-shared.result (sym c.requires.known ∙ w.if-was_known.true)))
      | else-was_known w ↦ subst (λ k. IsTrue (are_known numbers (take k atoms))) (sym w.shared-is) refl
    ]

pub push_atoms-requires-clause-state : goal.push_atoms-requires-clause-state
push_atoms-requires-clause-state c =
    let numbers = c.args.numbers.now in
    let before = c.args.before.now in
    let atoms = c.args.atoms.now in
    let n = length c.args.state.now in
    let shared = c.if-was_known.shared in
    let same : take shared before ≡ take shared atoms = elim c.if-was_known.branch [
      | then-was_known w ↦ subst (λ k. take k before ≡ take k atoms) (sym w.shared-is) w.shared_length-shared.ensures.shared
      | else-was_known w ↦ subst (λ k. take k before ≡ take k atoms) (sym w.shared-is) refl
    ] in
    let long : length c.pop_atoms.new.state ≡ n
    = ap length c.pop_atoms.ensures.state ∙ length-packed (is_member (numbers_of numbers (take shared before))) n in
    c.pop_atoms.ensures.state ∙ ap (λ xs. state_by numbers xs n) same ∙ ap (state_by numbers (take shared atoms)) (sym long)
