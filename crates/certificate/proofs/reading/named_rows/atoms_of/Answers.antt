use Rattle.std.proofs.Common.{◌≡◌, ◌∙◌, ℕ, List, ap, ◌++◌, ◌∷◌, [], sym}
use Rattle.std.specs.Borrow.{Bor}
use Rattle.std.proofs.lemmas.Result.{err_from_is_err_and}
use Rattle.certificate.specs.Decoding.{parts, atom_at, atoms_of}
use Rattle.certificate.proofs.Given.{passed, refused}
use Rattle.certificate.proofs.Atoms.{goes_on, fails, atom_shortens}
use Rattle.certificate.proofs.reading.named_rows.atoms_of.Goals as goal

abbrev view : Bor (List ℕ) × Bor (List ℕ) → List ℕ × List ℕ
view p = (p.0.now, p.1.now)

pub returns-in_err-atom : goal.returns-in_err-atom
returns-in_err-atom c =
    let p = err_from_is_err_and c.from_residual.result c.from_residual.ensures.1 in
    rw (p.1, p.2) (
    refused view c.atom_at.result c.args.line c.in_err-atom.field-0.0 (atom_at c.loop-rest.rest.now) (atoms_of (parts 41 c.args.text.now)) c.in_err-atom.ensures.value c.atom_at.ensures
    (λ none. fails c.loop-rest.atoms.items c.loop-rest.rest.now (atoms_of (parts 41 c.args.text.now)) (sym c.is_empty.ensures ∙ c.loop-rest-test.true) none c.loop-rest.invariant)
    )

pub loop-rest-smaller : goal.loop-rest-smaller
loop-rest-smaller c = atom_shortens c.loop-rest.rest.now c.in_ok-atom.atom.now c.in_ok-atom.after.now (passed view c.atom_at.result _ (c.in_ok-atom.atom, c.in_ok-atom.after) (atom_at c.loop-rest.rest.now) c.in_ok-atom.ensures.value c.atom_at.ensures)

pub loop-rest-preserved : goal.loop-rest-preserved
loop-rest-preserved c =
    let found = passed view c.atom_at.result _ (c.in_ok-atom.atom, c.in_ok-atom.after) (atom_at c.loop-rest.rest.now) c.in_ok-atom.ensures.value c.atom_at.ensures in
    let pushed : c.push.new.self.items ≡ c.loop-rest.atoms.items ++ c.in_ok-atom.atom.now ∷ [] =
    c.in_ok-push.ensures.items ∙ ap (λ (atom : List ℕ). c.loop-rest.atoms.items ++ atom ∷ []) c.in_ok-from_slice.ensures in
    rw pushed (goes_on c.loop-rest.atoms.items c.loop-rest.rest.now c.in_ok-atom.atom.now c.in_ok-atom.after.now (atoms_of (parts 41 c.args.text.now)) found c.loop-rest.invariant)
