-- The search in rising texts finds the one place, or none.
use Rattle.std.proofs.Common.{◌≡◌, ◌≢◌, List, ℕ, subst, sym, ap, ◌∙◌, rules, tests, arith}
use Rattle.std.specs.Prelude.{AllPairs}
use Rattle.std.proofs.lemmas.Fn.{always_returns_same}
use Rattle.plain_list.specs.Texts.{compare_texts, rises}
use Rattle.ground_model.proofs.Rising.{texts_differ}
use Rattle.ground_step.specs.Names.{place_of}
use Rattle.ground_step.proofs.Names.{searchable, found_is, missed_is}
use Rattle.ground_step.proofs.atoms.atom_number.Goals as goal

pub returns-in-Ok : goal.returns-in-Ok
returns-in-Ok c =
    let text : List ℕ = c.args.text.now in
    let here = c.in-Ok.ensures.position (λ atom. compare_texts atom text)
    (always_returns_same _ (λ a r. r ≡ compare_texts a.0.now text) _ (λ a r q k. search (rules, tests))) in
    let apart : AllPairs (λ x y. x ≢ y) c.atoms.result.now =
    subst (AllPairs (λ x y. x ≢ y)) (sym c.atoms.ensures.value)
    (texts_differ c.args.problem.now.atoms c.atoms.ensures.valid.atoms_rise) in
    found_is c.atoms.result.now apart text c.in-Ok.place (omega (arith, c.in-Ok.ensures.bound)) here
    ∙ ap (λ texts. place_of texts text) c.atoms.ensures.value

pub returns-in-Err : goal.returns-in-Err
returns-in-Err c =
    let text : List ℕ = c.args.text.now in
    let parts = c.in-Err.ensures.position (λ atom. compare_texts atom text)
    (always_returns_same _ (λ a r. r ≡ compare_texts a.0.now text) _ (λ a r q k. search (rules, tests)))
    (searchable c.atoms.result.now
    (ap (rises compare_texts) c.atoms.ensures.value ∙ c.atoms.ensures.valid.atoms_rise) text) in
    missed_is c.atoms.result.now text c.in-Err.field-0 parts
    ∙ ap (λ texts. place_of texts text) c.atoms.ensures.value
