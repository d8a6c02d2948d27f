use Rattle.std.proofs.Common.{◌∙◌, ℕ, List, sym}
use Rattle.std.specs.Prelude.{codes}
use Rattle.std.specs.Borrow.{Bor}
use Rattle.std.proofs.lemmas.Result.{err_from_is_err_and}
use Rattle.certificate.specs.Decoding.{behind, parts, place_at, spaced_places}
use Rattle.certificate.proofs.Given.{passed, passed_on, refused, refused_on}
use Rattle.certificate.proofs.NumberLoop.{no_blank, no_number, goes_on, number_shortens}
use Rattle.certificate.proofs.reading.rows.take_numbers.Goals as goal

abbrev view : ℕ × Bor (List ℕ) → ℕ × List ℕ
view p = (p.0, p.1.now)

pub returns-in_err-after : goal.returns-in_err-after
returns-in_err-after c =
    let p = err_from_is_err_and c.from_residual.result c.from_residual.ensures.1 in
    rw (p.1, p.2) (
    refused_on c.behind.result c.args.line c.in_err-after.field-0.0 (behind (codes " ") c.loop-rest.rest.now) (spaced_places c.args.atoms (parts 32 c.args.text.now)) c.in_err-after.ensures.value c.behind.ensures
    (no_blank c.args.atoms c.loop-rest.numbers.items c.loop-rest.rest.now _ c.loop-rest.invariant (sym c.is_empty.ensures ∙ c.loop-rest-test.true))
    )

pub returns-in_err-number : goal.returns-in_err-number
returns-in_err-number c =
    let blank = passed_on c.behind.result _ c.in_ok-after.after (behind (codes " ") c.loop-rest.rest.now) c.in_ok-after.ensures.value c.behind.ensures in
    let p = err_from_is_err_and c.from_residual-in_err-number.result c.from_residual-in_err-number.ensures.1 in
    rw (p.1, p.2) (
    refused view c.place_at.result c.args.line c.in_err-number.field-0.0 (place_at c.args.atoms c.in_ok-after.after.now) (spaced_places c.args.atoms (parts 32 c.args.text.now)) c.in_err-number.ensures.value c.place_at.ensures
    (no_number c.args.atoms c.loop-rest.numbers.items c.loop-rest.rest.now _ c.loop-rest.invariant c.in_ok-after.after.now blank)
    )

pub loop-rest-smaller : goal.loop-rest-smaller
loop-rest-smaller c =
    let blank = passed_on c.behind.result _ c.in_ok-after.after (behind (codes " ") c.loop-rest.rest.now) c.in_ok-after.ensures.value c.behind.ensures in
    let found = passed view c.place_at.result _ (c.in_ok-number.number, c.in_ok-number.after) (place_at c.args.atoms c.in_ok-after.after.now) c.in_ok-number.ensures.value c.place_at.ensures in
    number_shortens c.args.atoms c.loop-rest.numbers.items c.loop-rest.rest.now _ c.loop-rest.invariant c.in_ok-after.after.now blank c.in_ok-number.number c.in_ok-number.after.now found

pub loop-rest-preserved : goal.loop-rest-preserved
loop-rest-preserved c =
    let blank = passed_on c.behind.result _ c.in_ok-after.after (behind (codes " ") c.loop-rest.rest.now) c.in_ok-after.ensures.value c.behind.ensures in
    let found = passed view c.place_at.result _ (c.in_ok-number.number, c.in_ok-number.after) (place_at c.args.atoms c.in_ok-after.after.now) c.in_ok-number.ensures.value c.place_at.ensures in
    rw c.in_ok-push.ensures.items (goes_on c.args.atoms c.loop-rest.numbers.items c.loop-rest.rest.now _ c.loop-rest.invariant c.in_ok-after.after.now blank c.in_ok-number.number c.in_ok-number.after.now found)
