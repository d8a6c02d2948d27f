use Rattle.std.proofs.Common.{◌≡◌, ◌∙◌, sym, get_or, true, false, rules}
use Rattle.certificate.proofs.Marks.{goes_on, found}
use Rattle.certificate.proofs.reading.used.first_unmarked.Goals as goal

pub returns-then-not-used-clause-value : goal.returns-then-not-used-clause-value
returns-then-not-used-clause-value c =
    let unmarked : get_or c.args.used.now c.loop-place.place false ≡ false = search rules in
    λ test are. sym (found test c.args.used.now are c.loop-place.place c.loop-place-test.true unmarked) ∙ c.loop-place.invariant test are

pub loop-place-preserved : goal.loop-place-preserved
loop-place-preserved c =
    let marked : get_or c.args.used.now c.loop-place.place false ≡ true = search rules in
    λ test are. sym (goes_on test c.args.used.now are c.loop-place.place c.loop-place-test.true marked) ∙ c.loop-place.invariant test are
