use Rattle.std.proofs.Common.{◌≤◌, max, sym, subst, arith}
use Rattle.decision_process.specs.under.Under.{IsUnder}
use Rattle.ground_model.specs.Ground.{Ground}
use Rattle.ground_model.specs.Steps.{ground_process}
use Rattle.bound_words.specs.declared.bounds.Interval.{Interval}
use Rattle.lower_seed.proofs.Order.{in_order}
use Rattle.lower_seed.proofs.seeding.seeded.Goals as goal

pub returns-clause-ordered : goal.returns-clause-ordered
returns-clause-ordered g c =
    let b = c.args.words.now in let s = c.args.state.now in let read = c.interval-read.result in let value = c.value.result in
    let told = c.interval-read.ensures.told in let ordered = told.ordered in
    let under = subst (λ (q : Ground). IsUnder (ground_process q) value s) c.requires.problem c.value.ensures.under in
    let below = in_order b.problem c.width-width.ensures.table.problem value read.upper s under.1 (told.covers s c.requires.state).1 in
    let most : max read.lower value ≤ read.upper = omega arith in
    subst (λ (i : Interval). i.lower ≤ i.upper) (sym c.with_value.ensures) most
