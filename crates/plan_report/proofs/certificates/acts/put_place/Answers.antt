-- A place that stands there stays.
use Rattle.std.proofs.Common.{◌<◌, length, sym, ap, ◌∙◌, subst, not, arith}
use Rattle.plan_report.specs.certificates.Tables.{IsPlaced}
use Rattle.plan_report.proofs.lemmas.certificates.ActTable.{stands, more_put}
use Rattle.plan_report.proofs.certificates.acts.put_place.Goals as goal

pub returns-else-is_none-clause-here : goal.returns-else-is_none-clause-here
returns-else-is_none-clause-here c within =
    let places = c.args.places.now.items in let code = c.code-code.result in
    let below : code < length places = subst (λ k. k < length places) (sym c.code-code.ensures) within in
    subst (IsPlaced places) c.code-code.ensures
    (stands places code 0 c.index.result.now below c.index.ensures (c.is_none.ensures ∙ ap not c.if-is_none.false))

pub returns-then-is_none-clause-more : goal.returns-then-is_none-clause-more
returns-then-is_none-clause-more c =
    let places = c.args.places.now.items in let code = c.code-code.result in
    let long = c.requires.places.long in let there = c.in-Some.ensures.lookup in
    more_put places code c.place_of.result (let count = ap length c.actions.ensures.value in let found = there.1 in omega arith)
