use Rattle.std.proofs.Common.{◌≡◌, ℕ, ◌<◌, List, length, get_or, sym, ap, ◌∙◌, below_more, arith}
use Rattle.std.specs.Prelude.{map}
use Rattle.std.proofs.lemmas.List.{get_or-map, length-map}
use Rattle.brtdp_trial.specs.Listed.{expected}
use Rattle.brtdp_trial.specs.declared.backing.Side.TheVariants.{Lower}
use Rattle.brtdp_trial.specs.declared.listed.ListedAction.{ListedAction}
use Rattle.brtdp_trial.proofs.Listing.{first_found, first_missing}
use Rattle.brtdp_trial.proofs.backing.first_with.Goals as goal

at_place : (f : ListedAction → ℕ) (list : List ListedAction) (i : ℕ) (a : ListedAction) → i < length list
    → a ≡ get_or list i a → get_or (map f list) i 0 ≡ f a
at_place f list i a within here = get_or-map f list i a 0 within ∙ ap f (sym here)

pub returns-then-expected-low : goal.returns-then-expected-low
returns-then-expected-low c =
    let f : ListedAction → ℕ = expected c.args.cap Lower c.args.numbers.now in
    let list = c.args.actions.now in
    let count = length-map list f in
    sym (first_found c.args.low (map f list) c.loop-place.place c.loop-place.invariant (omega (arith, count, c.loop-place-test.true))
    (at_place f list c.loop-place.place c.index-actions-place.result c.loop-place-test.true c.index-actions-place.is
    ∙ sym c.expected.ensures ∙ c.if-expected-low.true))

pub loop-place-preserved : goal.loop-place-preserved
loop-place-preserved c =
    let f : ListedAction → ℕ = expected c.args.cap Lower c.args.numbers.now in
    let list = c.args.actions.now in
    below_more _ _ c.loop-place.invariant
    (λ e. c.if-expected-low.false (c.expected.ensures
    ∙ sym (at_place f list c.loop-place.place c.index-actions-place.result c.loop-place-test.true c.index-actions-place.is) ∙ e))

pub returns : goal.returns
returns c =
    let f : ListedAction → ℕ = expected c.args.cap Lower c.args.numbers.now in
    let list = c.args.actions.now in
    let count = length-map list f in
    sym (first_missing c.args.low (map f list)
    (λ j within. c.loop-place.invariant j (omega (arith, count, within, c.loop-place-test.false))) ∙ count)
