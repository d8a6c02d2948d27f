use Rattle.std.proofs.Common.{rules, ℕ, ◌+◌, ◌≤◌, max, true, List, take, subst, sym, ◌∙◌, arith}
use Rattle.std.specs.Prelude.{All}
use Rattle.std.proofs.lemmas.List.{take_all}
use Rattle.plain_list.specs.weighted.Mean.{total}
use Rattle.ground_model.specs.declared.action.Guarded.{Guarded}
use Rattle.relaxed_seed.specs.Prices.{prices_at}
use Rattle.relaxed_seed.specs.Potential.{AllowsGuarded, AllowsChoice}
use Rattle.relaxed_seed.specs.Lowering.{IsLowered}
use Rattle.relaxed_seed.proofs.PriceBounds.{price_within}
use Rattle.relaxed_seed.proofs.Lowered.{AllowEach, lowered_same, lowered_beside, lowered_by_more_beside, lowered_by_guarded, within_still, cost_fits}
use Rattle.relaxed_seed.proofs.lowering.lower_by_choice.Goals as goal

pub loop-part-init : goal.loop-part-init
loop-part-init c =
    let penalty = c.args.penalty in let limit : ℕ = c.args.choice.now.cost + c.args.base in
    let a = c.args.prices.now in let b = c.lower_all-fell.new.prices in let f = c.lower_all-fell.result in
    lowered_beside penalty (λ (x : Guarded) (p : ℕ → ℕ). AllowsGuarded penalty c.args.base c.args.choice.now.cost p x)
    (λ r. All (λ q. r q ≤ limit) c.args.choice.now.adds) a b f
    (subst (λ (l : List ℕ). IsLowered penalty (λ r. All (λ q. r q ≤ limit) l) a b f) c.as_slice.ensures (c.lower_all-fell.ensures penalty))

pub overflow_add-choice-in-loop-part : goal.overflow_add-choice-in-loop-part
overflow_add-choice-in-loop-part c =
    let penalty = c.args.penalty in let b = c.loop-part.prices in let x = c.part-item.result in
    let within = within_still penalty _ c.args.prices.now b c.loop-part.fell c.loop-part.invariant c.requires.within in
    let guard : c.price-guard.result ≤ penalty
    = subst (λ n. n ≤ penalty) (sym c.price-guard.ensures) (price_within penalty (prices_at b penalty) within true x.condition) in
    let fits = cost_fits c.args.choice.now.cost (total (λ (y : Guarded). y.cost) c.args.choice.now.guarded) c.args.base c.price-guard.result c.max.result penalty
    c.requires.choice.cost_within c.requires.base guard c.requires.limit c.max.ensures in
    omega (arith, fits)

pub loop-part-preserved : goal.loop-part-preserved
loop-part-preserved c =
    let penalty = c.args.penalty in let cost = c.args.choice.now.cost in let base = c.args.base in let guard = c.price-guard.result in
    let a = c.args.prices.now in let b = c.loop-part.prices in let d = c.lower_all-fell-in-loop-part.new.prices in
    let f = c.loop-part.fell in let s = c.lower_all-fell-in-loop-part.result in let x = c.part-item.result in
    let limit : IsLowered penalty (λ r. All (λ q. r q ≤ cost + max base guard) c.as_slice-in-loop-part.result.now) b d s
    = subst (λ n. IsLowered penalty (λ r. All (λ q. r q ≤ cost + n) c.as_slice-in-loop-part.result.now) b d s) c.max.ensures
    (c.lower_all-fell-in-loop-part.ensures penalty) in
    let one = lowered_by_guarded penalty base cost guard x b d s c.price-guard.ensures
    (subst (λ (l : List ℕ). IsLowered penalty (λ r. All (λ q. r q ≤ cost + max base guard) l) b d s) c.as_slice-in-loop-part.ensures limit) in
    lowered_by_more_beside penalty (λ (y : Guarded) (p : ℕ → ℕ). AllowsGuarded penalty base cost p y)
    (λ r. All (λ q. r q ≤ cost + base) c.args.choice.now.adds) c.as_slice-part-items.result.now c.loop-part.part-index x x (search rules) c.part-item.is
    a b d f s c.loop-part.invariant one

pub returns : goal.returns
returns c =
    let penalty = c.args.penalty in let choice = c.args.choice.now in let base = c.args.base in
    let i = c.loop-part.part-index in let items = c.as_slice-part-items.result.now in
    let all = take_all i items c.loop-part-test.false ∙ c.as_slice-part-items.ensures in
    lowered_same penalty
    (λ r. All (λ q. r q ≤ choice.cost + base) choice.adds
    × AllowEach penalty (λ (y : Guarded) (p : ℕ → ℕ). AllowsGuarded penalty base choice.cost p y) (take i items) r)
    (λ r. AllowsChoice penalty base r choice)
    (λ r both. record {
      adds = both.0;
      guarded = subst (λ (l : List Guarded). All (AllowsGuarded penalty base choice.cost r) l) all both.1;
    })
    (λ r is. (is.adds, subst (λ (l : List Guarded). All (AllowsGuarded penalty base choice.cost r) l) (sym all) is.guarded))
    c.args.prices.now c.loop-part.prices c.loop-part.fell c.loop-part.invariant
