use Rattle.std.proofs.Common.{◌≡◌, ◌≤◌, ◌^◌, sym, subst, ap, ◌∙◌, arith}
use Rattle.ppddl_model.specs.Objects.{World}
use Rattle.ground_meaning.specs.choices.Limits.{effect_size}
use Rattle.ground_terms.specs.sizes.Counted.{counted}
use Rattle.grounder.specs.outset.Draws.{branches, IsLight}
use Rattle.grounder.proofs.lemmas.outset.Few.{one_power, power_more}
use Rattle.grounder.proofs.lemmas.outset.Bounding.{bound_leads, nothing_leads}
use Rattle.grounder.proofs.outset.bounding.bound_action.Goals as goal

pub returns-then-many-eq0 : goal.returns-then-many-eq0
returns-then-many-eq0 c =
    nothing_leads c.args.facts.now c.args.base c.args.action.now c.args.rows.now c.requires.kept (sym c.len-many.ensures ∙ c.if-many-eq0.true) c.args.so_far

pub pow-requires : goal.pow-requires
pow-requires c =
    let light : IsLight c.effect_size-effect.result c.count_branches-branches.result c.args.base c.args.dearest c.args.action.now.effect
    = c.is_light.ensures c.if-not-is_light.false in
    let few = light.few in
    let most : 2 ^ c.count_branches-branches.result ≤ 2 ^ 8 = power_more c.count_branches-branches.result 8 few in
    omega (arith, few, most)

pub returns : goal.returns
returns c =
    let size = c.effect_size-effect.ensures ∙ ap (λ (w : World). counted (effect_size w c.args.action.now.effect)) c.table.ensures.table in
    let count = c.count_branches-branches.ensures ∙ ap (λ (w : World). counted (branches w c.args.action.now.effect)) c.table-2.ensures.table in
    let light : IsLight c.effect_size-effect.result c.count_branches-branches.result c.args.base c.args.dearest c.args.action.now.effect
    = c.is_light.ensures c.if-not-is_light.false in
    let one = one_power c.count_branches-branches.result in
    let power : c.pow.result ≡ 2 ^ c.count_branches-branches.result = c.pow.ensures in
    bound_leads c.args.facts.now c.args.base c.args.action.now c.args.rows.now c.requires.kept c.args.so_far c.len-many.result c.len-many.ensures
    c.effect_size-effect.result size c.count_branches-branches.result count
    (subst (λ k. IsLight c.effect_size-effect.result c.count_branches-branches.result c.args.base k c.args.action.now.effect) c.requires.dearest light)
    c.requires.fair c.pow.result c.saturating_mul-each.result c.saturating_mul.result c.saturating_add-most.result c.saturating_add-instances.result
    (λ none. omega (arith, none, c.if-many-eq0.false)) power (λ none. omega (arith, none, power, one)) c.saturating_mul-each.ensures
    c.saturating_mul.ensures c.saturating_add-most.ensures c.saturating_add-instances.ensures
    (omega (arith, c.if-instances-gt-MOST_ACTIONS.false)) (omega (arith, c.if-most-gt-MOST_GROUND_SIZE.false))
