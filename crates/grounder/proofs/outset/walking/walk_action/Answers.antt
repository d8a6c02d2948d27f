use Rattle.std.proofs.Common.{subst, sym, ap, ◌∙◌, arith}
use Rattle.ppddl_model.specs.Objects.{World}
use Rattle.ground_meaning.specs.choices.Limits.{effect_size}
use Rattle.ground_terms.specs.sizes.Counted.{counted}
use Rattle.grounder.specs.outset.Draws.{branches, IsLight}
use Rattle.grounder.proofs.lemmas.outset.Walking.{many_follow, many_stops, one_stops}
use Rattle.grounder.proofs.outset.walking.walk_action.Goals as goal

pub returns-in-Ok : goal.returns-in-Ok
returns-in-Ok c =
    let size = c.effect_size-effect.ensures ∙ ap (λ (w : World). counted (effect_size w c.args.action.now.effect)) c.table.ensures.table in
    let count = c.count_branches-branches.ensures ∙ ap (λ (w : World). counted (branches w c.args.action.now.effect)) c.table-2.ensures.table in
    many_follow c.args.facts.now c.args.base c.args.action.now c.args.rows.now c.requires.kept c.args.walked c.len-many.result c.len-many.ensures
    c.effect_size-effect.result size c.count_branches-branches.result count (subst (λ k. IsLight c.effect_size-effect.result c.count_branches-branches.result c.args.base k c.args.action.now.effect) c.requires.dearest (c.is_light.ensures c.if-is_light.true))
    c.requires.fair
    c.stays_exact.result c.stays_exact.ensures c.in-Ok.next (sym c.in-Ok.ensures)

pub returns-in-Err : goal.returns-in-Err
returns-in-Err c =
    let size = c.effect_size-effect.ensures ∙ ap (λ (w : World). counted (effect_size w c.args.action.now.effect)) c.table.ensures.table in
    let count = c.count_branches-branches.ensures ∙ ap (λ (w : World). counted (branches w c.args.action.now.effect)) c.table-2.ensures.table in
    many_stops c.args.facts.now c.args.base c.args.action.now c.args.rows.now c.requires.kept c.args.walked c.len-many.result c.len-many.ensures
    c.effect_size-effect.result size c.count_branches-branches.result count (subst (λ k. IsLight c.effect_size-effect.result c.count_branches-branches.result c.args.base k c.args.action.now.effect) c.requires.dearest (c.is_light.ensures c.if-is_light.true))
    c.requires.fair
    c.stays_exact.result c.stays_exact.ensures c.in-Err.code c.stopped.result (sym c.in-Err.ensures) c.stopped.ensures

pub returns-in-Err-one_more : goal.returns-in-Err-one_more
returns-in-Err-one_more c =
    let size = c.effect_size-effect.ensures ∙ ap (λ (w : World). counted (effect_size w c.args.action.now.effect)) c.table.ensures.table in
    one_stops c.args.facts.now c.args.base c.args.action.now c.args.rows.now c.requires.kept c.args.walked c.len-many.result c.len-many.ensures
    c.effect_size-effect.result size c.in-Err-one_more.code c.stopped-in-Err-one_more.result
    (λ none. omega (arith, none, c.if-many-eq0.false)) (sym c.in-Err-one_more.ensures) c.stopped-in-Err-one_more.ensures
