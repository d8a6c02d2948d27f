use Rattle.std.proofs.Common.{rules, get_or, refl, sym, ap, subst, ◌∙◌}
use Rattle.std.proofs.lemmas.Option.{slice_get_within}
use Rattle.decision_process.specs.under.Under.{IsUnder}
use Rattle.ground_model.specs.Ground.{Ground}
use Rattle.ground_model.specs.Steps.{ground_process}
use Rattle.bound_core.specs.Core.{width}
use Rattle.bound_core.proofs.lemmas.ends.Adding.{first_row, row_there}
use Rattle.lower_seed.proofs.Sums.{nothing_added, start_is_long, one_more, fits}
use Rattle.lower_seed.proofs.means.add_up.Goals as goal

pub loop-place-init : goal.loop-place-init
loop-place-init g c = nothing_added (g.R.Rule.answers c.args.seed.now.rule) c.args.problem.now c.args.rows.now 0 refl

pub value-value-requires : goal.value-value-requires
value-value-requires g c = record {
  length = start_is_long c.args.problem.now c.starts-start-items.ensures.valid c.starts-start-items.result.now c.starts-start-items.ensures.value
      c.loop-place.place c.start-item.result (search rules) c.start-item.is
      ∙ sym (ap width c.requires.problem);
}

pub bounds-rows-place : goal.bounds-rows-place
bounds-rows-place g c =
    let at = first_row c.args.problem.now c.args.rows.now c.requires.starts c.starts-start-items.result.now c.starts-start-items.ensures.value c.loop-place.place c.start-item.result (search rules) c.start-item.is in
    slice_get_within c.args.rows.now c.loop-place.place at.row at.here

pub bounds-rows-place-in-loop-place : goal.bounds-rows-place-in-loop-place
bounds-rows-place-in-loop-place g c =
    let at = first_row c.args.problem.now c.args.rows.now c.requires.starts c.starts-start-items.result.now c.starts-start-items.ensures.value c.loop-place.place c.start-item.result (search rules) c.start-item.is in
    slice_get_within c.args.rows.now c.loop-place.place at.row at.here

pub with_start-sum-requires : goal.with_start-sum-requires
with_start-sum-requires g c =
    let p = c.args.problem.now in let rows = c.args.rows.now in let xs = c.starts-start-items.result.now in let i = c.loop-place.place in
    let x = c.start-item.result in let row = c.index-rows-place.result in let value = c.value-value.result in let sum = c.loop-place.sum in
    let at = first_row p rows c.requires.starts xs c.starts-start-items.ensures.value i x (search rules) c.start-item.is in
    let there = row_there rows i x at row c.index-rows-place.is in
    fits (g.R.Rule.answers c.args.seed.now.rule) p c.starts-start-items.ensures.valid rows c.requires.closing xs c.starts-start-items.ensures.value
    i x (search rules) c.start-item.is row there.0 there.1 value c.value-value.ensures.answered
    (subst (λ (q : Ground). IsUnder (ground_process q) value x.state) c.requires.problem c.value-value.ensures.under) sum c.loop-place.invariant
    (get_or rows i row) c.index-rows-place.is

pub loop-place-preserved : goal.loop-place-preserved
loop-place-preserved g c =
    let p = c.args.problem.now in let rows = c.args.rows.now in let xs = c.starts-start-items.result.now in let i = c.loop-place.place in
    let x = c.start-item.result in let row = c.index-rows-place.result in let value = c.value-value.result in let sum = c.loop-place.sum in
    let at = first_row p rows c.requires.starts xs c.starts-start-items.ensures.value i x (search rules) c.start-item.is in
    let there = row_there rows i x at row c.index-rows-place.is in
    one_more (g.R.Rule.answers c.args.seed.now.rule) p c.starts-start-items.ensures.valid rows c.requires.closing xs c.starts-start-items.ensures.value
    i x (search rules) c.start-item.is row there.0 there.1 value c.value-value.ensures.answered
    (subst (λ (q : Ground). IsUnder (ground_process q) value x.state) c.requires.problem c.value-value.ensures.under) sum c.loop-place.invariant
    (get_or rows i row) c.index-rows-place.is c.with_start-sum.result c.with_start-sum.ensures
