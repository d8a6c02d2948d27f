use Rattle.std.proofs.Common.{List, ◌/◌, ap, subst, ◌∙◌}
use Rattle.bound_core.specs.declared.image.ImageRow.{ImageRow}
use Rattle.lower_seed.specs.Means.{IsUnderSum}
use Rattle.lower_seed.proofs.Sums.{is_mean, is_higher, is_within, is_below}
use Rattle.lower_seed.proofs.means.under_of.Goals as goal

pub returns-clause-mean : goal.returns-clause-mean
returns-clause-mean g c =
    let p = c.args.problem.now in let answers = g.R.Rule.answers c.args.seed.now.rule in let sum = c.add_up-sum.result in
    let are = subst (λ (rows : List ImageRow). IsUnderSum answers p rows p.starts sum) c.as_slice.ensures c.add_up-sum.ensures in
    is_mean answers p c.args.image.now.rows sum are c.start_den.ensures.valid (sum / c.from.result) (ap (λ d. sum / d) (c.from.ensures ∙ c.start_den.ensures.value))

pub returns-clause-higher : goal.returns-clause-higher
returns-clause-higher g c =
    let p = c.args.problem.now in let answers = g.R.Rule.answers c.args.seed.now.rule in let sum = c.add_up-sum.result in
    let are = subst (λ (rows : List ImageRow). IsUnderSum answers p rows p.starts sum) c.as_slice.ensures c.add_up-sum.ensures in
    is_higher answers p c.args.image.now.rows sum are (sum / c.from.result) (ap (λ d. sum / d) (c.from.ensures ∙ c.start_den.ensures.value))

pub returns-clause-within_quit : goal.returns-clause-within_quit
returns-clause-within_quit g c =
    let p = c.args.problem.now in let answers = g.R.Rule.answers c.args.seed.now.rule in let sum = c.add_up-sum.result in
    let are = subst (λ (rows : List ImageRow). IsUnderSum answers p rows p.starts sum) c.as_slice.ensures c.add_up-sum.ensures in
    is_within answers p c.args.image.now.rows sum are c.start_den.ensures.valid (sum / c.from.result)
    (ap (λ d. sum / d) (c.from.ensures ∙ c.start_den.ensures.value))

pub returns-clause-plans : goal.returns-clause-plans
returns-clause-plans g c =
    let p = c.args.problem.now in let answers = g.R.Rule.answers c.args.seed.now.rule in let sum = c.add_up-sum.result in
    let are = subst (λ (rows : List ImageRow). IsUnderSum answers p rows p.starts sum) c.as_slice.ensures c.add_up-sum.ensures in
    is_below answers p c.args.image.now.rows sum are c.start_den.ensures.valid c.requires.closing (sum / c.from.result)
    (ap (λ d. sum / d) (c.from.ensures ∙ c.start_den.ensures.value))
