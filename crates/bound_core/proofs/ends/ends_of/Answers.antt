use Rattle.std.proofs.Common.{◌≡◌, ◌≤◌, ◌/◌, sym, ap, ◌∙◌, subst}
use Rattle.std.specs.Int.{div_ceil}
use Rattle.bound_core.proofs.lemmas.ends.Adding.{lower_mean, upper_mean, means_within}
use Rattle.bound_core.proofs.ends.ends_of.Goals as goal

pub returns-clause-ends : goal.returns-clause-ends
returns-clause-ends c =
    let g = c.args.problem.now in let rows = c.args.rows.now in let sums = c.add_up-sums.result in
    let den : c.from-den.result ≡ g.start_den = c.from-den.ensures ∙ c.start_den.ensures.value in (
      ap (λ d. sums.lower / d) den ∙ lower_mean g rows sums c.add_up-sums.ensures.sums,
      c.div_ceil.ensures ∙ ap (div_ceil sums.upper) den ∙ upper_mean g rows sums c.add_up-sums.ensures.sums,
    )

pub returns-clause-within_quit : goal.returns-clause-within_quit
returns-clause-within_quit c =
    let g = c.args.problem.now in let rows = c.args.rows.now in let sums = c.add_up-sums.result in
    let den : c.from-den.result ≡ g.start_den = c.from-den.ensures ∙ c.start_den.ensures.value in
    let small = means_within g rows sums c.add_up-sums.ensures.sums c.start_den.ensures.valid in (
      subst (λ n. n ≤ g.penalty) (sym (ap (λ d. sums.lower / d) den)) small.0,
      subst (λ n. n ≤ g.penalty) (sym (c.div_ceil.ensures ∙ ap (div_ceil sums.upper) den)) small.1,
    )
