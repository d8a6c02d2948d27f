use Rattle.std.proofs.Common.{sym, ap, ◌∙◌}
use Rattle.exact_fraction.specs.Divisors.{common_multiple}
use Rattle.ppddl_model.specs.declared.tree.InitItem.{InitItem}
use Rattle.ground_terms.specs.sizes.Counted.{counted}
use Rattle.ground_meaning.specs.refusals.Starts.{item_den}
use Rattle.grounder.specs.starts.Growing.{dens_of}
use Rattle.grounder.proofs.lemmas.starts.Dens.{chance_den}
use Rattle.grounder.proofs.starts.denominators.item_denominator.Goals as goal

pub returns-in-Chance : goal.returns-in-Chance
returns-in-Chance c =
    c.chance_denominator.ensures ∙ ap (λ l. counted (common_multiple (dens_of l))) c.as_slice.ensures
    ∙ ap counted (sym (chance_den c.in-Chance.branches)) ∙ ap (λ (i : InitItem). counted (item_den i)) (sym c.in-Chance.is)
