-- The laws of lower values that no plan undercuts, by their lemmas.
use Rattle.balanced_pair.proofs.lemmas.uncut.Uncut.{sub_solution_is_uncut, raised_is_uncut, covered_is_uncut, optimum_does_not_cover}
use Rattle.balanced_pair.proofs.lemmas.uncut.Means.{greater_is_uncut, uncut_mean_is_below_plans}
use Rattle.balanced_pair.proofs.uncut.uncut_laws.Goals as goal

pub returns-clause-lower : goal.returns-clause-lower
returns-clause-lower g c p = sub_solution_is_uncut p

pub returns-clause-raised : goal.returns-clause-raised
returns-clause-raised g c p = raised_is_uncut p

pub returns-clause-covered : goal.returns-clause-covered
returns-clause-covered g c p = covered_is_uncut p

pub returns-clause-greater : goal.returns-clause-greater
returns-clause-greater g c p = greater_is_uncut p

pub returns-clause-plans : goal.returns-clause-plans
returns-clause-plans g c p = uncut_mean_is_below_plans p

pub returns-clause-optimum : goal.returns-clause-optimum
returns-clause-optimum g c = optimum_does_not_cover
