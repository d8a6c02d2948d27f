-- The denominators of items.
use Rattle.std.proofs.Common.{◌≡◌, List, [], ◌∷◌, map, refl, ap, ◌∙◌}
use Rattle.std.proofs.lemmas.List.{append-nil}
use Rattle.exact_fraction.specs.Divisors.{common_multiple}
use Rattle.ppddl_model.specs.declared.tree.InitBranch.{InitBranch}
use Rattle.ppddl_model.specs.declared.tree.InitItem.TheVariants.{Chance}
use Rattle.ppddl_model.specs.Denominator.{denominators_of}
use Rattle.ground_meaning.specs.refusals.Starts.{item_den}
use Rattle.grounder.specs.starts.Growing.{dens_of}

chances_dens : (branches : List InitBranch) → denominators_of (map (λ (x : InitBranch). x.chance) branches) ≡ dens_of branches
chances_dens [] = refl
chances_dens (x ∷ branches) = ap (λ l. x.chance.den ∷ l) (chances_dens branches)

pub chance_den : (branches : List InitBranch) → item_den (Chance branches) ≡ common_multiple (dens_of branches)
chance_den branches =
    ap common_multiple (append-nil (denominators_of (map (λ (x : InitBranch). x.chance) branches)) ∙ chances_dens branches)
