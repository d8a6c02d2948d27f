-- How large an effect is, so that recursions end.
use Rattle.std.proofs.Common.{◌≡◌, ℕ, zero, suc, ◌+◌, ◌<◌, ◌≤◌, List, [], ◌∷◌, length, get_or, refl, ap, ◌∙◌, arith}
use denote.Hole.Carrier.{hidden}
use Rattle.plain_list.specs.weighted.Mean.{total}
use Rattle.ppddl_model.specs.declared.tree.Branch.{Branch}
use Rattle.ppddl_model.specs.declared.tree.Condition.{Condition}
use Rattle.ppddl_model.specs.declared.tree.Effect.{Effect, Row_of-Effect, end_of-Effect, more_of-Effect, items-the_row-Effect, items_hidden-the_row-Effect-0}
use Rattle.ppddl_model.specs.declared.tree.Effect.{Row_of-Branch, end_of-Branch, more_of-Branch, items-the_row-Branch, items_hidden-the_row-Branch-2}
use Rattle.ppddl_model.specs.declared.tree.Effect.TheBlock.{hidden-the_row-Effect-0, hidden-the_row-Effect-1, hidden-the_row-Branch-2}
use Rattle.ppddl_model.specs.declared.tree.Effect.TheVariants as effect
use Rattle.ppddl_model.specs.declared.tree.Effect.TheVariants.{Both', Forall', When', Chance'}
use Rattle.ppddl_model.specs.declared.tree.Param.{Param}

abbrev mutual
  pub mass : Effect → ℕ
  mass (Both' shape es) = 1 + masses es
  mass (Forall' params u es) = 1 + length params + masses es
  mass (When' c u es) = 1 + masses es
  mass (Chance' shape branches) = 1 + branch_masses branches
  mass _ = 1

  pub masses : {n : _} → Row_of-Effect n → ℕ
  masses end_of-Effect = 0
  masses (more_of-Effect e es) = mass e + masses es

  pub branch_masses : {n : _} → Row_of-Branch n → ℕ
  branch_masses end_of-Branch = 0
  branch_masses (more_of-Branch chance e branches) = mass e + branch_masses branches

abbrev pub branch_mass : Branch → ℕ
branch_mass branch = mass branch.effect

masses_row : {n : _} (row : Row_of-Effect n) → masses row ≡ total mass (items-the_row-Effect n row)
masses_row end_of-Effect = refl
masses_row (more_of-Effect e es) = ap (λ k. mass e + k) (masses_row es)

branches_row : {n : _} (row : Row_of-Branch n) → branch_masses row ≡ total branch_mass (items-the_row-Branch n row)
branches_row end_of-Branch = refl
branches_row (more_of-Branch chance e branches) = ap (λ k. mass e + k) (branches_row branches)

pub mass-Both : (es : List Effect) → mass (effect.Both es) ≡ 1 + total mass es
mass-Both es = ap (λ k. 1 + k) (masses_row (hidden-the_row-Effect-0 es) ∙ ap (total mass) (items_hidden-the_row-Effect-0 es))

pub mass-Chance : (branches : List Branch) → mass (effect.Chance branches) ≡ 1 + total branch_mass branches
mass-Chance branches =
    ap (λ k. 1 + k) (branches_row (hidden-the_row-Branch-2 branches) ∙ ap (total branch_mass) (items_hidden-the_row-Branch-2 branches))

pub mass-Forall : (ps : List Param) (e : Effect) → mass (effect.Forall ps e) ≡ 1 + length ps + (mass e + 0)
unfolding hidden-the_row-Effect-1 hidden
mass-Forall ps e = refl

pub mass-When : (c : Condition) (e : Effect) → mass (effect.When c e) ≡ 1 + (mass e + 0)
unfolding hidden-the_row-Effect-1 hidden
mass-When c e = refl

pub part_mass : {X : Type 0} (f : X → ℕ) (xs : List X) (i : ℕ) (d : X) → i < length xs → f (get_or xs i d) ≤ total f xs
part_mass f [] i d within = absurd (omega arith)
part_mass f (x ∷ xs) zero d within = omega arith
part_mass f (x ∷ xs) (suc i) d within = let later = part_mass f xs i d (omega arith) in omega (arith, later)
