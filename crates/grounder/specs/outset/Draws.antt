-- How many choices an effect has at most, and what each costs at most, whatever its atoms are.
--     branches w e              the branches that stand in an effect, every `forall` expanded: each doubles its choices at most
--     greatest_value items      the greatest of the values that items of `:init` give to function terms, 0 where there is none
--     is_modest most dearest e  an effect has no amount above `most`, and names a function term only where no value is
--     IsLight size count base dearest e
--                               an effect of this size with so many branches has at most 2^8 choices, each within the limit on costs with the base cost
use Rattle.std.specs.Prelude.{◌≡◌, ◌≤◌, ℕ, ◌+◌, ◌*◌, max, Bool, true, ◌&&◌, nat_le, List, [], ◌∷◌, length}
use Rattle.ppddl_model.specs.declared.tree.Effect.{Effect, Row_of-Effect, end_of-Effect, more_of-Effect, Row_of-Branch, end_of-Branch, more_of-Branch}
use Rattle.ppddl_model.specs.declared.tree.Effect.TheVariants.{Both', Forall', When', Chance', Cost, CostOf}
use Rattle.ppddl_model.specs.declared.tree.ValueItem.{ValueItem}
use Rattle.ppddl_model.specs.Objects.{World, bindings}
use Rattle.ground_model.specs.declared.limits.TheConstants.{MOST_CHOICE_COST}

module _ (w : World) where
  abbrev mutual
    pub branches : Effect → ℕ
    branches (Both' shape es) = branches_each es
    branches (Forall' params u (more_of-Effect e end_of-Effect)) = length (bindings w params []) * branches e
    branches (When' c u (more_of-Effect e end_of-Effect)) = branches e
    branches (Chance' shape bs) = branches_of bs
    branches _ = 0

    pub branches_each : {n : _} → Row_of-Effect n → ℕ
    branches_each end_of-Effect = 0
    branches_each (more_of-Effect e es) = branches e + branches_each es

    pub branches_of : {n : _} → Row_of-Branch n → ℕ
    branches_of end_of-Branch = 0
    branches_of (more_of-Branch chance e bs) = 1 + branches e + branches_of bs

abbrev pub greatest_value : List ValueItem → ℕ
greatest_value [] = 0
greatest_value (item ∷ items) = max item.value (greatest_value items)

abbrev mutual
  pub is_modest : ℕ → ℕ → Effect → Bool
  is_modest most dearest (Both' shape es) = are_modest most dearest es
  is_modest most dearest (Forall' params u (more_of-Effect e end_of-Effect)) = is_modest most dearest e
  is_modest most dearest (When' c u (more_of-Effect e end_of-Effect)) = is_modest most dearest e
  is_modest most dearest (Chance' shape bs) = branches_modest most dearest bs
  is_modest most dearest (Cost amount) = nat_le amount most
  is_modest most dearest (CostOf term) = nat_le dearest most
  is_modest most dearest _ = true

  pub are_modest : {n : _} → ℕ → ℕ → Row_of-Effect n → Bool
  are_modest most dearest end_of-Effect = true
  are_modest most dearest (more_of-Effect e es) = is_modest most dearest e && are_modest most dearest es

  pub branches_modest : {n : _} → ℕ → ℕ → Row_of-Branch n → Bool
  branches_modest most dearest end_of-Branch = true
  branches_modest most dearest (more_of-Branch chance e bs) = is_modest most dearest e && branches_modest most dearest bs

pub record IsLight (size count base dearest : ℕ) (e : Effect) : Type 0 where
  pub most : ℕ
  pub modest : is_modest most dearest e ≡ true
  pub room : size * most + base ≤ MOST_CHOICE_COST
  pub few : count ≤ 8
