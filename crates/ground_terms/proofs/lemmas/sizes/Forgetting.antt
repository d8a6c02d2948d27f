-- Sizes and denominators do not depend on the values of functions; what a table says that is made is typed.
use Rattle.std.proofs.Common.{◌≡◌, ◌+◌, ◌*◌, ◌^◌, Bool, true, false, cond, not, ◌&&◌, List, [], ◌∷◌, filter, length, refl, ap, ◌∙◌}
use Rattle.std.specs.Prelude.{IsTrue}
use Rattle.std.specs.List.{list_all}
use Rattle.exact_fraction.specs.Divisors.{common_multiple}
use Rattle.ppddl_model.specs.declared.tree.Condition.{Condition, Row_of-Condition, end_of-Condition, more_of-Condition}
use Rattle.ppddl_model.specs.declared.tree.Condition.TheVariants as condition
use Rattle.ppddl_model.specs.declared.tree.Effect.{Effect, Row_of-Effect, end_of-Effect, more_of-Effect, Row_of-Branch, end_of-Branch, more_of-Branch}
use Rattle.ppddl_model.specs.declared.tree.Effect.TheVariants.{Add, Delete, Both', Forall', When', Chance', Cost, CostOf}
use Rattle.ppddl_model.specs.declared.tree.ObjectDecl.{ObjectDecl}
use Rattle.ppddl_model.specs.declared.tree.Param.{Param}
use Rattle.ppddl_model.specs.declared.tree.TypeDecl.{TypeDecl}
use Rattle.ppddl_model.specs.declared.tree.ValueItem.{ValueItem}
use Rattle.ppddl_model.specs.State.{same_name}
use Rattle.ppddl_model.specs.Objects.{World, once, bindings}
use Rattle.type_table.specs.Types.{table_world, is_known}
use Rattle.type_table.proofs.Once.{objects_distinct}
use Rattle.ground_meaning.specs.choices.Joint.{den_of, den_of_each, dens_of, own_den}
use Rattle.ground_meaning.specs.choices.Limits.{condition_size, conditions_size, effect_size, effects_size, branches_size}
use Rattle.ground_terms.specs.sizes.Typed.{IsTyped}
use Rattle.ground_terms.specs.sizes.Valued.{with_values}
use Rattle.ground_terms.proofs.lemmas.sizes.CostSteps.{bindings-valued}
use Rattle.ground_terms.proofs.lemmas.sizes.OfTypes.{and_first, and_second}

module _ (w : World) (values : List ValueItem) where
  abbrev v : World
  v = with_values w values

  ways : (params : List Param) → length (bindings v params []) ≡ length (bindings w params [])
  ways params = ap length (bindings-valued w values params [])

  mutual
    pub condition_forgets : (c : Condition) → condition_size v c ≡ condition_size w c
    condition_forgets (condition.Atom a) = refl
    condition_forgets (condition.Equal x y) = refl
    condition_forgets (condition.Not' u cs) = ap (λ k. 1 + k) (conditions_forget cs)
    condition_forgets (condition.All' shape cs) = ap (λ k. 1 + k) (conditions_forget cs)
    condition_forgets (condition.Any' shape cs) = ap (λ k. 1 + k) (conditions_forget cs)
    condition_forgets (condition.Imply' u cs t ds) =
        ap (λ k. 1 + k + conditions_size v ds) (conditions_forget cs) ∙ ap (λ k. 1 + conditions_size w cs + k) (conditions_forget ds)
    condition_forgets (condition.Exists' params u cs) =
        ap (λ k. 1 + k * conditions_size v cs) (ways params) ∙ ap (λ k. 1 + length (bindings w params []) * k) (conditions_forget cs)
    condition_forgets (condition.Forall' params u cs) =
        ap (λ k. 1 + k * conditions_size v cs) (ways params) ∙ ap (λ k. 1 + length (bindings w params []) * k) (conditions_forget cs)

    conditions_forget : {m : _} (cs : Row_of-Condition m) → conditions_size v cs ≡ conditions_size w cs
    conditions_forget end_of-Condition = refl
    conditions_forget (more_of-Condition c cs) =
        ap (λ k. k + conditions_size v cs) (condition_forgets c) ∙ ap (λ k. condition_size w c + k) (conditions_forget cs)

  mutual
    pub effect_forgets : (e : Effect) → effect_size v e ≡ effect_size w e
    effect_forgets (Add a) = refl
    effect_forgets (Delete a) = refl
    effect_forgets (Both' shape es) = ap (λ k. 1 + k) (effects_forget es)
    effect_forgets (Forall' params u es) =
        ap (λ k. 1 + k * effects_size v es) (ways params) ∙ ap (λ k. 1 + length (bindings w params []) * k) (effects_forget es)
    effect_forgets (When' c u es) =
        ap (λ k. 1 + k + effects_size v es) (condition_forgets c) ∙ ap (λ k. 1 + condition_size w c + k) (effects_forget es)
    effect_forgets (Chance' shape branches) = ap (λ k. 1 + k) (branches_forget branches)
    effect_forgets (Cost amount) = refl
    effect_forgets (CostOf a) = refl

    effects_forget : {m : _} (es : Row_of-Effect m) → effects_size v es ≡ effects_size w es
    effects_forget end_of-Effect = refl
    effects_forget (more_of-Effect e es) =
        ap (λ k. k + effects_size v es) (effect_forgets e) ∙ ap (λ k. effect_size w e + k) (effects_forget es)

    branches_forget : {m : _} (branches : Row_of-Branch m) → branches_size v branches ≡ branches_size w branches
    branches_forget end_of-Branch = refl
    branches_forget (more_of-Branch chance e branches) =
        ap (λ k. k + branches_size v branches) (effect_forgets e) ∙ ap (λ k. effect_size w e + k) (branches_forget branches)

  mutual
    pub den_forgets : (e : Effect) → den_of v e ≡ den_of w e
    den_forgets (Add a) = refl
    den_forgets (Delete a) = refl
    den_forgets (Both' shape es) = dens_forget es
    den_forgets (Forall' params u (more_of-Effect e end_of-Effect)) =
        ap (λ d. d ^ length (bindings v params [])) (den_forgets e) ∙ ap (λ n. den_of w e ^ n) (ways params)
    den_forgets (When' c u (more_of-Effect e end_of-Effect)) = den_forgets e
    den_forgets (Chance' shape branches) = ap (λ ds. own_den branches * common_multiple ds) (branch_dens_forget branches)
    den_forgets (Cost amount) = refl
    den_forgets (CostOf a) = refl

    dens_forget : {m : _} (es : Row_of-Effect m) → den_of_each v es ≡ den_of_each w es
    dens_forget end_of-Effect = refl
    dens_forget (more_of-Effect e es) = ap (λ k. k * den_of_each v es) (den_forgets e) ∙ ap (λ k. den_of w e * k) (dens_forget es)

    branch_dens_forget : {m : _} (branches : Row_of-Branch m) → dens_of v branches ≡ dens_of w branches
    branch_dens_forget end_of-Branch = refl
    branch_dens_forget (more_of-Branch chance e branches) =
        ap (λ d. d ∷ dens_of v branches) (den_forgets e) ∙ ap (λ ds. den_of w e ∷ ds) (branch_dens_forget branches)

-- ---- tables that are made

all_filter : {X : Type 0} (p q : X → Bool) (xs : List X) → list_all p xs ≡ true → list_all p (filter q xs) ≡ true
all_filter p q [] all = refl
all_filter p q (x ∷ xs) all =
    here (q x) (and_first (p x) (list_all p xs) all) (all_filter p q xs (and_second (p x) (list_all p xs) all))
  where
    here : (b : Bool) → p x ≡ true → list_all p (filter q xs) ≡ true → list_all p (cond b (x ∷ filter q xs) (filter q xs)) ≡ true
    here true first rest = ap (λ c. c && list_all p (filter q xs)) first ∙ rest
    here false first rest = rest

all_once : (p : ObjectDecl → Bool) (objects : List ObjectDecl) → list_all p objects ≡ true → list_all p (once objects) ≡ true
all_once p [] all = refl
all_once p (o ∷ objects) all =
    ap (λ c. c && list_all p (filter (λ (x : ObjectDecl). not (same_name x.name o.name)) (once objects))) (and_first (p o) (list_all p objects) all)
    ∙ all_filter p (λ (x : ObjectDecl). not (same_name x.name o.name)) (once objects) (all_once p objects (and_second (p o) (list_all p objects) all))

pub made_is_typed : (types : List TypeDecl) (objects : List ObjectDecl) → IsTrue (list_all (is_known types) objects)
    → IsTyped (table_world types objects)
made_is_typed types objects known = record { known = all_once (is_known types) objects known; distinct = objects_distinct objects }
