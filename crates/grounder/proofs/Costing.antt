-- An action that costs something where no type has objects costs something in any case.
use Rattle.std.proofs.Common.{◌≡◌, ℕ, zero, suc, ◌+◌, ◌*◌, ◌==◌, ◌<◌, Bool, false, ◌||◌, List, [], ◌∷◌, length, drop, drop-cons, add-one, get_or, refl, sym, ap, ◌∙◌, arith}
use Rattle.std.specs.List.{list_any}
use Rattle.ppddl_model.specs.declared.tree.Action.{Action}
use Rattle.ppddl_model.specs.declared.tree.Effect.{Effect, Row_of-Effect, end_of-Effect, more_of-Effect}
use Rattle.ppddl_model.specs.declared.tree.Effect.TheVariants.{Add, Delete, Both', Forall', When', Chance', Cost, CostOf}
use Rattle.ppddl_model.specs.declared.tree.Param.{Param}
use Rattle.ppddl_model.specs.declared.tree.Task.{Task}
use Rattle.ppddl_model.specs.Costs.{unconditional_cost, unconditional_each}
use Rattle.ppddl_model.specs.Objects.{World, bindings}
use Rattle.ppddl_model.specs.Steps.{world}
use Rattle.ground_terms.specs.sizes.Counted.{counted}
use Rattle.grounder.specs.costs.Charges.{is_free}

-- the same types and values without objects
abbrev pub bare : World → World
bare w = record { types = w.types; objects = []; values = w.values }

module _ (w : World) where
  ways_stay : (params : List Param) (cost less : ℕ) → (cost ≡ 0 → less ≡ 0) → length (bindings w params []) * cost ≡ 0
      → length (bindings (bare w) params []) * less ≡ 0
  ways_stay [] cost less stays none =
      let here : cost ≡ 0 = omega (arith, none) in
      let there : less ≡ 0 = stays here in
      ap (λ k. 1 * k) there
  ways_stay (p ∷ params) cost less stays none =
      let zero_ways : 0 * less ≡ 0 = omega arith in
      zero_ways

  mutual
    pub cost_stays : (e : Effect) → unconditional_cost w e ≡ 0 → unconditional_cost (bare w) e ≡ 0
    cost_stays (Add a) none = refl
    cost_stays (Delete a) none = refl
    cost_stays (Both' shape es) none = costs_stay es none
    cost_stays (Forall' params u (more_of-Effect e end_of-Effect)) none =
        ways_stay params (unconditional_cost w e) (unconditional_cost (bare w) e) (cost_stays e) none
    cost_stays (When' c u (more_of-Effect e end_of-Effect)) none = refl
    cost_stays (Chance' shape branches) none = refl
    cost_stays (Cost amount) none = none
    cost_stays (CostOf a) none = none

    costs_stay : {m : _} (es : Row_of-Effect m) → unconditional_each w es ≡ 0 → unconditional_each (bare w) es ≡ 0
    costs_stay end_of-Effect none = refl
    costs_stay (more_of-Effect e es) none =
        let here : unconditional_cost w e ≡ 0 = omega (arith, none) in
        let later : unconditional_each w es ≡ 0 = omega (arith, none) in
        λ i. cost_stays e here i + costs_stay es later i

-- ---- actions

module _ (task : Task) where
  not_free : (a : Action) (cost : ℕ) → cost ≡ counted (unconditional_cost (bare (world task)) a.effect) → (cost ≡ 0 → ⊥) → is_free task 0 a ≡ false
  not_free a cost is some = apart (unconditional_cost (world task) a.effect) (λ none. some (is ∙ ap counted (cost_stays (world task) a.effect none)))
    where
      apart : (n : ℕ) → (n ≡ 0 → ⊥) → (n + 0 == 0) ≡ false
      apart zero some = absurd (some refl)
      apart (suc n) some = grind arith

  pub none_so_far : (actions : List Action) (i : ℕ) (a : Action) (cost : ℕ) → i < length actions → a ≡ get_or actions i a
      → cost ≡ counted (unconditional_cost (bare (world task)) a.effect) → (cost ≡ 0 → ⊥)
      → list_any (is_free task 0) (drop i actions) ≡ list_any (is_free task 0) task.domain.actions
      → list_any (is_free task 0) (drop (i + 1) actions) ≡ list_any (is_free task 0) task.domain.actions
  none_so_far actions i a cost below item is some before =
      let p : Action → Bool = is_free task 0 in
      ap (λ k. list_any p (drop k actions)) (add-one i)
      ∙ ap (λ b. b || list_any p (drop (suc i) actions)) (sym (ap p (sym item) ∙ not_free a cost is some))
      ∙ ap (list_any p) (sym (drop-cons actions i a below))
      ∙ before

  pub all_dear : (base : ℕ) → (base ≡ 0 → ⊥) → (actions : List Action) → list_any (is_free task base) actions ≡ false
  all_dear base some [] = refl
  all_dear base some (a ∷ actions) =
      ap (λ b. b || list_any (is_free task base) actions) (dear (unconditional_cost (world task) a.effect) base some)
      ∙ all_dear base some actions
    where
      dear : (cost base : ℕ) → (base ≡ 0 → ⊥) → (cost + base == 0) ≡ false
      dear cost zero some = absurd (some refl)
      dear cost (suc base) some = grind arith
