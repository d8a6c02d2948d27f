-- Costs of effects that are built from their parts.
use Rattle.std.proofs.Common.{◌≡◌, ℕ, ◌+◌, ◌*◌, ◌||◌, List, [], ◌∷◌, ◌++◌, length, refl, sym, ap, ◌∙◌, arith}
use Rattle.std.specs.Prelude.{flat_map}
use Rattle.std.specs.List.{list_any}
use Rattle.plain_list.specs.weighted.Mean.{total}
use denote.Hole.Carrier.{hidden}
use Rattle.ppddl_model.specs.declared.tree.Branch.{Branch}
use Rattle.ppddl_model.specs.declared.tree.Effect.{Effect, Row_of-Effect, end_of-Effect, more_of-Effect, items-the_row-Effect, items_hidden-the_row-Effect-0}
use Rattle.ppddl_model.specs.declared.tree.Effect.{Row_of-Branch, end_of-Branch, more_of-Branch, items-the_row-Branch, items_hidden-the_row-Branch-2}
use Rattle.ppddl_model.specs.declared.tree.Effect.TheBlock.{hidden-the_row-Effect-0, hidden-the_row-Effect-1, hidden-the_row-Branch-2}
use Rattle.ppddl_model.specs.declared.tree.Effect.TheVariants as effect
use Rattle.ppddl_model.specs.declared.tree.Condition.{Condition}
use Rattle.ppddl_model.specs.declared.tree.Param.{Param}
use Rattle.ppddl_model.specs.declared.tree.ValueItem.{ValueItem}
use Rattle.ppddl_model.specs.Objects.{World, Binding, objects_of, bindings}
use Rattle.ppddl_model.specs.Costs.{decreases, any_decreases, branch_decreases, unconditional_cost, unconditional_each}
use Rattle.ground_terms.specs.sizes.Counted.{counted}
use Rattle.ground_terms.specs.sizes.Valued.{with_values}
use Rattle.ground_terms.proofs.lemmas.sizes.Stopping.{counted-mul}

flat_map_same : {X Y : Type 0} (f g : X → List Y) → ((x : X) → f x ≡ g x) → (xs : List X) → flat_map f xs ≡ flat_map g xs
flat_map_same f g each [] = refl
flat_map_same f g each (x ∷ xs) = ap (λ l. l ++ flat_map f xs) (each x) ∙ ap (λ l. g x ++ l) (flat_map_same f g each xs)

any_row : {n : _} (row : Row_of-Effect n) → any_decreases row ≡ list_any decreases (items-the_row-Effect n row)
any_row end_of-Effect = refl
any_row (more_of-Effect e es) = ap (λ b. decreases e || b) (any_row es)

branches_row : {n : _} (row : Row_of-Branch n) → branch_decreases row ≡ list_any (λ (x : Branch). decreases x.effect) (items-the_row-Branch n row)
branches_row end_of-Branch = refl
branches_row (more_of-Branch chance e branches) = ap (λ b. decreases e || b) (branches_row branches)

pub decreases-Both : (es : List Effect) → list_any decreases es ≡ decreases (effect.Both es)
decreases-Both es = sym (any_row (hidden-the_row-Effect-0 es) ∙ ap (list_any decreases) (items_hidden-the_row-Effect-0 es))

pub decreases-Chance : (branches : List Branch) → list_any (λ (x : Branch). decreases x.effect) branches ≡ decreases (effect.Chance branches)
decreases-Chance branches =
    sym (branches_row (hidden-the_row-Branch-2 branches) ∙ ap (list_any (λ (x : Branch). decreases x.effect)) (items_hidden-the_row-Branch-2 branches))

pub decreases-Forall : (ps : List Param) (e : Effect) → decreases e ≡ decreases (effect.Forall ps e)
unfolding hidden-the_row-Effect-1 hidden
decreases-Forall ps e = refl

pub decreases-When : (c : Condition) (e : Effect) → decreases e ≡ decreases (effect.When c e)
unfolding hidden-the_row-Effect-1 hidden
decreases-When c e = refl

module _ (w : World) where
  costs_row : {n : _} (row : Row_of-Effect n) → unconditional_each w row ≡ total (unconditional_cost w) (items-the_row-Effect n row)
  costs_row end_of-Effect = refl
  costs_row (more_of-Effect e es) = ap (λ k. unconditional_cost w e + k) (costs_row es)

pub cost-Both : (w : World) (whole : Effect) (es parts : List Effect) → whole ≡ effect.Both es → parts ≡ es
    → counted (0 + total (unconditional_cost w) parts) ≡ counted (unconditional_cost w whole)
cost-Both w whole es parts is same =
    let sum : unconditional_cost w whole ≡ total (unconditional_cost w) parts
    = ap (unconditional_cost w) is ∙ costs_row w (hidden-the_row-Effect-0 es)
    ∙ ap (total (unconditional_cost w)) (items_hidden-the_row-Effect-0 es ∙ sym same) in
    ap counted (omega arith ∙ sym sum)

pub bindings-valued : (w : World) (values : List ValueItem) (params : List Param) (b : Binding)
    → bindings (with_values w values) params b ≡ bindings w params b
bindings-valued w values [] b = refl
bindings-valued w values (p ∷ params) b =
    flat_map_same (λ o. bindings (with_values w values) params ((p.name, o) ∷ b)) (λ o. bindings w params ((p.name, o) ∷ b))
    (λ o. bindings-valued w values params ((p.name, o) ∷ b)) (objects_of w p)

for_each : (w : World) (ps : List Param) (e : Effect)
    → unconditional_cost w (effect.Forall ps e) ≡ length (bindings w ps []) * unconditional_cost w e
unfolding hidden-the_row-Effect-1 hidden
for_each w ps e = refl

pub cost-Forall : (w : World) (values : List ValueItem) (whole e e' : Effect) (ps qs : List Param) (result many cost : ℕ)
    → whole ≡ effect.Forall ps e → e' ≡ e → qs ≡ ps → result ≡ counted (many * cost) → many ≡ counted (length (bindings w qs []))
    → cost ≡ counted (unconditional_cost (with_values w values) e') → result ≡ counted (unconditional_cost (with_values w values) whole)
cost-Forall w values whole e e' ps qs result many cost is inner variables times ways each =
    let v : World = with_values w values in
    times ∙ ap (λ k. counted (k * cost)) ways ∙ ap (λ k. counted (counted (length (bindings w qs [])) * k)) each
    ∙ counted-mul (length (bindings w qs [])) (unconditional_cost v e')
    ∙ ap (λ l. counted (length l * unconditional_cost v e')) (ap (λ l. bindings w l []) variables ∙ sym (bindings-valued w values ps []))
    ∙ ap (λ k. counted (length (bindings v ps []) * unconditional_cost v k)) inner
    ∙ ap counted (sym (ap (unconditional_cost v) is ∙ for_each v ps e))
