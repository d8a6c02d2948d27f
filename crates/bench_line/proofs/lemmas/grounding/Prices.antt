-- What the dearest choice of a list costs with all its guarded parts.
--     dearest cs      the greatest cost of a choice of cs
use Rattle.std.proofs.Common.{◌≡◌, ℕ, ◌+◌, ◌≤◌, max, true, false, List, [], ◌∷◌, ◌++◌, map, refl, ap, arith}
use Rattle.std.specs.Prelude.{nat_eq}
use Rattle.std.specs.List.{list_any}
use Rattle.std.proofs.lemmas.Bool.{le-ltb, or_from}
use Rattle.plain_list.specs.weighted.Mean.{products, positive}
use Rattle.plain_list.specs.weighted.Merged.{with_item, with_items}
use Rattle.plain_list.proofs.lemmas.weighted.Totals.{total-append}
use Rattle.ground_model.specs.declared.action.Choice.{Choice}
use Rattle.ground_model.specs.declared.action.Guarded.{Guarded}
use Rattle.ground_model.specs.declared.limits.TheConstants.{MOST_CHOICE_COST}
use Rattle.ground_meaning.specs.choices.Same.{same_choice}
use Rattle.ground_meaning.specs.choices.Joint.{weight_of, idle, joined, added, scaled, charged, merged, with_factor, product_of}
use Rattle.ground_meaning.specs.choices.Limits.{whole_cost, is_dear}

abbrev pub dearest : List Choice → ℕ
dearest [] = 0
dearest (c ∷ cs) = max (whole_cost c) (dearest cs)

pub dearest-append : (xs ys : List Choice) → dearest (xs ++ ys) ≡ max (dearest xs) (dearest ys)
dearest-append [] ys = omega arith
dearest-append (x ∷ xs) ys = omega (arith, dearest-append xs ys)

dearest-with_item : (xs : List Choice) (y : Choice) → dearest (with_item same_choice added xs y) ≤ max (dearest xs) (whole_cost y)
dearest-with_item [] y = omega arith
dearest-with_item (x ∷ xs) y =
    let rest : dearest (with_item same_choice added xs y) ≤ max (dearest xs) (whole_cost y) = dearest-with_item xs y in
    elim (same_choice x y)
    as (λ like. dearest (elim like [ true ↦ added x y ∷ xs | false ↦ x ∷ with_item same_choice added xs y ])
    ≤ max (max (whole_cost x) (dearest xs)) (whole_cost y)) [
      | true ↦ omega arith
      | false ↦ omega (arith, rest)
    ]

dearest-with_items : (xs ys : List Choice) → dearest (with_items same_choice added xs ys) ≤ max (dearest xs) (dearest ys)
dearest-with_items xs [] = omega arith
dearest-with_items xs (y ∷ ys) =
    omega (arith, dearest-with_items (with_item same_choice added xs y) ys, dearest-with_item xs y)

dearest-positive : (cs : List Choice) → dearest (positive weight_of cs) ≤ dearest cs
dearest-positive [] = omega arith
dearest-positive (c ∷ cs) =
    let rest : dearest (positive weight_of cs) ≤ dearest cs = dearest-positive cs in
    elim (nat_eq c.weight 0)
    as (λ none. dearest (elim none [ true ↦ positive weight_of cs | false ↦ c ∷ positive weight_of cs ]) ≤ max (whole_cost c) (dearest cs)) [
      | true ↦ omega (arith, rest)
      | false ↦ omega (arith, rest)
    ]

pub dearest-merged : (cs : List Choice) → dearest (merged cs) ≤ dearest cs
dearest-merged cs = omega (arith, dearest-with_items [] (positive weight_of cs), dearest-positive cs)

pub dearest-scaled : (k : ℕ) (cs : List Choice) → dearest (map (scaled k) cs) ≡ dearest cs
dearest-scaled k [] = refl
dearest-scaled k (c ∷ cs) = ap (λ most. max (whole_cost c) most) (dearest-scaled k cs)

-- ---- products

price-joined : (x y : Choice) → whole_cost (joined x y) ≡ whole_cost x + whole_cost y
price-joined x y = omega (arith, total-append (λ (part : Guarded). part.cost) x.guarded y.guarded)

dearest-joined : (x : Choice) (ys : List Choice) → dearest (map (joined x) ys) ≤ whole_cost x + dearest ys
dearest-joined x [] = omega arith
dearest-joined x (y ∷ ys) = omega (arith, price-joined x y, dearest-joined x ys)

dearest-products : (xs ys : List Choice) → dearest (products joined xs ys) ≤ dearest xs + dearest ys
dearest-products [] ys = omega arith
dearest-products (x ∷ xs) ys =
    omega (arith, dearest-append (map (joined x) ys) (products joined xs ys), dearest-joined x ys, dearest-products xs ys)

dearest-factor : (xs ys : List Choice) → dearest (with_factor xs ys) ≤ dearest xs + dearest ys
dearest-factor xs ys = omega (arith, dearest-merged (products joined xs ys), dearest-products xs ys)

pub dearest-product : (xs ys : List Choice) → dearest (product_of (xs ∷ ys ∷ [])) ≤ dearest xs + dearest ys
dearest-product xs ys =
    omega (arith, dearest-factor (with_factor (idle 1 ∷ []) xs) ys, dearest-factor (idle 1 ∷ []) xs)

-- ---- within the limit

pub none_is_dear : (base : ℕ) (cs : List Choice) → dearest cs + base ≤ MOST_CHOICE_COST → list_any is_dear (map (charged base) cs) ≡ false
none_is_dear base [] within = refl
none_is_dear base (c ∷ cs) within =
    or_from (is_dear (charged base c)) (list_any is_dear (map (charged base) cs))
    (le-ltb MOST_CHOICE_COST (whole_cost (charged base c)) (omega (arith, within)))
    (none_is_dear base cs (omega (arith, within)))
