-- Joint choices within the limits are those of a ground action.
use Rattle.std.proofs.Common.{◌≡◌, ℕ, zero, suc, ◌+◌, ◌*◌, ◌/◌, ◌<◌, ◌≤◌, max, Bool, true, false, List, [], ◌∷◌}
use Rattle.std.proofs.Common.{map, length, refl, sym, ap, subst, inl, inr, ◌∙◌, arith}
use Rattle.std.specs.Prelude.{All, nat_eq}
use Rattle.std.specs.Int.{◌∣◌}
use Rattle.std.specs.List.{list_any}
use Rattle.std.proofs.Math.Nat.{div-le_self, div-mul_cancel, eq_of_mul-eq-mul_right}
use Rattle.std.proofs.lemmas.Bool.{cases_lt, ltb-false, eqb-false, or_parts}
use Rattle.std.proofs.lemmas.List.{length-map}
use Rattle.std.proofs.lemmas.List.Elements.{All-nil, All-cons, All-head, All-tail, All-map, All-weaker, All-contains}
use Rattle.std.proofs.lemmas.List.Sums.{AllPass-from_list_all}
use Rattle.plain_list.specs.weighted.Mean.{total, products, positive}
use Rattle.plain_list.proofs.lemmas.weighted.Totals.{total-map, total-same, total-times}
use Rattle.ppddl_model.specs.declared.tree.Effect.{Effect, Row_of-Effect, end_of-Effect, more_of-Effect}
use Rattle.ppddl_model.specs.declared.tree.Effect.TheVariants.{Add, Delete, Both', Forall', When', Chance', Cost, CostOf}
use Rattle.ppddl_model.specs.State.{GroundAtom}
use Rattle.ppddl_model.specs.Objects.{World, Binding, named, ground_atom, bindings}
use Rattle.ppddl_model.specs.Functions.{has_value, cost_of, function_terms, terms_each}
use Rattle.ppddl_model.specs.Draws.{EachDraw}
use Rattle.ppddl_model.specs.Chances.{SumWithinOne}
use Rattle.ppddl_model.specs.Costs.{unconditional_cost, unconditional_each}
use Rattle.ppddl_model.proofs.Values.{least_value-le}
use Rattle.ground_model.specs.declared.action.Choice.{Choice}
use Rattle.ground_model.specs.declared.limits.TheConstants.{MOST_CHOICES, MOST_CHOICE_COST}
use Rattle.ground_model.specs.Invariant.{IsChoice}
use Rattle.ground_meaning.specs.choices.Numbering.{Numbering, ground_condition}
use Rattle.ground_meaning.specs.choices.Joint.{weight_of, idle, charge, joined, guard, charged, reduced, with_factor}
use Rattle.ground_meaning.specs.choices.Joint.{product_with, with_rest, own_den, inner_den, den_of, choices, choices_each}
use Rattle.ground_meaning.specs.choices.Joint.{branch_choices, divisor, joint, charged_choices}
use Rattle.ground_meaning.specs.choices.Joint as joint
use Rattle.ground_meaning.specs.choices.Limits.{widest, widest_with, is_dear, whole_cost}
use Rattle.ground_meaning.specs.choices.Laws.{JointMeetsInvariant}
use Rattle.ground_meaning.proofs.lemmas.choices.Lists.{All-both, All-from_map, All-append_left, All-append_right, All-from_flat_map}
use Rattle.ground_meaning.proofs.lemmas.choices.Weights.{length-bindings, total-choices, den_positive}
use Rattle.ground_meaning.proofs.lemmas.choices.Reduced.{divisor_divides_weights, divisor_positive, den_restored}
use Rattle.ground_meaning.proofs.lemmas.choices.Fitting.{all-with_items, all-products, all-positive, choices_fit}

-- ---- weights are positive

abbrev Weighs : Choice → Type 0
Weighs c = 0 < c.weight

not_zero : (k : ℕ) → nat_eq k 0 ≡ false → 0 < k
not_zero k e = elim (cases_lt 0 k) [
  | inl above ↦ above
  | inr low ↦ absurd (eqb-false k 0 e (omega (arith, low)))
]

kept_weighs : (x : Choice) (rest : List Choice) (none : Bool) → nat_eq x.weight 0 ≡ none → All Weighs rest
    → All Weighs (elim none [ true ↦ rest | false ↦ x ∷ rest ])
kept_weighs x rest true e each = each
kept_weighs x rest false e each = All-cons Weighs x rest (not_zero x.weight e) each

positive_weigh : (xs : List Choice) → All Weighs (positive weight_of xs)
positive_weigh [] = All-nil Weighs
positive_weigh (x ∷ xs) = kept_weighs x (positive weight_of xs) (nat_eq x.weight 0) refl (positive_weigh xs)

merged_weigh : (cs : List Choice) → All Weighs (joint.merged cs)
merged_weigh cs =
    all-with_items Weighs (λ x y here there. omega (arith, here)) [] (positive weight_of cs) (All-nil Weighs) (positive_weigh cs)

pub product_weigh : (done : List Choice) (css : List (List Choice)) → All Weighs done → All Weighs (product_with done css)
product_weigh done [] each = each
product_weigh done (cs ∷ css) each = product_weigh (with_factor done cs) css (merged_weigh (products joined done cs))

pub one_weighs : (c : Choice) → 0 < c.weight → All Weighs (c ∷ [])
one_weighs c above = All-cons Weighs c [] above (All-nil Weighs)

-- ---- lists are no longer than the longest merged one

pub product_length : (done : List Choice) (css : List (List Choice))
    → length (product_with done css) ≤ max (length done) (widest_with done css)
product_length done [] = omega arith
product_length done (cs ∷ css) =
    let rest = product_length (with_factor done cs) css in
    omega (arith, rest)

module _ (w : World) (n : Numbering) where
  pub choices_weigh : (e : Effect) (b : Binding) → All Weighs (choices w n e b)
  choices_weigh (Add a) b = one_weighs _ (omega arith)
  choices_weigh (Delete a) b = one_weighs _ (omega arith)
  choices_weigh (Both' shape es) b = product_weigh (idle 1 ∷ []) (choices_each w n es b) (one_weighs (idle 1) (omega arith))
  choices_weigh (Forall' params u (more_of-Effect e end_of-Effect)) b =
      product_weigh (idle 1 ∷ []) (map (λ b'. choices w n e b') (bindings w params b)) (one_weighs (idle 1) (omega arith))
  choices_weigh (When' c u (more_of-Effect e end_of-Effect)) b =
      All-map Weighs (guard (ground_condition w n c b)) (choices w n e b) (choices_weigh e b)
  choices_weigh (Chance' shape branches) b =
      merged_weigh (with_rest (own_den branches * inner_den w branches)
      (branch_choices w n (own_den branches) (inner_den w branches) branches b))
  choices_weigh (Cost v) b = one_weighs _ (omega arith)
  choices_weigh (CostOf a) b = one_weighs _ (omega arith)

  pub choices_length : (e : Effect) (b : Binding) → length (choices w n e b) ≤ max 1 (widest w n e b)
  choices_length (Add a) b = omega arith
  choices_length (Delete a) b = omega arith
  choices_length (Both' shape es) b =
      let whole = product_length (idle 1 ∷ []) (choices_each w n es b) in
      omega (arith, whole)
  choices_length (Forall' params u (more_of-Effect e end_of-Effect)) b =
      let whole = product_length (idle 1 ∷ []) (map (λ b'. choices w n e b') (bindings w params b)) in
      omega (arith, whole)
  choices_length (When' c u (more_of-Effect e end_of-Effect)) b =
      let same = length-map (choices w n e b) (guard (ground_condition w n c b)) in
      omega (arith, same, choices_length e b)
  choices_length (Chance' shape branches) b = omega arith
  choices_length (Cost v) b = omega arith
  choices_length (CostOf a) b = omega arith

-- ---- costs

abbrev Costs : ℕ → Choice → Type 0
Costs least c = least ≤ c.cost

module _ (w : World) (n : Numbering) where
  abbrev is_valued : GroundAtom → Type 0
  is_valued t = has_value w t ≡ true

  merged_cost : (least : ℕ) (cs : List Choice) → All (Costs least) cs → All (Costs least) (joint.merged cs)
  merged_cost least cs each =
      all-with_items (Costs least) (λ x y here there. here) [] (positive weight_of cs) (All-nil (Costs least))
      (all-positive (Costs least) cs each)

  factor_cost : (k m : ℕ) (xs ys : List Choice) → All (Costs k) xs → All (Costs m) ys → All (Costs (k + m)) (with_factor xs ys)
  factor_cost k m xs ys left right =
      merged_cost (k + m) (products joined xs ys)
      (all-products (Costs k) (Costs m) (Costs (k + m)) (λ x y here there. omega (arith, here, there)) xs ys left right)

  over_cost : {X : Type 0} (k m : ℕ) (f : X → List Choice) (done : List Choice) (xs : List X)
      → All (λ x. All (Costs m) (f x)) xs → All (Costs k) done
      → All (Costs (k + length xs * m)) (product_with done (map f xs))
  over_cost k m f done [] each here i d below = omega (arith, here i d below)
  over_cost k m f done (x ∷ xs) each here i d below =
      let sum : k + m + length xs * m ≡ k + suc (length xs) * m = grind arith in
      let rest = over_cost (k + m) m f (with_factor done (f x)) xs (All-tail (λ y. All (Costs m) (f y)) x xs each)
      (factor_cost k m done (f x) here (All-head (λ y. All (Costs m) (f y)) x xs each)) in
      omega (arith, sum, rest i d below)

  one_costs : (least : ℕ) (c : Choice) → least ≤ c.cost → All (Costs least) (c ∷ [])
  one_costs least c above = All-cons (Costs least) c [] above (All-nil (Costs least))

  mutual
    choices_cost : (e : Effect) (b : Binding) → All is_valued (function_terms w e b)
        → All (Costs (unconditional_cost w e)) (choices w n e b)
    choices_cost (Add a) b valued i d below = omega arith
    choices_cost (Delete a) b valued i d below = omega arith
    choices_cost (Both' shape es) b valued i d below =
        omega (arith, each_cost es b valued 0 (idle 1 ∷ []) (λ _ _ _. omega arith) i d below)
    choices_cost (Forall' params u (more_of-Effect e end_of-Effect)) b valued i d below =
        let each : All (λ c. All (Costs (unconditional_cost w e)) (choices w n e c)) (bindings w params b)
        = All-weaker (λ c. All is_valued (function_terms w e c)) (λ c. All (Costs (unconditional_cost w e)) (choices w n e c))
        (λ c. choices_cost e c) (bindings w params b) (All-from_flat_map is_valued (λ c. function_terms w e c) (bindings w params b) valued) in
        let all = over_cost 0 (unconditional_cost w e) (choices w n e) (idle 1 ∷ []) (bindings w params b) each (λ _ _ _. omega arith) in
        let number = ap (λ k. k * unconditional_cost w e) (length-bindings w params b []) in
        omega (arith, number, all i d below)
    choices_cost (When' c u (more_of-Effect e end_of-Effect)) b valued i d below = omega arith
    choices_cost (Chance' shape branches) b valued i d below = omega arith
    choices_cost (Cost v) b valued i d below = one_costs v (charge v) (omega arith) i d below
    choices_cost (CostOf a) b valued i d below =
        let here : is_valued (ground_atom b a) = All-head is_valued (ground_atom b a) [] valued in
        one_costs (unconditional_cost w (CostOf a)) (charge (cost_of w (ground_atom b a)))
        (least_value-le w a.predicate (map (named b) a.args) here) i d below

    each_cost : {m : _} (es : Row_of-Effect m) (b : Binding) → All is_valued (terms_each w es b) → (k : ℕ) (done : List Choice)
        → All (Costs k) done → All (Costs (k + unconditional_each w es)) (product_with done (choices_each w n es b))
    each_cost end_of-Effect b valued k done here i d below = omega (arith, here i d below)
    each_cost (more_of-Effect e es) b valued k done here i d below =
        let first = All-append_left is_valued (function_terms w e b) (terms_each w es b) valued in
        let rest = each_cost es b (All-append_right is_valued (function_terms w e b) (terms_each w es b) valued)
        (k + unconditional_cost w e) (with_factor done (choices w n e b))
        (factor_cost k (unconditional_cost w e) done (choices w n e b) here (choices_cost e b first)) in
        omega (arith, rest i d below)

-- ---- all of it

dear_none : (cs : List Choice) → list_any is_dear cs ≡ false → All (λ c. whole_cost c ≤ MOST_CHOICE_COST) cs
dear_none [] none = All-nil (λ c. whole_cost c ≤ MOST_CHOICE_COST)
dear_none (c ∷ cs) none =
    let parts = or_parts (is_dear c) (list_any is_dear cs) none in
    All-cons (λ x. whole_cost x ≤ MOST_CHOICE_COST) c cs (ltb-false MOST_CHOICE_COST (whole_cost c) parts.0) (dear_none cs parts.1)

factor_above : (d k : ℕ) → 0 < d * k → 1 ≤ d
factor_above zero k above = absurd (omega (arith, above))
factor_above (suc d) k above = omega arith

-- a weight that is divided
pub divided_weighs : (weight g : ℕ) → g ∣ weight → 0 < weight → 0 < weight / g
divided_weighs weight g divides above = elim (cases_lt 0 (weight / g)) [
  | inl positive ↦ positive
  | inr low ↦
      let none : weight / g ≡ 0 = omega (arith, low) in
      let whole : 0 * g ≡ weight = ap (λ t. t * g) (sym none) ∙ div-mul_cancel g divides in
      absurd (omega (arith, whole, above))
]

module _ (w : World) (n : Numbering) (e : Effect) (b : Binding) (base : ℕ) where
  abbrev g : ℕ
  g = divisor w n e b

  abbrev cs : List Choice
  cs = choices w n e b

  -- each joint choice is a choice, charged and reduced
  of_each : (P : Choice → Type 0) → All (λ c. P (reduced g (charged base c))) cs → All P (joint w n e b base).list
  of_each P each = All-map P (reduced g) (map (charged base) cs) (All-map (λ c. P (reduced g c)) (charged base) cs each)

  weights_sum : EachDraw SumWithinOne e → total weight_of (joint w n e b base).list ≡ (joint w n e b base).den
  weights_sum fair =
      eq_of_mul-eq-mul_right g (divisor_positive w n e b base fair) (total weight_of (joint w n e b base).list) (joint w n e b base).den
      (ap (λ t. t * g) (total-map weight_of (reduced g) (map (charged base) cs) ∙ total-map (λ (c : Choice). c.weight / g) (charged base) cs)
      ∙ sym (total-times (λ (c : Choice). c.weight / g) g cs)
      ∙ total-same (λ (c : Choice). c.weight / g * g) weight_of cs
      (λ c inside. div-mul_cancel g (All-contains (λ (x : Choice). g ∣ x.weight) cs c (divisor_divides_weights w n e b base) inside))
      ∙ total-choices w n e fair b ∙ sym (den_restored w n e b base))

  weigh : All (λ (c : Choice). 0 < c.weight / g) cs
  weigh = All-both (λ (c : Choice). g ∣ c.weight) Weighs (λ (c : Choice). 0 < c.weight / g)
      (λ c divides above. divided_weighs c.weight g divides above) cs (divisor_divides_weights w n e b base) (choices_weigh w n e b)

pub meets_invariant : (w : World) (n : Numbering) → JointMeetsInvariant w n
meets_invariant w n e fair b valued base least within =
    let j = joint w n e b base in
    let cs : List Choice = choices w n e b in
    let g : ℕ = divisor w n e b in
    let valued_each : All (λ t. has_value w t ≡ true) (function_terms w e b)
    = AllPass-from_list_all (has_value w) (function_terms w e b) valued in
    let costs : All (λ (c : Choice). unconditional_cost w e ≤ c.cost) cs = choices_cost w n e b valued_each in
    let cheap : All (λ c. whole_cost (charged base c) ≤ MOST_CHOICE_COST) cs
    = All-from_map (λ c. whole_cost c ≤ MOST_CHOICE_COST) (charged base) cs (dear_none (charged_choices w n e b base) within.costs) in
    let den_above : 0 < j.den * g = subst (λ t. 0 < t) (sym (den_restored w n e b base)) (den_positive w e fair) in
    let small : length j.list ≤ MOST_CHOICES
    = subst (λ t. t ≤ MOST_CHOICES) (sym (length-map (map (charged base) cs) (reduced g) ∙ length-map cs (charged base)))
    (omega (arith, choices_length w n e b, within.choices)) in (
      record {
        positive = of_each w n e b base (λ c. 0 < c.weight) (weigh w n e b base);
        sum = weights_sum w n e b base fair;
        den_above = factor_above j.den g den_above;
        den_within = omega (arith, div-le_self (den_of w e) g, within.denominator);
      },
      of_each w n e b base (IsChoice (length n.atoms))
          (λ i d below. record {
            literals = (choices_fit w n e b i d below).literals;
            guarded = (choices_fit w n e b i d below).guarded;
            cost_above = omega (arith, least, costs i d below);
            cost_within = cheap i d below;
          }),
      small,
    )
