-- How many choices an effect has at most, and what each costs at most, in any numbering.
use Rattle.std.proofs.Common.{◌≡◌, ℕ, suc, ◌+◌, ◌-◌, ◌*◌, ◌/◌, ◌^◌, ◌≤◌, max, Bool, true, false, cond, List, [], ◌∷◌, ◌++◌, map, length, length-append, refl, sym, ap, subst, ◌∙◌, arith}
use Rattle.std.specs.Prelude.{◌&&◌, nat_eq, All, Some, unwrap_or}
use Rattle.std.specs.List.{find, list_all}
use Rattle.std.specs.Option.{option_map}
use Rattle.std.proofs.Math.Nat.{pow-succ', mul-le-mul, pow-le-pow_right}
use Rattle.std.proofs.lemmas.Nat.{pow-add}
use Rattle.std.proofs.lemmas.Bool.{and_parts, leb-true}
use Rattle.std.proofs.lemmas.List.{length-map}
use Rattle.std.proofs.lemmas.List.Elements.{All-nil, All-cons, All-append, All-map, All-weaker}
use denote.Hole.Carrier.{hidden}
use Rattle.plain_list.specs.weighted.Mean.{total, products, positive}
use Rattle.plain_list.proofs.lemmas.weighted.Totals.{total-append, total-map}
use Rattle.plain_list.proofs.lemmas.weighted.Merging.{length-with_items}
use Rattle.ppddl_model.specs.declared.tree.Branch.{Branch}
use Rattle.ppddl_model.specs.declared.tree.Condition.{Condition}
use Rattle.ppddl_model.specs.declared.tree.Effect.{Effect, Row_of-Effect, end_of-Effect, more_of-Effect, items-the_row-Effect, items_hidden-the_row-Effect-0}
use Rattle.ppddl_model.specs.declared.tree.Effect.{Row_of-Branch, end_of-Branch, more_of-Branch, items-the_row-Branch, items_hidden-the_row-Branch-2}
use Rattle.ppddl_model.specs.declared.tree.Effect.TheBlock.{hidden-the_row-Effect-0, hidden-the_row-Effect-1, hidden-the_row-Branch-2}
use Rattle.ppddl_model.specs.declared.tree.Effect.TheVariants.{Add, Delete, Both', Forall', When', Chance', Cost, CostOf}
use Rattle.ppddl_model.specs.declared.tree.Effect.TheVariants as effect
use Rattle.ppddl_model.specs.declared.tree.Param.{Param}
use Rattle.ppddl_model.specs.declared.tree.ValueItem.{ValueItem}
use Rattle.ppddl_model.specs.Objects.{World, Binding, ground_atom, bindings}
use Rattle.ppddl_model.specs.Denominator.{share}
use Rattle.ppddl_model.specs.Functions.{is_value_of, cost_of}
use Rattle.ppddl_model.specs.State.{GroundAtom}
use Rattle.ground_model.specs.declared.action.Choice.{Choice}
use Rattle.ground_model.specs.declared.action.Guarded.{Guarded}
use Rattle.ground_model.specs.declared.condition.GroundCondition.{GroundCondition}
use Rattle.ground_meaning.specs.choices.Numbering.{Numbering, number_of, ground_condition}
use Rattle.ground_meaning.specs.choices.Same.{same_choice}
use Rattle.ground_meaning.specs.choices.Joint.{weight_of, idle, literal, charge, joined, is_empty, own_part, under, guard, scaled, added, with_factor, product_with, with_rest, numbers, own_den, inner_den, den_of, choices, choices_each, branch_choices}
use Rattle.ground_meaning.specs.choices.Joint as joint
use Rattle.ground_meaning.specs.choices.Limits.{widest, widest_each, widest_branches, widest_with, greatest, whole_cost, condition_size, effect_size, effects_size, branches_size}
use Rattle.ground_meaning.proofs.lemmas.choices.Weights.{length-bindings}
use Rattle.ground_meaning.proofs.lemmas.choices.Fitting.{all-with_items, all-products, all-positive}
use Rattle.ground_terms.specs.sizes.Counted.{counted}
use Rattle.ground_terms.specs.sizes.Valued.{with_values}
use Rattle.ground_terms.proofs.lemmas.sizes.CostSteps.{bindings-valued}
use Rattle.grounder.specs.outset.Draws.{branches, branches_each, branches_of, greatest_value, is_modest, are_modest, branches_modest}

-- ---- lists that are merged are no longer

positive-short : (x : Choice) (rest : List Choice) (none : Bool) → length {A = Choice} (elim none [ true ↦ rest | false ↦ x ∷ rest ]) ≤ suc (length rest)
positive-short x rest true = omega arith
positive-short x rest false = omega arith

positive-long : (cs : List Choice) → length (positive weight_of cs) ≤ length cs
positive-long [] = omega arith
positive-long (x ∷ cs) =
    let here = positive-short x (positive weight_of cs) (nat_eq x.weight 0) in
    let later = positive-long cs in
    omega (arith, here, later)

merged-long : (cs : List Choice) → length (joint.merged cs) ≤ length cs
merged-long cs =
    let first = (length-with_items same_choice added [] (positive weight_of cs)).1 in
    let second = positive-long cs in
    omega (arith, first, second)

products-long : (xs ys : List Choice) → length (products joined xs ys) ≡ length xs * length ys
products-long [] ys = omega arith
products-long (x ∷ xs) ys =
    let sum : length ys + length xs * length ys ≡ suc (length xs) * length ys = grind arith in
    length-append (map (joined x) ys) (products joined xs ys)
    ∙ ap (λ k. k + length (products joined xs ys)) (length-map ys (joined x))
    ∙ ap (λ k. length ys + k) (products-long xs ys) ∙ sum

-- ---- powers of two

pub one_power : (k : ℕ) → 1 ≤ 2 ^ k
one_power k = pow-le-pow_right {n = 2} (omega arith) {i = 0} {j = k} (omega arith)

pub power_more : (j k : ℕ) → j ≤ k → 2 ^ j ≤ 2 ^ k
power_more j k less = pow-le-pow_right {n = 2} (omega arith) {i = j} {j = k} less

two_powers : (j k : ℕ) → 2 ^ j + 2 ^ k ≤ 2 ^ (1 + j + k)
two_powers j k =
    let double : 2 ^ suc (j + k) ≡ 2 * 2 ^ (j + k) = pow-succ' 2 (j + k) in
    let same : 1 + j + k ≡ suc (j + k) = omega arith in
    let whole : 2 ^ (1 + j + k) ≡ 2 ^ suc (j + k) = ap (λ e. 2 ^ e) same in
    let left = power_more j (j + k) (omega arith) in
    let right = power_more k (j + k) (omega arith) in
    omega (arith, double, whole, left, right)

-- ---- lists of choices

abbrev Costs : ℕ → Choice → Type 0
Costs most c = whole_cost c ≤ most

pub record IsFew (cs : List Choice) (k most : ℕ) : Type 0 where
  pub long : length cs ≤ 2 ^ k
  pub costs : All (Costs most) cs

wider : (cs : List Choice) (j k a b : ℕ) → j ≤ k → a ≤ b → IsFew cs j a → IsFew cs k b
wider cs j k a b few cheap it = record {
  long = let more = power_more j k few in omega (arith, more, it.long);
  costs = All-weaker (Costs a) (Costs b) (λ c small. omega (arith, small, cheap)) cs it.costs;
}

merged_costs : (most : ℕ) (cs : List Choice) → All (Costs most) cs → All (Costs most) (joint.merged cs)
merged_costs most cs each =
    all-with_items (Costs most) (λ x y here there. here) [] (positive weight_of cs) (All-nil (Costs most)) (all-positive (Costs most) cs each)

joined_costs : (a b : ℕ) (x y : Choice) → Costs a x → Costs b y → Costs (a + b) (joined x y)
joined_costs a b x y here there =
    let parts = total-append (λ (g : Guarded). g.cost) x.guarded y.guarded in
    omega (arith, parts, here, there)

put_few : (done cs : List Choice) (j k a b : ℕ) → IsFew done j a → IsFew cs k b → IsFew (with_factor done cs) (j + k) (a + b)
put_few done cs j k a b first second = record {
  long =
      let whole = merged-long (products joined done cs) in
      let times = products-long done cs in
      let most = mul-le-mul first.long second.long in
      let power = pow-add 2 j k in
      omega (arith, whole, times, most, power);
  costs = merged_costs (a + b) (products joined done cs)
      (all-products (Costs a) (Costs b) (Costs (a + b)) (joined_costs a b) done cs first.costs second.costs);
}

idle_few : IsFew (idle 1 ∷ []) 0 0
idle_few = record {
  long = let one = one_power 0 in omega (arith, one);
  costs = All-cons (Costs 0) (idle 1) [] (omega arith) (All-nil (Costs 0));
}

one_few : (c : Choice) (most : ℕ) → whole_cost c ≤ most → IsFew (c ∷ []) 0 most
one_few c most small = record {
  long = let one = one_power 0 in omega (arith, one);
  costs = All-cons (Costs most) c [] small (All-nil (Costs most));
}

-- one factor for each item of a list
over_few : {X : Type 0} (j k a b : ℕ) (f : X → List Choice) (done : List Choice) (xs : List X) → ((x : X) → IsFew (f x) k b) → IsFew done j a
    → IsFew (product_with done (map f xs)) (j + length xs * k) (a + length xs * b) × (widest_with done (map f xs) ≤ 2 ^ (j + length xs * k))
over_few j k a b f done [] each here = (wider done j (j + 0 * k) a (a + 0 * b) (omega arith) (omega arith) here, omega arith)
over_few j k a b f done (x ∷ xs) each here =
    let next : IsFew (with_factor done (f x)) (j + k) (a + b) = put_few done (f x) j k a b here (each x) in
    let rest = over_few (j + k) k (a + b) b f (with_factor done (f x)) xs each next in
    let few : j + k + length xs * k ≡ j + suc (length xs) * k = grind arith in
    let cheap : a + b + length xs * b ≡ a + suc (length xs) * b = grind arith in
    let more : 2 ^ (j + k) ≤ 2 ^ (j + k + length xs * k) = power_more (j + k) (j + k + length xs * k) (omega arith) in
    let narrow : widest_with (with_factor done (f x)) (map f xs) ≤ 2 ^ (j + k + length xs * k) = rest.1 in
    let both : max (length (with_factor done (f x))) (widest_with (with_factor done (f x)) (map f xs)) ≤ 2 ^ (j + k + length xs * k)
    = omega (arith, next.long, more, narrow) in (
      wider (product_with (with_factor done (f x)) (map f xs)) (j + k + length xs * k) (j + suc (length xs) * k)
          (a + b + length xs * b) (a + suc (length xs) * b) (omega (arith, few)) (omega (arith, cheap)) rest.0,
      subst (λ e. max (length (with_factor done (f x))) (widest_with (with_factor done (f x)) (map f xs)) ≤ 2 ^ e) few both,
    )

greatest_few : {X : Type 0} (most : ℕ) (f : X → ℕ) (xs : List X) → ((x : X) → f x ≤ most) → greatest (map f xs) ≤ most
greatest_few most f [] each = omega arith
greatest_few most f (x ∷ xs) each = let later = greatest_few most f xs each in let here = each x in omega (arith, later, here)

-- under a condition
own_cost : (none : Bool) (x : Guarded) → total (λ (y : Guarded). y.cost) (cond none [] (x ∷ [])) ≤ x.cost
own_cost true x = omega arith
own_cost false x = omega arith

guarded_costs : (t : GroundCondition) (most : ℕ) (c : Choice) → Costs most c → Costs most (guard t c)
guarded_costs t most c small =
    let parts = total-append (λ (x : Guarded). x.cost) (own_part t c) (map (under t) c.guarded) in
    let inner = total-map (λ (x : Guarded). x.cost) (under t) c.guarded in
    let own = own_cost (is_empty c.adds && is_empty c.deletes && nat_eq c.cost 0)
    (record { condition = t; adds = c.adds; deletes = c.deletes; cost = c.cost }) in
    omega (arith, parts, inner, own, small)

guard_few : (t : GroundCondition) (cs : List Choice) (k most : ℕ) → IsFew cs k most → IsFew (map (guard t) cs) k most
guard_few t cs k most it = record {
  long = let same = length-map cs (guard t) in omega (arith, same, it.long);
  costs = All-map (Costs most) (guard t) cs (All-weaker (Costs most) (λ c. Costs most (guard t c)) (guarded_costs t most) cs it.costs);
}

-- ---- effects

module _ (w : World) (n : Numbering) (m d : ℕ) (dear : (t : GroundAtom) → cost_of w t ≤ d) where
  abbrev Few : Effect → Binding → Type 0
  Few e b = IsFew (choices w n e b) (branches w e) (effect_size w e * m) × (widest w n e b ≤ 2 ^ branches w e)

  mutual
    pub few_choices : (e : Effect) → is_modest m d e ≡ true → (b : Binding) → Few e b
    few_choices (Add a) modest b = (one_few (literal (numbers (number_of n (ground_atom b a))) []) (1 * m) (omega arith), omega arith)
    few_choices (Delete a) modest b = (one_few (literal [] (numbers (number_of n (ground_atom b a)))) (2 * m) (omega arith), omega arith)
    few_choices (Both' shape es) modest b =
        let k : ℕ = branches_each w es in
        let all = few_each es modest b 0 0 (idle 1 ∷ []) idle_few in
        let sum : m + effects_size w es * m ≡ (1 + effects_size w es) * m = grind arith in
        let inner : widest_each w n es b ≤ 2 ^ k = all.1 in
        let outer : widest_with (idle 1 ∷ []) (choices_each w n es b) ≤ 2 ^ (0 + k) = all.2 in
        let same : 0 + k ≡ k = omega arith in
        let level : widest_with (idle 1 ∷ []) (choices_each w n es b) ≤ 2 ^ k
        = subst (λ e. widest_with (idle 1 ∷ []) (choices_each w n es b) ≤ 2 ^ e) same outer in (
          wider (choices w n (Both' shape es) b) (0 + k) k (0 + effects_size w es * m) ((1 + effects_size w es) * m) (omega arith) (omega (arith, sum)) all.0,
          omega (arith, inner, level),
        )
    few_choices (Forall' params u (more_of-Effect e end_of-Effect)) modest b =
        let size : ℕ = effect_size w e in
        let k : ℕ = branches w e in
        let ways : ℕ = length (bindings w params []) in
        let bs : List Binding = bindings w params b in
        let all = over_few 0 k 0 (size * m) (choices w n e) (idle 1 ∷ []) bs (λ c. (few_choices e modest c).0) idle_few in
        let number : length bs ≡ ways = length-bindings w params b [] in
        let sum : m + ways * (size * m) ≡ (1 + ways * (size + 0)) * m = grind arith in
        let cost : 0 + length bs * (size * m) ≡ ways * (size * m) = ap (λ j. 0 + j * (size * m)) number ∙ (omega arith) in
        let few : 0 + length bs * k ≡ ways * k = ap (λ j. 0 + j * k) number ∙ (omega arith) in
        let inner : greatest (map (λ c. widest w n e c) bs) ≤ 2 ^ (ways * k) = inner_few bs (λ c. (few_choices e modest c).1) number in
        let outer : widest_with (idle 1 ∷ []) (map (choices w n e) bs) ≤ 2 ^ (ways * k)
        = subst (λ j. widest_with (idle 1 ∷ []) (map (choices w n e) bs) ≤ 2 ^ j) few all.1 in (
          wider (product_with (idle 1 ∷ []) (map (choices w n e) bs)) (0 + length bs * k) (ways * k) (0 + length bs * (size * m))
              ((1 + ways * (size + 0)) * m) (omega (arith, few)) (omega (arith, cost, sum)) all.0,
          omega (arith, inner, outer),
        )
      where
        inner_few : (bs : List Binding) → ((c : Binding) → widest w n e c ≤ 2 ^ branches w e) → length bs ≡ length (bindings w params [])
            → greatest (map (λ c. widest w n e c) bs) ≤ 2 ^ (length (bindings w params []) * branches w e)
        inner_few [] each number = omega arith
        inner_few (c ∷ bs) each number =
            let some : length (bindings w params []) ≡ suc (length bs) = sym number in
            let sum : suc (length bs) * branches w e ≡ branches w e + length bs * branches w e = grind arith in
            let level : length (bindings w params []) * branches w e ≡ branches w e + length bs * branches w e = ap (λ j. j * branches w e) some ∙ sum in
            let more = power_more (branches w e) (length (bindings w params []) * branches w e) (omega (arith, level)) in
            greatest_few (2 ^ (length (bindings w params []) * branches w e)) (λ c. widest w n e c) (c ∷ bs)
            (λ d. let here = each d in omega (arith, here, more))
    few_choices (When' c u (more_of-Effect e end_of-Effect)) modest b =
        let size : ℕ = effect_size w e in
        let tested : ℕ = condition_size w c in
        let inner = few_choices e modest b in
        let sum : (1 + tested) * m + size * m ≡ (1 + tested + (size + 0)) * m = grind arith in (
          wider (map (guard (ground_condition w n c b)) (choices w n e b)) (branches w e) (branches w e) (size * m) ((1 + tested + (size + 0)) * m)
              (omega arith) (omega (arith, sum)) (guard_few (ground_condition w n c b) (choices w n e b) (branches w e) (size * m) inner.0),
          inner.1,
        )
    few_choices (Chance' shape bs) modest b =
        let own : ℕ = own_den bs in
        let inner : ℕ = inner_den w bs in
        let cs : List Choice = branch_choices w n own inner bs b in
        let all = few_branches own inner bs modest b in
        let sum : m + branches_size w bs * m ≡ (1 + branches_size w bs) * m = grind arith in
        let rest : Choice = idle (own * inner - total weight_of cs) in
        let joined_long = length-append cs (rest ∷ []) in
        let short = merged-long (with_rest (own * inner) cs) in
        let more : length cs + 1 ≤ 2 ^ branches_of w bs = all.0 in
        let long : length (joint.merged (with_rest (own * inner) cs)) ≤ 2 ^ branches_of w bs = omega (arith, joined_long, short, more) in
        let wide : widest_branches w n bs b ≤ 2 ^ branches_of w bs = all.2 in (
          record {
            long = long;
            costs = merged_costs ((1 + branches_size w bs) * m) (with_rest (own * inner) cs)
                (All-append (Costs ((1 + branches_size w bs) * m)) cs (rest ∷ [])
                (All-weaker (Costs (branches_size w bs * m)) (Costs ((1 + branches_size w bs) * m)) (λ c small. omega (arith, small, sum)) cs all.1)
                (All-cons (Costs ((1 + branches_size w bs) * m)) rest [] (omega arith) (All-nil (Costs ((1 + branches_size w bs) * m)))));
          },
          omega (arith, wide, long),
        )
    few_choices (Cost amount) modest b =
        let small : amount ≤ m = leb-true amount m modest in
        (one_few (charge amount) (1 * m) (omega (arith, small)), omega arith)
    few_choices (CostOf term) modest b =
        let small : d ≤ m = leb-true d m modest in
        let here : cost_of w (ground_atom b term) ≤ d = dear (ground_atom b term) in
        (one_few (charge (cost_of w (ground_atom b term))) (1 * m) (omega (arith, small, here)), omega arith)

    few_each : {i : _} (es : Row_of-Effect i) → are_modest m d es ≡ true → (b : Binding) (j a : ℕ) (done : List Choice) → IsFew done j a
        → IsFew (product_with done (choices_each w n es b)) (j + branches_each w es) (a + effects_size w es * m)
        × (widest_each w n es b ≤ 2 ^ branches_each w es) × (widest_with done (choices_each w n es b) ≤ 2 ^ (j + branches_each w es))
    few_each end_of-Effect modest b j a done here =
        (wider done j (j + 0) a (a + 0 * m) (omega arith) (omega arith) here, omega arith, omega arith)
    few_each (more_of-Effect e es) modest b j a done here =
        let parts = and_parts (is_modest m d e) (are_modest m d es) modest in
        let first = few_choices e parts.0 b in
        let size : ℕ = effect_size w e in
        let more : ℕ = effects_size w es in
        let k : ℕ = branches w e in
        let r : ℕ = branches_each w es in
        let next : IsFew (with_factor done (choices w n e b)) (j + k) (a + size * m) = put_few done (choices w n e b) j k a (size * m) here first.0 in
        let rest = few_each es parts.1 b (j + k) (a + size * m) (with_factor done (choices w n e b)) next in
        let cost : a + size * m + more * m ≡ a + (size + more) * m = grind arith in
        let few : j + k + r ≡ j + (k + r) = omega arith in
        let one : widest w n e b ≤ 2 ^ k = first.1 in
        let one_more : 2 ^ k ≤ 2 ^ (k + r) = power_more k (k + r) (omega arith) in
        let others : widest_each w n es b ≤ 2 ^ r = rest.1 in
        let others_more : 2 ^ r ≤ 2 ^ (k + r) = power_more r (k + r) (omega arith) in
        let here_more : 2 ^ (j + k) ≤ 2 ^ (j + k + r) = power_more (j + k) (j + k + r) (omega arith) in
        let outer : widest_with (with_factor done (choices w n e b)) (choices_each w n es b) ≤ 2 ^ (j + k + r) = rest.2 in
        let both : max (length (with_factor done (choices w n e b))) (widest_with (with_factor done (choices w n e b)) (choices_each w n es b)) ≤ 2 ^ (j + k + r)
        = omega (arith, next.long, here_more, outer) in (
          wider (product_with (with_factor done (choices w n e b)) (choices_each w n es b)) (j + k + r) (j + (k + r)) (a + size * m + more * m)
              (a + (size + more) * m) (omega (arith, few)) (omega (arith, cost)) rest.0,
          omega (arith, one, one_more, others, others_more),
          subst (λ e'. max (length (with_factor done (choices w n e b))) (widest_with (with_factor done (choices w n e b)) (choices_each w n es b)) ≤ 2 ^ e') few both,
        )

    few_branches : {i : _} (own inner : ℕ) (bs : Row_of-Branch i) → branches_modest m d bs ≡ true → (b : Binding)
        → (length (branch_choices w n own inner bs b) + 1 ≤ 2 ^ branches_of w bs)
        × All (Costs (branches_size w bs * m)) (branch_choices w n own inner bs b)
        × (widest_branches w n bs b ≤ 2 ^ branches_of w bs)
    few_branches own inner end_of-Branch modest b = (let one = one_power 0 in omega (arith, one), All-nil (Costs (0 * m)), omega arith)
    few_branches own inner (more_of-Branch chance e bs) modest b =
        let parts = and_parts (is_modest m d e) (branches_modest m d bs) modest in
        let first = few_choices e parts.0 b in
        let rest = few_branches own inner bs parts.1 b in
        let size : ℕ = effect_size w e in
        let more : ℕ = branches_size w bs in
        let k : ℕ = branches w e in
        let r : ℕ = branches_of w bs in
        let factor : ℕ = share own chance * (inner / den_of w e) in
        let cs : List Choice = map (scaled factor) (choices w n e b) in
        let others : List Choice = branch_choices w n own inner bs b in
        let cost : size * m + more * m ≡ (size + more) * m = grind arith in
        let same : length cs ≡ length (choices w n e b) = length-map (choices w n e b) (scaled factor) in
        let sum : length (cs ++ others) ≡ length cs + length others = length-append cs others in
        let both = two_powers k r in
        let left : 2 ^ k ≤ 2 ^ (1 + k + r) = power_more k (1 + k + r) (omega arith) in
        let right : 2 ^ r ≤ 2 ^ (1 + k + r) = power_more r (1 + k + r) (omega arith) in
        let few : length (choices w n e b) ≤ 2 ^ k = first.0.long in
        let fewer : length others + 1 ≤ 2 ^ r = rest.0 in
        let one : widest w n e b ≤ 2 ^ k = first.1 in
        let wide : widest_branches w n bs b ≤ 2 ^ r = rest.2 in (
          omega (arith, same, sum, both, few, fewer),
          All-append (Costs ((size + more) * m)) cs others
              (All-map (Costs ((size + more) * m)) (scaled factor) (choices w n e b)
              (All-weaker (Costs (size * m)) (λ c. Costs ((size + more) * m) (scaled factor c)) (λ c small. omega (arith, small, cost)) (choices w n e b) first.0.costs))
              (All-weaker (Costs (more * m)) (Costs ((size + more) * m)) (λ c small. omega (arith, small, cost)) others rest.1),
          omega (arith, one, left, right, wide),
        )

-- ---- no function term costs more than the greatest value

pub cost_low : (w : World) (t : GroundAtom) → cost_of w t ≤ greatest_value w.values
cost_low w t = here w.values
  where
    one : (found : Bool) (item : ValueItem) (items : List ValueItem)
        → unwrap_or (option_map (λ (x : ValueItem). x.value) (find (is_value_of t) items)) 0 ≤ greatest_value items
        → unwrap_or (option_map (λ (x : ValueItem). x.value) (cond found (Some item) (find (is_value_of t) items))) 0 ≤ max item.value (greatest_value items)
    one true item items later = omega arith
    one false item items later = omega (arith, later)

    here : (items : List ValueItem) → unwrap_or (option_map (λ (x : ValueItem). x.value) (find (is_value_of t) items)) 0 ≤ greatest_value items
    here [] = omega arith
    here (item ∷ items) = one (is_value_of t item) item items (here items)

-- ---- the values of functions do not matter

module _ (w : World) (values : List ValueItem) where
  abbrev v : World
  v = with_values w values

  mutual
    pub branches_forget : (e : Effect) → branches v e ≡ branches w e
    branches_forget (Add a) = refl
    branches_forget (Delete a) = refl
    branches_forget (Both' shape es) = each_forget es
    branches_forget (Forall' params u (more_of-Effect e end_of-Effect)) =
        ap (λ k. length k * branches v e) (bindings-valued w values params []) ∙ ap (λ k. length (bindings w params []) * k) (branches_forget e)
    branches_forget (When' c u (more_of-Effect e end_of-Effect)) = branches_forget e
    branches_forget (Chance' shape bs) = of_forget bs
    branches_forget (Cost amount) = refl
    branches_forget (CostOf a) = refl

    each_forget : {j : _} (es : Row_of-Effect j) → branches_each v es ≡ branches_each w es
    each_forget end_of-Effect = refl
    each_forget (more_of-Effect e es) =
        ap (λ k. k + branches_each v es) (branches_forget e) ∙ ap (λ k. branches w e + k) (each_forget es)

    of_forget : {j : _} (bs : Row_of-Branch j) → branches_of v bs ≡ branches_of w bs
    of_forget end_of-Branch = refl
    of_forget (more_of-Branch chance e bs) =
        ap (λ k. 1 + k + branches_of v bs) (branches_forget e) ∙ ap (λ k. 1 + branches w e + k) (of_forget bs)

-- ---- by their parts

module _ (w : World) where
  each_row : {j : _} (row : Row_of-Effect j) → branches_each w row ≡ total (branches w) (items-the_row-Effect j row)
  each_row end_of-Effect = refl
  each_row (more_of-Effect e es) = ap (λ k. branches w e + k) (each_row es)

  of_row : {j : _} (row : Row_of-Branch j) → branches_of w row ≡ total (λ (x : Branch). 1 + branches w x.effect) (items-the_row-Branch j row)
  of_row end_of-Branch = refl
  of_row (more_of-Branch chance e bs) = ap (λ k. 1 + branches w e + k) (of_row bs)

pub begun-Both : (w : World) (whole : Effect) (es parts : List Effect) → whole ≡ effect.Both es → parts ≡ es
    → counted (0 + total (branches w) parts) ≡ counted (branches w whole)
begun-Both w whole es parts is same =
    let sum : branches w whole ≡ total (branches w) parts
    = ap (branches w) is ∙ each_row w (hidden-the_row-Effect-0 es) ∙ ap (total (branches w)) (items_hidden-the_row-Effect-0 es ∙ sym same) in
    ap counted (omega arith ∙ sym sum)

pub begun-Chance : (w : World) (whole : Effect) (bs parts : List Branch) → whole ≡ effect.Chance bs → parts ≡ bs
    → counted (0 + total (λ (x : Branch). 1 + branches w x.effect) parts) ≡ counted (branches w whole)
begun-Chance w whole bs parts is same =
    let sum : branches w whole ≡ total (λ (x : Branch). 1 + branches w x.effect) parts
    = ap (branches w) is ∙ of_row w (hidden-the_row-Branch-2 bs)
    ∙ ap (total (λ (x : Branch). 1 + branches w x.effect)) (items_hidden-the_row-Branch-2 bs ∙ sym same) in
    ap counted (omega arith ∙ sym sum)

for_each : (w : World) (ps : List Param) (e : Effect) → branches w (effect.Forall ps e) ≡ length (bindings w ps []) * branches w e
unfolding hidden-the_row-Effect-1 hidden
for_each w ps e = refl

pub branches-For : (w : World) (whole e e' : Effect) (ps qs : List Param) → whole ≡ effect.Forall ps e → e' ≡ e → qs ≡ ps
    → length (bindings w qs []) * branches w e' ≡ branches w whole
branches-For w whole e e' ps qs is inner variables =
    (λ j. length (bindings w (variables j) []) * branches w (inner j)) ∙ sym (ap (branches w) is ∙ for_each w ps e)

pub branches-When : (w : World) (c : Condition) (e : Effect) → branches w e ≡ branches w (effect.When c e)
unfolding hidden-the_row-Effect-1 hidden
branches-When w c e = refl

modest_row : {j : _} (most dearest : ℕ) (row : Row_of-Effect j) → are_modest most dearest row ≡ list_all (is_modest most dearest) (items-the_row-Effect j row)
modest_row most dearest end_of-Effect = refl
modest_row most dearest (more_of-Effect e es) = ap (λ b. is_modest most dearest e && b) (modest_row most dearest es)

branches_row : {j : _} (most dearest : ℕ) (row : Row_of-Branch j)
    → branches_modest most dearest row ≡ list_all (λ (x : Branch). is_modest most dearest x.effect) (items-the_row-Branch j row)
branches_row most dearest end_of-Branch = refl
branches_row most dearest (more_of-Branch chance e bs) = ap (λ b. is_modest most dearest e && b) (branches_row most dearest bs)

pub modest-Both : (most dearest : ℕ) (es : List Effect) → list_all (is_modest most dearest) es ≡ is_modest most dearest (effect.Both es)
modest-Both most dearest es =
    sym (modest_row most dearest (hidden-the_row-Effect-0 es) ∙ ap (list_all (is_modest most dearest)) (items_hidden-the_row-Effect-0 es))

pub modest-Chance : (most dearest : ℕ) (bs : List Branch) → list_all (λ (x : Branch). is_modest most dearest x.effect) bs ≡ is_modest most dearest (effect.Chance bs)
modest-Chance most dearest bs =
    sym (branches_row most dearest (hidden-the_row-Branch-2 bs) ∙ ap (list_all (λ (x : Branch). is_modest most dearest x.effect)) (items_hidden-the_row-Branch-2 bs))

pub modest-Forall : (most dearest : ℕ) (ps : List Param) (e : Effect) → is_modest most dearest e ≡ is_modest most dearest (effect.Forall ps e)
unfolding hidden-the_row-Effect-1 hidden
modest-Forall most dearest ps e = refl

pub modest-When : (most dearest : ℕ) (c : Condition) (e : Effect) → is_modest most dearest e ≡ is_modest most dearest (effect.When c e)
unfolding hidden-the_row-Effect-1 hidden
modest-When most dearest c e = refl
