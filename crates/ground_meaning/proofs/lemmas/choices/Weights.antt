-- The weights of the choices of an effect sum to its denominator, which is not 0.
use Rattle.std.proofs.Common.{◌≡◌, ℕ, zero, suc, ◌+◌, ◌-◌, ◌*◌, ◌/◌, ◌^◌, ◌<◌, ◌≤◌, List, [], ◌∷◌, map}
use Rattle.std.proofs.Common.{length, length-append, refl, sym, ap, subst, ◌∙◌, arith}
use Rattle.std.specs.Prelude.{All, flat_map}
use Rattle.std.specs.Int.{◌∣◌}
use Rattle.std.proofs.Math.Nat.{mul_comm, mul_assoc, div-mul_cancel, pow-zero, pow-succ', mul-pos, mul-le-mul_right}
use Rattle.std.proofs.lemmas.List.Elements.{All-nil, All-cons, All-head, All-tail}
use Rattle.exact_fraction.proofs.DivisorLemmas.{IsLeastMultipleOf-common_multiple, common_multiple-pos}
use Rattle.plain_list.specs.weighted.Mean.{total, products, positive}
use Rattle.plain_list.specs.weighted.Operations.{IsProduct, IsMerge}
use Rattle.plain_list.proofs.lemmas.weighted.Totals.{total-append, total-map, total-same, total-times}
use Rattle.plain_list.proofs.lemmas.weighted.Means.{total-products, total-positive}
use Rattle.plain_list.proofs.lemmas.weighted.Merging.{total-merged}
use Rattle.ppddl_model.specs.declared.tree.Effect.{Effect, Row_of-Effect, end_of-Effect, more_of-Effect}
use Rattle.ppddl_model.specs.declared.tree.Effect.{Row_of-Branch, end_of-Branch, more_of-Branch}
use Rattle.ppddl_model.specs.declared.tree.Effect.TheVariants.{Add, Delete, Both', Forall', When', Chance', Cost, CostOf}
use Rattle.ppddl_model.specs.declared.tree.Param.{Param}
use Rattle.ppddl_model.specs.Objects.{World, Binding, objects_of, bindings}
use Rattle.ppddl_model.specs.Draws.{branch_chances, chance_lists, lists_each, lists_branches, EachDraw}
use Rattle.ppddl_model.specs.Denominator.{share}
use Rattle.ppddl_model.specs.Chances.{SumWithinOne}
use Rattle.ground_model.specs.declared.action.Choice.{Choice}
use Rattle.ground_meaning.specs.choices.Numbering.{Numbering, ground_condition}
use Rattle.ground_meaning.specs.choices.Same.{same_choice}
use Rattle.ground_meaning.specs.choices.Joint.{weight_of, idle, joined, guard, scaled, added, merged, with_factor}
use Rattle.ground_meaning.specs.choices.Joint.{product_with, with_rest, own_den, inner_den, den_of, den_of_each, dens_of}
use Rattle.ground_meaning.specs.choices.Joint.{choices, choices_each, branch_choices}
use Rattle.ground_meaning.proofs.lemmas.choices.Lists.{All-append_left, All-append_right}
use Rattle.ground_meaning.proofs.lemmas.choices.Shares.{shares_of_own, own_den_positive}

-- ---- bindings

same_length-flat_map : {X Y Z : Type 0} (f : X → List Y) (g : X → List Z) → ((x : X) → length (f x) ≡ length (g x))
    → (xs : List X) → length (flat_map f xs) ≡ length (flat_map g xs)
same_length-flat_map f g each [] = refl
same_length-flat_map f g each (x ∷ xs) =
    length-append (f x) (flat_map f xs) ∙ ap (λ k. k + length (flat_map f xs)) (each x)
    ∙ ap (λ k. length (g x) + k) (same_length-flat_map f g each xs) ∙ sym (length-append (g x) (flat_map g xs))

-- the number of bindings does not depend on what is bound before
pub length-bindings : (w : World) (params : List Param) (b c : Binding)
    → length (bindings w params b) ≡ length (bindings w params c)
length-bindings w [] b c = refl
length-bindings w (p ∷ params) b c =
    same_length-flat_map (λ o. bindings w params ((p.name, o) ∷ b)) (λ o. bindings w params ((p.name, o) ∷ c))
    (λ o. length-bindings w params ((p.name, o) ∷ b) ((p.name, o) ∷ c)) (objects_of w p)

-- ---- operations on lists of choices

one_key : Choice → Unit {0}
one_key c = tt

joined_is_product : IsProduct weight_of one_key joined (λ x y. tt)
joined_is_product = record { weights = λ x y. refl; keys = λ x y. refl }

added_is_merge : IsMerge weight_of one_key same_choice added
added_is_merge = record { weights = λ x y _. refl; keys = λ x y _. refl; same_keys = λ x y _. refl }

pub total-merged_choices : (cs : List Choice) → total weight_of (merged cs) ≡ total weight_of cs
total-merged_choices cs =
    total-merged weight_of one_key same_choice added added_is_merge (positive weight_of cs) ∙ total-positive weight_of cs

pub total-with_factor : (done cs : List Choice) → total weight_of (with_factor done cs) ≡ total weight_of done * total weight_of cs
total-with_factor done cs =
    total-merged_choices (products joined done cs) ∙ total-products weight_of one_key joined (λ x y. tt) joined_is_product done cs

pub total-with_rest : (den : ℕ) (cs : List Choice) → total weight_of cs ≤ den → total weight_of (with_rest den cs) ≡ den
total-with_rest den cs within =
    let parts = total-append weight_of cs (idle (den - total weight_of cs) ∷ []) in
    omega (arith, within, parts)

pub total-scaled : (k : ℕ) (cs : List Choice) → total weight_of (map (scaled k) cs) ≡ total weight_of cs * k
total-scaled k cs =
    total-map weight_of (scaled k) cs
    ∙ total-same (λ (c : Choice). k * c.weight) (λ (c : Choice). c.weight * k) cs (λ c _. mul_comm k c.weight)
    ∙ total-times weight_of k cs

over : {X : Type 0} (f : X → List Choice) (d : ℕ) (done : List Choice) (xs : List X)
    → All (λ x. total weight_of (f x) ≡ d) xs
    → total weight_of (product_with done (map f xs)) ≡ total weight_of done * d ^ length xs
over f d done [] each = sym (ap (λ t. total weight_of done * t) (pow-zero d) ∙ omega arith)
over f d done (x ∷ xs) each =
    let first : total weight_of (f x) ≡ d = All-head (λ y. total weight_of (f y) ≡ d) x xs each in
    over f d (with_factor done (f x)) xs (All-tail (λ y. total weight_of (f y) ≡ d) x xs each)
    ∙ ap (λ t. t * d ^ length xs) (total-with_factor done (f x) ∙ ap (λ t. total weight_of done * t) first)
    ∙ mul_assoc (total weight_of done) d (d ^ length xs)
    ∙ ap (λ t. total weight_of done * t) (sym (pow-succ' d (length xs)))

-- ---- effects

pow_positive : (d k : ℕ) → 0 < d → 0 < d ^ k
pow_positive d zero positive = rw pow-zero (omega arith)
pow_positive d (suc k) positive = subst (λ t. 0 < t) (sym (pow-succ' d k)) (mul-pos positive (pow_positive d k positive))

module _ (w : World) where
  mutual
    pub den_positive : (e : Effect) → EachDraw SumWithinOne e → 0 < den_of w e
    den_positive (Add a) fair = omega arith
    den_positive (Delete a) fair = omega arith
    den_positive (Both' shape es) fair = dens_positive es fair
    den_positive (Forall' params u (more_of-Effect e end_of-Effect)) fair =
        pow_positive (den_of w e) (length (bindings w params [])) (den_positive e fair)
    den_positive (When' c u (more_of-Effect e end_of-Effect)) fair = den_positive e fair
    den_positive (Chance' shape branches) fair =
        mul-pos
        (own_den_positive (branch_chances branches) (All-head SumWithinOne (branch_chances branches) (lists_branches branches) fair))
        (common_multiple-pos (dens_of w branches)
        (branch_dens_positive branches (All-tail SumWithinOne (branch_chances branches) (lists_branches branches) fair)))
    den_positive (Cost v) fair = omega arith
    den_positive (CostOf a) fair = omega arith

    pub dens_positive : {m : _} (es : Row_of-Effect m) → All SumWithinOne (lists_each es) → 0 < den_of_each w es
    dens_positive end_of-Effect fair = omega arith
    dens_positive (more_of-Effect e es) fair =
        mul-pos (den_positive e (All-append_left SumWithinOne (chance_lists e) (lists_each es) fair))
        (dens_positive es (All-append_right SumWithinOne (chance_lists e) (lists_each es) fair))

    pub branch_dens_positive : {m : _} (branches : Row_of-Branch m) → All SumWithinOne (lists_branches branches)
        → All (λ d. 0 < d) (dens_of w branches)
    branch_dens_positive end_of-Branch fair = All-nil (λ d. 0 < d)
    branch_dens_positive (more_of-Branch chance e branches) fair =
        All-cons (λ d. 0 < d) (den_of w e) (dens_of w branches)
        (den_positive e (All-append_left SumWithinOne (chance_lists e) (lists_branches branches) fair))
        (branch_dens_positive branches (All-append_right SumWithinOne (chance_lists e) (lists_branches branches) fair))

branch_total : (D n L Q m S : ℕ) → Q * D ≡ m → D * (n * L * Q) + m * S ≡ m * (n * L + S)
branch_total D n L Q m S h =
    let a : D * (n * L * Q) ≡ (Q * D) * (n * L) = grind arith in
    let b : m * (n * L) + m * S ≡ m * (n * L + S) = grind arith in
    ap (λ t. t + m * S) (a ∙ ap (λ t. t * (n * L)) h) ∙ b

module _ (w : World) (n : Numbering) where
  mutual
    pub total-choices : (e : Effect) → EachDraw SumWithinOne e → (b : Binding)
        → total weight_of (choices w n e b) ≡ den_of w e
    total-choices (Add a) fair b = refl
    total-choices (Delete a) fair b = refl
    total-choices (Both' shape es) fair b = total-choices_each es fair b (idle 1 ∷ []) ∙ omega arith
    total-choices (Forall' params u (more_of-Effect e end_of-Effect)) fair b =
        over (choices w n e) (den_of w e) (idle 1 ∷ []) (bindings w params b) (λ k c below. total-choices e fair _)
        ∙ ap (λ k. 1 * den_of w e ^ k) (length-bindings w params b []) ∙ omega arith
    total-choices (When' c u (more_of-Effect e end_of-Effect)) fair b =
        total-map weight_of (guard (ground_condition w n c b)) (choices w n e b) ∙ total-choices e fair b
    total-choices (Chance' shape branches) fair b =
        let own : ℕ = own_den branches in
        let inner : ℕ = inner_den w branches in
        let cs : List Choice = branch_choices w n own inner branches b in
        let chances = branch_chances branches in
        let sum : total weight_of cs ≡ inner * total (share own) chances
        = total-branches own inner branches b (IsLeastMultipleOf-common_multiple (dens_of w branches)).members
        (All-tail SumWithinOne chances (lists_branches branches) fair) in
        let within : total (share own) chances * inner ≤ own * inner
        = mul-le-mul_right inner (shares_of_own chances (All-head SumWithinOne chances (lists_branches branches) fair)) in
        total-merged_choices (with_rest (own * inner) cs)
        ∙ total-with_rest (own * inner) cs (omega (arith, sum, within, mul_comm inner (total (share own) chances)))
    total-choices (Cost v) fair b = refl
    total-choices (CostOf a) fair b = refl

    pub total-choices_each : {m : _} (es : Row_of-Effect m) → All SumWithinOne (lists_each es) → (b : Binding) (done : List Choice)
        → total weight_of (product_with done (choices_each w n es b)) ≡ total weight_of done * den_of_each w es
    total-choices_each end_of-Effect fair b done = omega arith
    total-choices_each (more_of-Effect e es) fair b done =
        let here = All-append_left SumWithinOne (chance_lists e) (lists_each es) fair in
        let there = All-append_right SumWithinOne (chance_lists e) (lists_each es) fair in
        total-choices_each es there b (with_factor done (choices w n e b))
        ∙ ap (λ t. t * den_of_each w es)
        (total-with_factor done (choices w n e b) ∙ ap (λ t. total weight_of done * t) (total-choices e here b))
        ∙ mul_assoc (total weight_of done) (den_of w e) (den_of_each w es)

    pub total-branches : {m : _} (own inner : ℕ) (branches : Row_of-Branch m) (b : Binding)
        → All (λ d. d ∣ inner) (dens_of w branches) → All SumWithinOne (lists_branches branches)
        → total weight_of (branch_choices w n own inner branches b) ≡ inner * total (share own) (branch_chances branches)
    total-branches own inner end_of-Branch b divide fair = omega arith
    total-branches own inner (more_of-Branch chance e branches) b divide fair =
        let here = All-append_left SumWithinOne (chance_lists e) (lists_branches branches) fair in
        let there = All-append_right SumWithinOne (chance_lists e) (lists_branches branches) fair in
        let divides : den_of w e ∣ inner = All-head (λ d. d ∣ inner) (den_of w e) (dens_of w branches) divide in
        let k : ℕ = share own chance * (inner / den_of w e) in
        total-append weight_of (map (scaled k) (choices w n e b)) (branch_choices w n own inner branches b)
        ∙ ap (λ t. t + total weight_of (branch_choices w n own inner branches b))
        (total-scaled k (choices w n e b) ∙ ap (λ t. t * k) (total-choices e here b))
        ∙ ap (λ t. den_of w e * k + t)
        (total-branches own inner branches b (All-tail (λ d. d ∣ inner) (den_of w e) (dens_of w branches) divide) there)
        ∙ branch_total (den_of w e) chance.num (own / chance.den) (inner / den_of w e) inner
        (total (share own) (branch_chances branches)) (div-mul_cancel (den_of w e) divides)
