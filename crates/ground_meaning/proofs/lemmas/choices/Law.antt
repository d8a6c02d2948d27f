-- In every state the choices of an effect have the chances of its outcomes.
use Rattle.std.proofs.Common.{◌≡◌, ℕ, suc, ◌+◌, ◌-◌, ◌*◌, ◌/◌, ◌^◌, ◌≤◌, Bool, true, false, cond}
use Rattle.std.proofs.Common.{List, [], ◌∷◌, ◌++◌, map, length, refl, sym, ap, ◌∙◌, arith}
use Rattle.std.specs.Prelude.{All}
use Rattle.std.specs.Int.{◌∣◌}
use Rattle.std.proofs.Math.Nat.{mul_comm, mul_assoc, mul-sub, div-mul_cancel, pow-zero, pow-succ'}
use Rattle.std.proofs.lemmas.Nat.{pow-add}
use Rattle.std.proofs.lemmas.List.Elements.{All-head, All-tail}
use Rattle.exact_fraction.specs.declared.fraction.Fraction.{Fraction}
use Rattle.exact_fraction.proofs.DivisorLemmas.{IsLeastMultipleOf-common_multiple}
use Rattle.plain_list.specs.weighted.Mean.{total, mean, IsAlike, products, positive}
use Rattle.plain_list.specs.weighted.Operations.{IsProduct, IsMerge}
use Rattle.plain_list.proofs.lemmas.weighted.Totals.{total-append, total-map, total-same, total-times}
use Rattle.plain_list.proofs.lemmas.weighted.Means.{mean-scaled, mean-positive, mean-constant}
use Rattle.plain_list.proofs.lemmas.weighted.Merging.{mean-merged}
use Rattle.plain_list.proofs.lemmas.weighted.Alike.{alike_products}
use Rattle.ppddl_model.specs.declared.tree.Effect.{Effect, Row_of-Effect, end_of-Effect, more_of-Effect}
use Rattle.ppddl_model.specs.declared.tree.Effect.{Row_of-Branch, end_of-Branch, more_of-Branch}
use Rattle.ppddl_model.specs.declared.tree.Effect.TheVariants.{Add, Delete, Both', Forall', When', Chance', Cost, CostOf}
use Rattle.ppddl_model.specs.State.{GroundAtom, State, no_atoms, with_atom, has}
use Rattle.ppddl_model.specs.Objects.{World, Binding, ground_atom, bindings}
use Rattle.ppddl_model.specs.Truth.{holds}
use Rattle.ppddl_model.specs.Functions.{cost_of}
use Rattle.ppddl_model.specs.Draws.{branch_chances, chance_lists, lists_each, lists_branches}
use Rattle.ppddl_model.specs.Denominator.{share, draws, draws_each, draws_branches}
use Rattle.ppddl_model.specs.Changing.{literals, literals_each, literals_branches}
use Rattle.ppddl_model.specs.Chances.{SumWithinOne}
use Rattle.ppddl_model.specs.Outcomes as task
use Rattle.ppddl_model.specs.Outcomes.{Entry, nothing, products_with, weighed, outcomes, outcomes_each, outcomes_branches}
use Rattle.ground_model.specs.declared.action.Choice.{Choice}
use Rattle.ground_model.specs.declared.condition.GroundCondition.{GroundCondition}
use Rattle.ground_model.specs.Truth.{truth}
use Rattle.ground_meaning.specs.choices.Numbering.{Numbering, number_of, is_true, ground_condition}
use Rattle.ground_meaning.specs.choices.Same.{same_choice}
use Rattle.ground_meaning.specs.choices.Joint.{weight_of, idle, joined, guard, scaled, added, merged, with_factor}
use Rattle.ground_meaning.specs.choices.Joint.{product_with, with_rest, own_den, inner_den, den_of, den_of_each, dens_of}
use Rattle.ground_meaning.specs.choices.Joint.{choices, choices_each, branch_choices, numbers}
use Rattle.ground_meaning.specs.choices.Change.{Change, settled, atoms_at, change_of, condition_atoms}
use Rattle.ground_meaning.specs.choices.Change.{tested_atoms, tested_each, tested_branches, IsNumbered}
use Rattle.ground_meaning.proofs.lemmas.choices.Lists.{All-append_left, All-append_right, All-from_flat_map}
use Rattle.ground_meaning.proofs.lemmas.choices.Same.{same_choice-is}
use Rattle.ground_meaning.proofs.lemmas.choices.Changes.{one_after, settled_both, change_of-joined, change_of-guard_on, change_of-guard_off}
use Rattle.ground_meaning.proofs.lemmas.choices.Conditions.{condition_law}
use Rattle.ground_meaning.proofs.lemmas.choices.Shares.{dens_divide}
use Rattle.ground_meaning.proofs.lemmas.choices.Weights.{total-choices, length-bindings}

abbrev pub entry_weight : Entry → ℕ
entry_weight x = x.weight

abbrev pub outcome : Entry → Change
outcome x = settled x.adds x.deletes x.cost

abbrev still : Change
still = settled no_atoms no_atoms 0

-- ---- numbers

-- one branch: M is its mean over the choices and N over the entries, and R is the power to which the entries' weights sum
branch_law : (M N R D n L Q C P d : ℕ) → M * R ≡ N * D → M * (n * L * Q) * (C * d * (P * R)) ≡ N * (n * C * P) * (L * d * (Q * D))
branch_law M N R D n L Q C P d h =
    let a : M * (n * L * Q) * (C * d * (P * R)) ≡ (M * R) * (n * L * Q * C * d * P) = grind arith in
    let b : (N * D) * (n * L * Q * C * d * P) ≡ N * (n * C * P) * (L * d * (Q * D)) = grind arith in
    a ∙ ap (λ t. t * (n * L * Q * C * d * P)) h ∙ b

distribute : (a b c : ℕ) → (a + b) * c ≡ a * c + b * c
distribute a b c = grind arith

sub_times : (a b c : ℕ) → (a - b) * c ≡ a * c - b * c
sub_times a b c = mul_comm (a - b) c ∙ mul-sub c a b ∙ ap (λ t. t - c * b) (mul_comm c a) ∙ ap (λ t. a * c - t) (mul_comm c b)

-- what is left over has the same chance too
pub rest_law : (den whole t t' : ℕ) → t * whole ≡ t' * den → (den - t) * whole ≡ (whole - t') * den
rest_law den whole t t' h =
    sub_times den t whole ∙ ap (λ x. den * whole - x) h ∙ ap (λ x. x - t' * den) (mul_comm den whole) ∙ sym (sub_times whole t' den)

pub rest_sum : (a b r r' x den whole : ℕ) → a * whole ≡ b * den → r * whole ≡ r' * den
    → (a + (r * x + 0)) * whole ≡ (b + (r' * x + 0)) * den
rest_sum a b r r' x den whole h g =
    let p : (a + (r * x + 0)) * whole ≡ a * whole + r * whole * x = grind arith in
    let q : (b + (r' * x + 0)) * den ≡ b * den + r' * den * x = grind arith in
    p ∙ ap (λ t. t + r * whole * x) h ∙ ap (λ t. b * den + t * x) g ∙ sym q

off : (d e x : ℕ) → d * x * e ≡ (e * x + 0) * d
off d e x = grind arith

power_split : (den most m : ℕ) → m ≤ most → den ^ (1 + most) ≡ den * (den ^ (most - m) * den ^ m)
power_split den most m within =
    let a : 1 + most ≡ suc most = omega arith in
    let b : most ≡ (most - m) + m = omega arith in
    ap (λ k. den ^ k) a ∙ pow-succ' den most ∙ ap (λ k. den * den ^ k) b ∙ ap (λ k. den * k) (pow-add den (most - m) m)

single : (a b den : ℕ) → a ≡ b → (1 * a + 0) * den ^ 0 ≡ (1 * b + 0) * 1
single a b den e = ap (λ t. (1 * a + 0) * t) (pow-zero den) ∙ ap (λ x. (1 * x + 0) * 1) e

pub ones : (a b : ℕ) → a * 1 * b ≡ a * b
ones a b = grind arith

-- what the chances of an effect are over den
pub record IsFair (den : ℕ) (chances : List Fraction) : Type 0 where
  pub sums : SumWithinOne chances
  pub divide : All (λ (chance : Fraction). chance.den ∣ den) chances

pub fair_sums : (den : ℕ) (lists : List (List Fraction)) → All (IsFair den) lists → All SumWithinOne lists
fair_sums den lists fair k x below = (fair k x below).sums

-- ---- lists of choices and of entries, in a state

module _ (order : List GroundAtom) (bit : ℕ → Bool) where
  abbrev pub Alike : List Choice → ℕ → List Entry → ℕ → Type 0
  Alike cs den es den' = IsAlike weight_of (change_of order bit) entry_weight outcome cs den es den'

  added_is_merge : IsMerge weight_of (change_of order bit) same_choice added
  added_is_merge = record {
    weights = λ x y _. refl;
    keys = λ x y _. refl;
    same_keys = λ x y same. sym (ap (change_of order bit) (same_choice-is x y same 0));
  }

  joined_is_product : IsProduct weight_of (change_of order bit) joined one_after
  joined_is_product = record { weights = λ x y. refl; keys = change_of-joined order bit }

  entries_product : IsProduct entry_weight outcome task.joined one_after
  entries_product = record { weights = λ x y. refl; keys = λ x y. settled_both x.adds x.deletes y.adds y.deletes x.cost y.cost }

  mean-merged_choices : (v : Change → ℕ) (cs : List Choice)
      → mean weight_of (change_of order bit) v (merged cs) ≡ mean weight_of (change_of order bit) v cs
  mean-merged_choices v cs =
      mean-merged weight_of (change_of order bit) same_choice added added_is_merge v (positive weight_of cs)
      ∙ mean-positive weight_of (change_of order bit) v cs

  alike_merged : (cs : List Choice) (den : ℕ) (es : List Entry) (den' : ℕ) → Alike cs den es den' → Alike (merged cs) den es den'
  alike_merged cs den es den' alike v = ap (λ t. t * den') (mean-merged_choices v cs) ∙ alike v

  alike_factor : (xs ys : List Choice) (d e : ℕ) (xs' ys' : List Entry) (d' e' : ℕ) → Alike xs d xs' d' → Alike ys e ys' e'
      → Alike (with_factor xs ys) (d * e) (products task.joined xs' ys') (d' * e')
  alike_factor xs ys d e xs' ys' d' e' first second =
      alike_merged (products joined xs ys) (d * e) (products task.joined xs' ys') (d' * e')
      (alike_products weight_of (change_of order bit) entry_weight outcome joined task.joined one_after
      joined_is_product entries_product xs ys d e xs' ys' d' e' first second)

  alike_dens : (cs : List Choice) (d e : ℕ) (es : List Entry) (d' e' : ℕ) → d ≡ e → d' ≡ e' → Alike cs d es d' → Alike cs e es e'
  alike_dens cs d e es d' e' p q alike v =
      ap (λ t. mean weight_of (change_of order bit) v cs * t) (sym q) ∙ alike v ∙ ap (λ t. mean entry_weight outcome v es * t) p

  start : Alike (idle 1 ∷ []) 1 (nothing 1 ∷ []) 1
  start v = refl

  -- products over a list, where each factor is over one denominator
  alike_over : {X : Type 0} (f : X → List Choice) (g : X → List Entry) (d den m : ℕ) (done : List Choice) (k : ℕ)
      (done' : List Entry) (k' : ℕ) (xs : List X) → All (λ x. Alike (f x) d (g x) (den ^ m)) xs → Alike done k done' k'
      → Alike (product_with done (map f xs)) (k * d ^ length xs) (products_with done' (map g xs)) (k' * den ^ (length xs * m))
  alike_over f g d den m done k done' k' [] each alike =
      let none : 0 * m ≡ 0 = omega arith in
      alike_dens done k (k * d ^ 0) done' k' (k' * den ^ (0 * m))
      (sym (ap (λ t. k * t) (pow-zero d) ∙ omega arith))
      (sym (ap (λ t. k' * den ^ t) none ∙ ap (λ t. k' * t) (pow-zero den) ∙ omega arith)) alike
  alike_over f g d den m done k done' k' (x ∷ xs) each alike =
      let more : suc (length xs) * m ≡ m + length xs * m = grind arith in
      alike_dens (product_with (with_factor done (f x)) (map f xs)) (k * d * d ^ length xs) (k * d ^ suc (length xs))
      (products_with (products task.joined done' (g x)) (map g xs)) (k' * den ^ m * den ^ (length xs * m)) (k' * den ^ (suc (length xs) * m))
      (mul_assoc k d (d ^ length xs) ∙ ap (λ t. k * t) (sym (pow-succ' d (length xs))))
      (mul_assoc k' (den ^ m) (den ^ (length xs * m)) ∙ ap (λ t. k' * t) (sym (pow-add den m (length xs * m)) ∙ ap (λ t. den ^ t) (sym more)))
      (alike_over f g d den m (with_factor done (f x)) (k * d) (products task.joined done' (g x)) (k' * den ^ m) xs
      (All-tail (λ y. Alike (f y) d (g y) (den ^ m)) x xs each)
      (alike_factor done (f x) k d done' (g x) k' (den ^ m) alike (All-head (λ y. Alike (f y) d (g y) (den ^ m)) x xs each)))

  alike_when : (t : GroundCondition) (holds_here : Bool) → truth bit t ≡ holds_here → (cs : List Choice) (den : ℕ) (es : List Entry) (den' : ℕ)
      → total weight_of cs ≡ den → Alike cs den es den' → Alike (map (guard t) cs) den (cond holds_here es (nothing den' ∷ [])) den'
  alike_when t true e cs den es den' full alike v =
      ap (λ x. x * den')
      (total-map (λ (c : Choice). c.weight * v (change_of order bit c)) (guard t) cs
      ∙ total-same (λ (c : Choice). c.weight * v (change_of order bit (guard t c))) (λ (c : Choice). c.weight * v (change_of order bit c)) cs
      (λ c _. ap (λ x. c.weight * v x) (change_of-guard_on order bit t c e)))
      ∙ alike v
  alike_when t false e cs den es den' full alike v =
      ap (λ x. x * den')
      (total-map (λ (c : Choice). c.weight * v (change_of order bit c)) (guard t) cs
      ∙ total-same (λ (c : Choice). c.weight * v (change_of order bit (guard t c))) (λ (c : Choice). c.weight * v still) cs
      (λ c _. ap (λ x. c.weight * v x) (change_of-guard_off order bit t c e))
      ∙ total-times weight_of (v still) cs ∙ ap (λ x. x * v still) full)
      ∙ off den den' (v still)

  -- with what is left over
  alike_rest : (cs : List Choice) (den : ℕ) (es : List Entry) (whole : ℕ) → Alike cs den es whole
      → Alike (with_rest den cs) den (task.with_rest whole es) whole
  alike_rest cs den es whole alike v =
      let w : ℕ = total weight_of cs in
      let w' : ℕ = total entry_weight es in
      let sums : w * whole ≡ w' * den = omega (
        arith,
        alike (λ _. 1),
        ap (λ t. t * whole) (mean-constant weight_of (change_of order bit) 1 cs),
        ap (λ t. t * den) (mean-constant entry_weight outcome 1 es),
        ones w whole,
        ones w' den,
      ) in
      let left : (den - w) * whole ≡ (whole - w') * den = rest_law den whole w w' sums in
      let one : mean weight_of (change_of order bit) v (with_rest den cs) ≡ mean weight_of (change_of order bit) v cs + ((den - w) * v still + 0)
      = total-append (λ (c : Choice). c.weight * v (change_of order bit c)) cs (idle (den - w) ∷ []) in
      let two : mean entry_weight outcome v (task.with_rest whole es) ≡ mean entry_weight outcome v es + ((whole - w') * v still + 0)
      = total-append (λ (x : Entry). x.weight * v (outcome x)) es (nothing (whole - w') ∷ []) in
      ap (λ t. t * whole) one
      ∙ rest_sum (mean weight_of (change_of order bit) v cs) (mean entry_weight outcome v es) (den - w) (whole - w') (v still) den whole (alike v) left
      ∙ sym (ap (λ t. t * den) two)

-- ---- effects

module _ (w : World) (n : Numbering) (order : List GroundAtom) (bit : ℕ → Bool) (s : State) (den : ℕ) where
  abbrev numbered : GroundAtom → Type 0
  numbered = IsNumbered n order

  abbrev tied : GroundAtom → Type 0
  tied q = has s q ≡ is_true n bit q

  -- the set of the one atom of a literal
  literal_set : (q : GroundAtom) → IsNumbered n order q → atoms_at order (numbers (number_of n q) ++ []) ≡ with_atom no_atoms q
  literal_set q is =
      ap (λ o. atoms_at order (numbers o ++ [])) is.known ∙ ap (λ a. with_atom no_atoms a) is.stands

  mutual
    pub choices_law : (e : Effect) → All (IsFair den) (chance_lists e) → (b : Binding)
        → All numbered (literals w e b) → All tied (tested_atoms w e b)
        → Alike order bit (choices w n e b) (den_of w e) (outcomes w den e b s) (den ^ draws w e)
    choices_law (Add a) fair b known agrees v =
        single (v (settled (atoms_at order (numbers (number_of n (ground_atom b a)) ++ [])) no_atoms 0))
        (v (settled (with_atom no_atoms (ground_atom b a)) no_atoms 0)) den
        (ap (λ x. v (settled x no_atoms 0)) (literal_set (ground_atom b a) (All-head numbered (ground_atom b a) [] known)))
    choices_law (Delete a) fair b known agrees v =
        single (v (settled no_atoms (atoms_at order (numbers (number_of n (ground_atom b a)) ++ [])) 0))
        (v (settled no_atoms (with_atom no_atoms (ground_atom b a)) 0)) den
        (ap (λ x. v (settled no_atoms x 0)) (literal_set (ground_atom b a) (All-head numbered (ground_atom b a) [] known)))
    choices_law (Both' shape es) fair b known agrees v =
        alike_dens order bit (choices w n (Both' shape es) b) (1 * den_of_each w es) (den_of_each w es)
        (outcomes w den (Both' shape es) b s) (1 * den ^ draws_each w es) (den ^ draws_each w es) (omega arith) (omega arith)
        (law_each es fair b known agrees (idle 1 ∷ []) 1 (nothing 1 ∷ []) 1 (start order bit)) v
    choices_law (Forall' params u (more_of-Effect e end_of-Effect)) fair b known agrees v =
        let number : length (bindings w params b) ≡ length (bindings w params []) = length-bindings w params b [] in
        alike_dens order bit (choices w n (Forall' params u (more_of-Effect e end_of-Effect)) b)
        (1 * den_of w e ^ length (bindings w params b)) (den_of w e ^ length (bindings w params []))
        (outcomes w den (Forall' params u (more_of-Effect e end_of-Effect)) b s)
        (1 * den ^ (length (bindings w params b) * draws w e)) (den ^ (length (bindings w params []) * draws w e))
        (ap (λ k. 1 * den_of w e ^ k) number ∙ omega arith) (ap (λ k. 1 * den ^ (k * draws w e)) number ∙ omega arith)
        (alike_over order bit (choices w n e) (λ c. outcomes w den e c s) (den_of w e) den (draws w e)
        (idle 1 ∷ []) 1 (nothing 1 ∷ []) 1 (bindings w params b)
        (λ k x below. choices_law e fair _ (All-from_flat_map numbered (literals w e) (bindings w params b) known k x below)
        (All-from_flat_map tied (tested_atoms w e) (bindings w params b) agrees k x below))
        (start order bit)) v
    choices_law (When' c u (more_of-Effect e end_of-Effect)) fair b known agrees v =
        let here = All-append_left tied (condition_atoms w c b) (tested_atoms w e b) agrees in
        let there = All-append_right tied (condition_atoms w c b) (tested_atoms w e b) agrees in
        alike_when order bit (ground_condition w n c b) (holds w c b s) (condition_law w n bit s c b here)
        (choices w n e b) (den_of w e) (outcomes w den e b s) (den ^ draws w e)
        (total-choices w n e (fair_sums den (chance_lists e) fair) b) (choices_law e fair b known there) v
    choices_law (Chance' shape branches) fair b known agrees v =
        let chances = branch_chances branches in
        let own : ℕ = own_den branches in
        let inner : ℕ = inner_den w branches in
        let most : ℕ = draws_branches w branches in
        let cs : List Choice = branch_choices w n own inner branches b in
        let es : List Entry = outcomes_branches w den most branches b s in
        let here = All-head (IsFair den) chances (lists_branches branches) fair in
        alike_merged order bit (with_rest (own * inner) cs) (own * inner) (task.with_rest (den ^ (1 + most)) es) (den ^ (1 + most))
        (alike_rest order bit cs (own * inner) es (den ^ (1 + most))
        (law_branches own inner most branches (dens_divide chances) here.divide
        (IsLeastMultipleOf-common_multiple (dens_of w branches)).members (omega arith)
        (All-tail (IsFair den) chances (lists_branches branches) fair) b known agrees)) v
    choices_law (Cost c) fair b known agrees v =
        single (v (settled no_atoms no_atoms (c + 0))) (v (settled no_atoms no_atoms c)) den
        (ap (λ k. v (settled no_atoms no_atoms k)) (omega arith))
    choices_law (CostOf a) fair b known agrees v =
        single (v (settled no_atoms no_atoms (cost_of w (ground_atom b a) + 0))) (v (settled no_atoms no_atoms (cost_of w (ground_atom b a)))) den
        (ap (λ k. v (settled no_atoms no_atoms k)) (omega arith))

    law_each : {m : _} (es : Row_of-Effect m) → All (IsFair den) (lists_each es) → (b : Binding)
        → All numbered (literals_each w es b) → All tied (tested_each w es b)
        → (done : List Choice) (k : ℕ) (done' : List Entry) (k' : ℕ) → Alike order bit done k done' k'
        → Alike order bit (product_with done (choices_each w n es b)) (k * den_of_each w es)
        (products_with done' (outcomes_each w den es b s)) (k' * den ^ draws_each w es)
    law_each end_of-Effect fair b known agrees done k done' k' alike =
        alike_dens order bit done k (k * 1) done' k' (k' * den ^ 0) (omega arith)
        (sym (ap (λ t. k' * t) (pow-zero den) ∙ omega arith)) alike
    law_each (more_of-Effect e es) fair b known agrees done k done' k' alike =
        let next : List Choice = with_factor done (choices w n e b) in
        let next' : List Entry = products task.joined done' (outcomes w den e b s) in
        alike_dens order bit (product_with next (choices_each w n es b)) (k * den_of w e * den_of_each w es) (k * (den_of w e * den_of_each w es))
        (products_with next' (outcomes_each w den es b s)) (k' * den ^ draws w e * den ^ draws_each w es) (k' * den ^ (draws w e + draws_each w es))
        (mul_assoc k (den_of w e) (den_of_each w es))
        (mul_assoc k' (den ^ draws w e) (den ^ draws_each w es) ∙ ap (λ t. k' * t) (sym (pow-add den (draws w e) (draws_each w es))))
        (law_each es (All-append_right (IsFair den) (chance_lists e) (lists_each es) fair) b
        (All-append_right numbered (literals w e b) (literals_each w es b) known)
        (All-append_right tied (tested_atoms w e b) (tested_each w es b) agrees)
        next (k * den_of w e) next' (k' * den ^ draws w e)
        (alike_factor order bit done (choices w n e b) k (den_of w e) done' (outcomes w den e b s) k' (den ^ draws w e) alike
        (choices_law e (All-append_left (IsFair den) (chance_lists e) (lists_each es) fair) b
        (All-append_left numbered (literals w e b) (literals_each w es b) known)
        (All-append_left tied (tested_atoms w e b) (tested_each w es b) agrees))))

    law_branches : {m : _} (own inner most : ℕ) (branches : Row_of-Branch m)
        → All (λ (chance : Fraction). chance.den ∣ own) (branch_chances branches)
        → All (λ (chance : Fraction). chance.den ∣ den) (branch_chances branches)
        → All (λ d. d ∣ inner) (dens_of w branches) → draws_branches w branches ≤ most
        → All (IsFair den) (lists_branches branches) → (b : Binding)
        → All numbered (literals_branches w branches b) → All tied (tested_branches w branches b)
        → Alike order bit (branch_choices w n own inner branches b) (own * inner) (outcomes_branches w den most branches b s) (den ^ (1 + most))
    law_branches own inner most end_of-Branch divide divide' inners within fair b known agrees v = omega arith
    law_branches own inner most (more_of-Branch chance e branches) divide divide' inners within fair b known agrees v =
        let P : Fraction → Type 0 = λ x. x.den ∣ own in
        let P' : Fraction → Type 0 = λ x. x.den ∣ den in
        let D : ℕ = den_of w e in
        let d : ℕ = chance.den in
        let m : ℕ = draws w e in
        let Q : ℕ → Type 0 = λ x. x ∣ inner in
        let F : ℕ = share own chance * (inner / D) in
        let G : ℕ = share den chance * den ^ (most - m) in
        let cs : List Choice = choices w n e b in
        let es : List Entry = outcomes w den e b s in
        let M : ℕ = mean weight_of (change_of order bit) v cs in
        let N : ℕ = mean entry_weight outcome v es in
        let rest : ℕ = mean weight_of (change_of order bit) v (branch_choices w n own inner branches b) in
        let rest' : ℕ = mean entry_weight outcome v (outcomes_branches w den most branches b s) in
        let first : M * den ^ m ≡ N * D
        = choices_law e (All-append_left (IsFair den) (chance_lists e) (lists_branches branches) fair) b
        (All-append_left numbered (literals w e b) (literals_branches w branches b) known)
        (All-append_left tied (tested_atoms w e b) (tested_branches w branches b) agrees) v in
        let one : mean weight_of (change_of order bit) v (branch_choices w n own inner (more_of-Branch chance e branches) b) ≡ M * F + rest
        = total-append (λ (c : Choice). c.weight * v (change_of order bit c)) (map (scaled F) cs) (branch_choices w n own inner branches b)
        ∙ ap (λ t. t + rest) (mean-scaled weight_of (change_of order bit) weight_of (change_of order bit) F (scaled F) cs
        (record { weights = λ c _. mul_comm F c.weight; keys = λ c _. refl }) v) in
        let two : mean entry_weight outcome v (outcomes_branches w den most (more_of-Branch chance e branches) b s) ≡ N * G + rest'
        = total-append (λ (x : Entry). x.weight * v (outcome x)) (map (weighed G) es) (outcomes_branches w den most branches b s)
        ∙ ap (λ t. t + rest') (mean-scaled entry_weight outcome entry_weight outcome G (weighed G) es
        (record { weights = λ x _. mul_comm G x.weight; keys = λ x _. refl }) v) in
        let whole : den ^ (1 + most) ≡ (den / d) * d * (den ^ (most - m) * den ^ m)
        = power_split den most m (omega (arith, within)) ∙ ap (λ t. t * (den ^ (most - m) * den ^ m))
        (sym (div-mul_cancel d (All-head P' chance (branch_chances branches) divide'))) in
        let parts : own * inner ≡ (own / d) * d * ((inner / D) * D)
        = ap (λ t. t * inner) (sym (div-mul_cancel d (All-head P chance (branch_chances branches) divide)))
        ∙ ap (λ t. (own / d) * d * t) (sym (div-mul_cancel D (All-head Q D (dens_of w branches) inners))) in
        let head : M * F * den ^ (1 + most) ≡ N * G * (own * inner)
        = ap (λ t. M * F * t) whole
        ∙ branch_law M N (den ^ m) D chance.num (own / d) (inner / D) (den / d) (den ^ (most - m)) d first
        ∙ ap (λ t. N * G * t) (sym parts) in
        let tail : rest * den ^ (1 + most) ≡ rest' * (own * inner)
        = law_branches own inner most branches (All-tail P chance (branch_chances branches) divide)
        (All-tail P' chance (branch_chances branches) divide') (All-tail Q D (dens_of w branches) inners) (omega (arith, within))
        (All-append_right (IsFair den) (chance_lists e) (lists_branches branches) fair) b
        (All-append_right numbered (literals w e b) (literals_branches w branches b) known)
        (All-append_right tied (tested_atoms w e b) (tested_branches w branches b) agrees) v in
        ap (λ t. t * den ^ (1 + most)) one ∙ distribute (M * F) rest (den ^ (1 + most)) ∙ ap (λ t. t + rest * den ^ (1 + most)) head
        ∙ ap (λ t. N * G * (own * inner) + t) tail
        ∙ sym (ap (λ t. t * (own * inner)) two ∙ distribute (N * G) rest' (own * inner))
