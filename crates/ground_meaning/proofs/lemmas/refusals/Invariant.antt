-- The ground problem of a well-formed task that is within the limits meets the invariant of ground problems, and stands for the task.
use Rattle.std.proofs.Common.{◌≡◌, ◌⊎◌, inl, inr, ℕ, suc, zero, ◌*◌, ◌/◌, ◌<◌, ◌≤◌, Bool, true, false, ◌&&◌, ◌||◌, List, [], ◌∷◌, map, length, Option, None, Some, Result, Ok, Err, refl, sym, ap, subst, ◌∙◌, arith}
use Rattle.std.specs.Prelude.{◌≢◌, All, AllPairs, Contains, IfSome, nat_eq, nat_lt, nat_le, slice_index_or, ◌==◌}
use Rattle.std.specs.Int.{◌∣◌}
use Rattle.std.specs.List.{find, list_any}
use Rattle.std.specs.Ordering.{nat_cmp}
use Rattle.std.specs.declared.cmp.Ordering.TheVariants.{Less, Equal, Greater}
use Rattle.std.specs.Cmp.{nat_cmp_is, both_ways}
use Rattle.std.proofs.lemmas.Cmp.{nat_cmp_total}
use Rattle.std.proofs.lemmas.Map.Views.{Contains-from_any}
use Rattle.std.proofs.Math.Nat.{div-le_self, div-mul_cancel, eq_of_mul-eq-mul_right}
use Rattle.std.proofs.lemmas.Bool.{and_parts, leb-true, cases_Bool, cases_lt, lt-ltb, eq-eqb, eqb-true, eqb-false, not-true, or_left, or_right}
use Rattle.std.proofs.lemmas.List.{length-map}
use Rattle.std.proofs.lemmas.List.Elements.{All-map, All-contains, Contains-get_or}
use Rattle.plain_list.proofs.Members.{Contains-cons_cases, Contains-nil}
use Rattle.plain_list.proofs.Related.{AllPairs-head, AllPairs-tail}
use Rattle.plain_list.specs.weighted.Mean.{total}
use Rattle.plain_list.proofs.lemmas.weighted.Totals.{total-map, total-same, total-times}
use Rattle.plain_list.specs.Results.{◌>>=◌}
use Rattle.ppddl_model.specs.declared.limits.TheConstants.{MOST_PENALTY}
use Rattle.ppddl_model.specs.declared.tree.Action.{Action}
use Rattle.ppddl_model.specs.declared.tree.InitItem.{InitItem}
use Rattle.ppddl_model.specs.declared.tree.Task.{Task}
use Rattle.ppddl_model.specs.Draws.{EachDraw}
use Rattle.ppddl_model.specs.Chances.{SumWithinOne}
use Rattle.ppddl_model.specs.Changing.{kept_instances, changing_atoms}
use Rattle.ppddl_model.specs.Steps.{Instance, Charges, Terms, charges_of, world, base_cost, sure_cost}
use Rattle.ppddl_model.specs.WellFormed.{reward_fits, IsWellFormed}
use Rattle.ppddl_model.proofs.WellFormed.{well_formed_sums}
use Rattle.ground_model.specs.declared.action.Choice.{Choice}
use Rattle.ground_model.specs.declared.action.GroundAction.{GroundAction}
use Rattle.ground_model.specs.declared.limits.TheConstants.{MOST_STARTS}
use Rattle.ground_model.specs.declared.start.Start.{Start}
use Rattle.ground_model.specs.Packed as packed
use Rattle.ground_model.specs.Packed.{has_bit, words_for}
use Rattle.ground_model.specs.Ground.{Ground}
use Rattle.ground_model.specs.Invariant.{IsDistribution, IsAction, IsInside, IsGroundProblem}
use Rattle.ground_model.proofs.Packed.{has_bit-packed, packed_inside}
use Rattle.ground_model.proofs.Rising.{pairs_rise}
use Rattle.ground_meaning.specs.stands.Stands.{IsGroundOf}
use Rattle.ground_meaning.specs.choices.Same.{same_choice, same_numbers}
use Rattle.ground_meaning.specs.choices.Joint.{idle, weight_of, charged_choices}
use Rattle.ground_meaning.specs.choices.Limits.{is_dear, IsWithinLimits}
use Rattle.ground_meaning.proofs.lemmas.choices.Fitting.{condition_below}
use Rattle.ground_meaning.proofs.lemmas.choices.Invariant.{meets_invariant, product_weigh, product_length, divided_weighs, one_weighs}
use Rattle.ground_meaning.proofs.lemmas.choices.Reduced.{divides_weights}
use Rattle.ground_meaning.specs.refusals.Atoms.{numbering_of}
use Rattle.ground_meaning.specs.refusals.Starts.{item_choices, start_choices, starts_den, packed_start, start_divisor}
use Rattle.ground_meaning.specs.refusals.Problem.{ground_action, ground_problem, task_starts}
use Rattle.ground_meaning.specs.refusals.Limits.{limits, free_action, refused_by, charged, limited, grounded}
use Rattle.ground_meaning.specs.declared.refusals.limits.LimitCode.{LimitCode}
use Rattle.ground_meaning.specs.declared.refusals.refusal.GroundRefusal.{GroundRefusal}
use Rattle.ground_meaning.specs.refusals.Laws as laws
use Rattle.ground_meaning.specs.refusals.Laws.{IsPenalty, AreInRange}
use Rattle.ground_meaning.proofs.lemmas.refusals.Order.{texts_rise}
use Rattle.ground_meaning.proofs.lemmas.refusals.Instances.{all_from, instance_parts, kept_is_instance}
use Rattle.ground_meaning.proofs.lemmas.refusals.Distinct.{Differ, OnlyAdds, starts_differ, start_adds}
use Rattle.ground_meaning.proofs.lemmas.refusals.Limited.{both_are, IsSmall, IsLimited, IsWithin, limits_are}
use Rattle.ground_meaning.proofs.lemmas.refusals.Naming.{pairs_map, names_differ}
use Rattle.ground_meaning.proofs.lemmas.refusals.Standing.{kept_is_valued, problem_stands}
use Rattle.ground_meaning.proofs.lemmas.refusals.Starting.{choices_sum, dens_positive, divisor_positive, den_restored, positive_denominators}
use Rattle.ground_model.specs.Choices.{is_member}

-- ---- rising lists are their members

less_is_below : (x y : ℕ) → nat_cmp x y ≡ Less → x < y
less_is_below x y less = elim (cases_lt x y) [
  | inl below ↦ below
  | inr not_below ↦ elim (cases_lt y x) [
    | inl above ↦ let greater : Greater ≡ nat_cmp x y = nat_cmp_is x y Greater above in absurd (cc (less, greater))
    | inr level ↦ let equal : Equal ≡ nat_cmp x y = nat_cmp_is x y Equal (omega arith) in absurd (cc (less, equal))
  ]
]

is_first : (x : ℕ) (xs : List ℕ) → is_member (x ∷ xs) x ≡ true
is_first x xs = or_left (nat_eq x x) (is_member xs x) (eq-eqb x x refl)

-- what stands behind is greater
behind_is_above : (x : ℕ) (xs : List ℕ) → AllPairs (λ y z. nat_cmp y z ≡ Less) (x ∷ xs) → (y : ℕ) → is_member xs y ≡ true → x < y
behind_is_above x xs pairs y member =
    less_is_below x y (AllPairs-head (λ a b. nat_cmp a b ≡ Less) x xs pairs y (Contains-from_any (λ a b same. eqb-true a b same) y xs member))

member_cases : (x : ℕ) (xs : List ℕ) (y : ℕ) → is_member (x ∷ xs) y ≡ true → (y ≡ x) ⊎ (is_member xs y ≡ true)
member_cases x xs y member = elim (cases_Bool (nat_eq y x)) [
  | inl here ↦ inl (eqb-true y x here)
  | inr other ↦ inr (ap (λ b. b || is_member xs y) (sym other) ∙ member)
]

module _ (x y : ℕ) (xs ys : List ℕ) (rising : AllPairs (λ a b. nat_cmp a b ≡ Less) (x ∷ xs)) (rising' : AllPairs (λ a b. nat_cmp a b ≡ Less) (y ∷ ys))
    (same : (k : ℕ) → is_member (x ∷ xs) k ≡ is_member (y ∷ ys) k) where
  firsts_are_one : x ≡ y
  firsts_are_one = elim (member_cases y ys x (sym (same x) ∙ is_first x xs)) [
    | inl here ↦ here
    | inr later ↦ elim (member_cases x xs y (same y ∙ is_first y ys)) [
      | inl there ↦ sym there
      | inr later' ↦
          let below : y < x = behind_is_above y ys rising' x later in
          let above : x < y = behind_is_above x xs rising y later' in omega (arith, below, above)
    ]
  ]

  rest_there : (k : ℕ) → is_member xs k ≡ true → is_member ys k ≡ true
  rest_there k member =
      let above : x < k = behind_is_above x xs rising k member in
      elim (member_cases y ys k (sym (same k) ∙ or_right (nat_eq k x) (is_member xs k) member)) [
        | inl here ↦ absurd (omega (arith, above, here, firsts_are_one))
        | inr later ↦ later
      ]

  rest_back : (k : ℕ) → is_member ys k ≡ true → is_member xs k ≡ true
  rest_back k member =
      let above : y < k = behind_is_above y ys rising' k member in
      elim (member_cases x xs k (same k ∙ or_right (nat_eq k y) (is_member ys k) member)) [
        | inl here ↦ absurd (omega (arith, above, here, firsts_are_one))
        | inr later ↦ later
      ]

  pub rests_are_same : (k : ℕ) → is_member xs k ≡ is_member ys k
  rests_are_same k = both_ways (is_member xs k) (is_member ys k) (rest_there k) (rest_back k)

same_members : (xs ys : List ℕ) → AllPairs (λ a b. nat_cmp a b ≡ Less) xs → AllPairs (λ a b. nat_cmp a b ≡ Less) ys
    → ((k : ℕ) → is_member xs k ≡ is_member ys k) → xs ≡ ys
same_members [] [] rising rising' same = refl
same_members [] (y ∷ ys) rising rising' same = absurd (cc (same y, is_first y ys))
same_members (x ∷ xs) [] rising rising' same = absurd (cc (same x, is_first x xs))
same_members (x ∷ xs) (y ∷ ys) rising rising' same =
    ap (λ z. z ∷ xs) (firsts_are_one x y xs ys rising rising' same)
    ∙ ap (λ z. y ∷ z) (same_members xs ys (AllPairs-tail (λ a b. nat_cmp a b ≡ Less) x xs rising) (AllPairs-tail (λ a b. nat_cmp a b ≡ Less) y ys rising')
    (rests_are_same x y xs ys rising rising' same))

-- ---- the initial states

same_itself : (xs : List ℕ) → same_numbers xs xs ≡ true
same_itself [] = refl
same_itself (x ∷ xs) = rw (eq-eqb x x refl) (same_itself xs)

-- choices that only add, and add the same, are equal by the test
same_adds : (count : ℕ) (c d : Choice) → OnlyAdds count c → OnlyAdds count d → c.adds ≡ d.adds → same_choice c d ≡ true
same_adds count c d here there same =
    rw (here.cost, there.cost, here.deletes, there.deletes, here.guarded, there.guarded, same) (rw (same_itself d.adds) refl)

all_below : (count : ℕ) (xs : List ℕ) → All (λ k. k < count) xs → (k : ℕ) → is_member xs k ≡ true → k < count
all_below count xs below k member = All-contains (λ j. j < count) xs k below (Contains-from_any (λ a b same. eqb-true a b same) k xs member)

module _ (count : ℕ) (c d : Choice) (here : OnlyAdds count c) (there : OnlyAdds count d) where
  bits_tell : packed.packed (is_member c.adds) (words_for count) ≡ packed.packed (is_member d.adds) (words_for count)
      → (k : ℕ) → k < count → is_member c.adds k ≡ is_member d.adds k
  bits_tell same k within =
      let inside : nat_lt k (64 * words_for count) ≡ true = lt-ltb k (64 * words_for count) (omega (arith, within)) in
      ap (λ b. b && is_member c.adds k) (sym inside) ∙ sym (has_bit-packed (is_member c.adds) (words_for count) k)
      ∙ ap (λ s. has_bit s k) same ∙ has_bit-packed (is_member d.adds) (words_for count) k ∙ ap (λ b. b && is_member d.adds k) inside

  members_tell : packed.packed (is_member c.adds) (words_for count) ≡ packed.packed (is_member d.adds) (words_for count)
      → (k : ℕ) → is_member c.adds k ≡ is_member d.adds k
  members_tell same k =
      both_ways (is_member c.adds k) (is_member d.adds k)
      (λ member. sym (bits_tell same k (all_below count c.adds here.below k member)) ∙ member)
      (λ member. bits_tell same k (all_below count d.adds there.below k member) ∙ member)

  pub states_tell : same_choice c d ≡ false → packed.packed (is_member c.adds) (words_for count) ≢ packed.packed (is_member d.adds) (words_for count)
  states_tell differ same =
      let adds : c.adds ≡ d.adds
      = same_members c.adds d.adds (pairs_rise nat_cmp nat_cmp_total c.adds here.rise) (pairs_rise nat_cmp nat_cmp_total d.adds there.rise) (members_tell same) in
      let equal : same_choice c d ≡ true = same_adds count c d here there adds in absurd cc

pairs_of_members : {X : Type 0} (R S : X → X → Type 0) (xs : List X) → ((x y : X) → Contains xs x → Contains xs y → S x y → R x y)
    → AllPairs S xs → AllPairs R xs
pairs_of_members R S xs each pairs = λ i j d before within.
    each (slice_index_or xs i d) (slice_index_or xs j d) (Contains-get_or xs i d (omega (arith, before, within))) (Contains-get_or xs j d within) (pairs i j d before within)

den_above : (d g whole : ℕ) → 0 < whole → d * g ≡ whole → 1 ≤ d
den_above zero g whole above same = absurd (omega (arith, above, same))
den_above (suc d) g whole above same = omega arith

module _ (task : Task) (fit : IsWellFormed task) (charges : Charges) (within : IsWithin task charges) where
  abbrev count : ℕ
  count = length (numbering_of task).atoms

  abbrev init : List InitItem
  init = task.problem.init

  abbrev choices : List Choice
  choices = start_choices (numbering_of task) init

  abbrev divisor : ℕ
  divisor = start_divisor (numbering_of task) init

  abbrev Divided : Choice → Type 0
  Divided c = divisor ∣ c.weight

  divided : (c : Choice) → Contains choices c → divisor ∣ c.weight
  divided c inside = All-contains Divided choices c (divides_weights (starts_den init) choices) inside

  start_weighs : All (λ (x : Start). 0 < x.weight) (task_starts task charges).list
  start_weighs =
      All-map (λ (x : Start). 0 < x.weight) (packed_start count divisor) choices
      (all_from (λ c. 0 < c.weight / divisor) choices (λ c inside.
      divided_weighs c.weight divisor (divided c inside)
      (All-contains (λ (x : Choice). 0 < x.weight) choices c
      (product_weigh (idle 1 ∷ []) (map (item_choices (numbering_of task)) init) (one_weighs (idle 1) (omega arith))) inside)))

  starts_sum : total (λ (x : Start). x.weight) (task_starts task charges).list ≡ (task_starts task charges).den
  starts_sum =
      eq_of_mul-eq-mul_right divisor (divisor_positive task fit charges) (total (λ (x : Start). x.weight) (task_starts task charges).list) (task_starts task charges).den
      (ap (λ t. t * divisor) (total-map (λ (x : Start). x.weight) (packed_start count divisor) choices)
      ∙ sym (total-times (λ (c : Choice). c.weight / divisor) divisor choices)
      ∙ total-same (λ (c : Choice). c.weight / divisor * divisor) weight_of choices (λ c inside. div-mul_cancel divisor (divided c inside))
      ∙ choices_sum task fit charges ∙ sym (den_restored task fit charges))

  starts_weights : IsDistribution (λ (x : Start). x.weight) (task_starts task charges).list (task_starts task charges).den
  starts_weights = record {
    positive = start_weighs;
    sum = starts_sum;
    den_above = den_above (task_starts task charges).den divisor (starts_den init) (dens_positive task fit charges init (positive_denominators task fit charges).init)
        (den_restored task fit charges);
    den_within = omega (arith, div-le_self (starts_den init) divisor, within.starts_den);
  }

  starts_inside : All (IsInside count) (task_starts task charges).list
  starts_inside =
      All-map (IsInside count) (packed_start count divisor) choices (all_from (λ c. IsInside count (packed_start count divisor c)) choices (λ c inside.
      packed_inside count (is_member c.adds)
      (all_below count c.adds (All-contains (OnlyAdds count) choices c (start_adds (numbering_of task) init) inside).below)))

  start_states_differ : AllPairs (λ (x y : Start). x.state ≢ y.state) (task_starts task charges).list
  start_states_differ =
      pairs_map (λ (x y : Start). x.state ≢ y.state) (packed_start count divisor) choices
      (pairs_of_members (λ (c d : Choice). (packed_start count divisor c).state ≢ (packed_start count divisor d).state) Differ choices
      (λ c d inside there differ.
      states_tell count c d (All-contains (OnlyAdds count) choices c (start_adds (numbering_of task) init) inside)
      (All-contains (OnlyAdds count) choices d (start_adds (numbering_of task) init) there) differ)
      (starts_differ (numbering_of task) init))

  starts_count : length (task_starts task charges).list ≤ MOST_STARTS
  starts_count =
      let long = product_length (idle 1 ∷ []) (map (item_choices (numbering_of task)) init) in
      omega (arith, length-map choices (packed_start count divisor), long, within.starts)

  -- ---- actions

  module _ (positive_costs : (a : Action) → Contains task.domain.actions a → 1 ≤ sure_cost task charges a) where
    module _ (i : Instance) (kept : Contains (kept_instances task) i) where
      abbrev of_action : Contains task.domain.actions i.action
      of_action = (instance_parts task i (kept_is_instance task i kept)).0

      instance_within : IsWithinLimits (world task) (numbering_of task) i.action.effect i.binding (base_cost task charges)
      instance_within =
          let limited : IsLimited task charges i = All-contains (IsLimited task charges) (kept_instances task) i within.instances kept in
          record {
            denominator = All-contains (IsSmall task) task.domain.actions i.action within.actions of_action;
            choices = limited.0;
            costs = not-true (list_any is_dear (charged_choices (world task) (numbering_of task) i.action.effect i.binding (base_cost task charges))) limited.1;
          }

      pub action_is : IsAction count (ground_action task charges i)
      action_is =
          let meets = meets_invariant (world task) (numbering_of task) i.action.effect
          (All-contains (λ (a : Action). EachDraw SumWithinOne a.effect) task.domain.actions i.action (well_formed_sums task fit).actions of_action)
          i.binding (kept_is_valued task fit charges i kept) (base_cost task charges) (positive_costs i.action of_action) instance_within in
          record {
            condition = condition_below (world task) (numbering_of task) i.action.condition i.binding;
            weights = meets.0;
            choices = meets.1;
            count = meets.2;
          }

    pub problem_is_ground : IsPenalty charges.penalty → IsGroundProblem (ground_problem task charges)
    problem_is_ground penalty = record {
      atoms_rise = texts_rise (changing_atoms task);
      atoms_count = within.atoms;
      penalty_above = penalty.0;
      penalty_within = penalty.1;
      starts_weights = starts_weights;
      starts_inside = starts_inside;
      starts_differ = start_states_differ;
      starts_count = starts_count;
      goal = condition_below (world task) (numbering_of task) task.problem.goal [];
      actions = All-map (IsAction count) (ground_action task charges) (kept_instances task)
          (all_from (λ i. IsAction count (ground_action task charges i)) (kept_instances task) action_is);
      names_differ = pairs_map (λ (a b : GroundAction). a.name ≢ b.name) (ground_action task charges) (kept_instances task) (names_differ task fit);
      actions_count = omega (arith, length-map (kept_instances task) (ground_action task charges), within.count);
    }

    pub problem_is_of_task : IsPenalty charges.penalty → IsGroundOf (ground_problem task charges) task charges
    problem_is_of_task penalty = record {
      is_problem = problem_is_ground penalty;
      denominators = positive_denominators task fit charges;
      stands = problem_stands task fit charges (λ i kept. (action_is i kept).choices);
    }

-- ---- what is grounded

cost_is_positive : (n : ℕ) → (n == 0) ≡ false → 1 ≤ n
cost_is_positive n e = let other : n ≡ 0 → ⊥ = eqb-false n 0 e in omega (arith, other)

none_found : {X : Type 0} (p : X → Bool) (xs : List X) → find p xs ≡ None → (x : X) → Contains xs x → p x ≡ false
none_found p [] none x inside = absurd (Contains-nil x inside)
none_found p (y ∷ xs) none x inside = elim (cases_Bool (p y)) [
  | inl here ↦ let found : find p (y ∷ xs) ≡ Some y = rw here refl in absurd cc
  | inr other ↦
      let later : find p (y ∷ xs) ≡ find p xs = rw other refl in
      elim (Contains-cons_cases y xs x inside) [
        | inl first ↦ subst (λ z. p z ≡ false) first other
        | inr behind ↦ none_found p xs (sym later ∙ none) x behind
      ]
]

-- `charges_of` by its parts
abbrev charges_by : Option ℕ → Option ℕ → ℕ → Option Charges
charges_by penalty reward step_cost = elim penalty [
  | Some p ↦ Some (record { penalty = p; step_cost = step_cost })
  | None ↦ elim reward [
    | Some p ↦ Some (record { penalty = p; step_cost = step_cost })
    | None ↦ None
  ]
]

module _ (task : Task) (terms : Terms) (g : Ground) (fit : IsWellFormed task) (range : AreInRange terms) where
  not_refused : (found : Option Action) (u : Unit {0}) → refused_by task terms found ≡ Ok u → found ≡ None
  not_refused None u ok = refl
  not_refused (Some a) u ok = absurd cc

  has_charges : (found : Option Charges) (charges : Charges) → charged task terms found ≡ Ok charges → found ≡ Some charges
  has_charges None charges ok = absurd cc
  has_charges (Some x) charges ok = let same : x ≡ charges = cc in ap Some same

  is_limited : (charges : Charges) (tested : Result (Unit {0}) LimitCode) → limited task terms charges tested ≡ Ok g
      → (u : Unit {0}) × (tested ≡ Ok u) × (g ≡ ground_problem task charges)
  is_limited charges (Ok u) ok = let same : ground_problem task charges ≡ g = cc in (u, refl, sym same)
  is_limited charges (Err code) ok = absurd cc

  -- the penalty is that which is asked for, else the goal reward, and both are in range
  asked : (penalty : Option ℕ) (reward : Option ℕ) (charges : Charges) → IfSome penalty IsPenalty → reward_fits reward ≡ true
      → charges_by penalty reward terms.step_cost ≡ Some charges → IsPenalty charges.penalty × (charges.step_cost ≡ terms.step_cost)
  asked (Some p) reward charges penalty fits found =
      let same : record { penalty = p; step_cost = terms.step_cost } ≡ charges = cc in
      subst (λ (c : Charges). IsPenalty c.penalty × (c.step_cost ≡ terms.step_cost)) same (penalty, refl)
  asked None (Some p) charges penalty fits found =
      let same : record { penalty = p; step_cost = terms.step_cost } ≡ charges = cc in
      let parts = and_parts (nat_le 1 p) (nat_le p MOST_PENALTY) fits in
      subst (λ (c : Charges). IsPenalty c.penalty × (c.step_cost ≡ terms.step_cost)) same ((leb-true 1 p parts.0, leb-true p MOST_PENALTY parts.1), refl)
  asked None None charges penalty fits found = absurd cc

  costs_are_positive : free_action task terms ≡ None → (charges : Charges) → charges.step_cost ≡ terms.step_cost
      → (a : Action) → Contains task.domain.actions a → 1 ≤ sure_cost task charges a
  costs_are_positive none charges same a inside =
      let free : Action → Bool = λ x. sure_cost task (record { penalty = 0; step_cost = terms.step_cost }) x == 0 in
      let above : 1 ≤ sure_cost task (record { penalty = 0; step_cost = terms.step_cost }) a
      = cost_is_positive (sure_cost task (record { penalty = 0; step_cost = terms.step_cost }) a) (none_found free task.domain.actions none a inside) in
      subst (λ cost. 1 ≤ sure_cost task (record { penalty = charges.penalty; step_cost = cost }) a) (sym same) above

  pub is_grounded : grounded task terms ≡ Ok g
      → (charges : Charges) × (charges_of terms task ≡ Some charges) × (g ≡ ground_problem task charges) × IsGroundOf g task charges
  is_grounded found =
      let rest : Charges → Result Ground GroundRefusal = λ charges. limited task terms charges (limits task charges) in
      let one = both_are (refused_by task terms (free_action task terms)) (λ _. charged task terms (charges_of terms task) >>= rest) g found in
      let two = both_are (charged task terms (charges_of terms task)) rest g one.2 in
      let charges : Charges = two.0 in
      let three = is_limited charges (limits task charges) two.2 in
      let asked_for : charges_of terms task ≡ Some charges = has_charges (charges_of terms task) charges two.1 in
      let ranges = asked terms.penalty task.problem.goal_reward charges range.penalty fit.reward asked_for in (
        charges,
        asked_for,
        three.2,
        subst (λ (x : Ground). IsGroundOf x task charges) (sym three.2)
            (problem_is_of_task task fit charges (limits_are task charges three.0 three.1)
            (costs_are_positive (not_refused (free_action task terms) one.0 one.1) charges ranges.1) ranges.0),
      )

pub grounded_stands : laws.GroundedStands
grounded_stands task terms g fit range found = is_grounded task terms g fit range found
