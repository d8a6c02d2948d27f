-- The greatest relaxed cost is consistent: the prices of a state, less what a choice costs, are a potential of the next state.
use Rattle.std.proofs.Common.{◌≡◌, ℕ, ◌+◌, ◌-◌, ◌*◌, ◌/◌, ◌<◌, ◌≤◌, max, Bool, true, false, cond, not, ◌&&◌, List, [], ◌∷◌, ◌++◌, map, filter, length, Option, Some, None, refl, sym, subst, ◌∙◌, inl, inr, arith}
use Rattle.std.specs.Prelude.{All, Contains, nat_eq, nat_lt}
use Rattle.std.specs.List.{range_with_len, slice_get}
use Rattle.std.proofs.lemmas.Bool.{or_cases, and_parts, eqb-true}
use Rattle.std.proofs.lemmas.List.Elements.{All-nil, All-head, All-tail, All-append, All-weaker, All-contains, filter_passes}
use Rattle.plain_list.proofs.Members.{Contains-first, Contains-later, Contains-map_cases}
use Rattle.decision_process.specs.Process.{Outcome}
use Rattle.decision_process.specs.under.Under.{IsUnder}
use Rattle.ground_model.specs.declared.action.Choice.{Choice}
use Rattle.ground_model.specs.declared.action.GroundAction.{GroundAction}
use Rattle.ground_model.specs.declared.action.Guarded.{Guarded}
use Rattle.ground_model.specs.Packed.{State, has_bit}
use Rattle.ground_model.specs.Truth.{truth}
use Rattle.ground_model.specs.Choices.{is_member, active_adds, active_deletes, active_cost, after, cost_of, next_state}
use Rattle.ground_model.specs.Ground.{Ground}
use Rattle.ground_model.specs.Invariant.{IsGuarded, IsChoice, IsAction, IsGroundProblem}
use Rattle.ground_model.specs.Steps.{den_of, is_open_at, is_open, outcome_of, step_at, ground_process}
use Rattle.ground_model.proofs.Packed.{has_bit-packed}
use Rattle.ground_model.proofs.Steps.{slice_get-contains, has_denominator, costs_at_least, least_cost_above}
use Rattle.relaxed_seed.specs.Prices.{price}
use Rattle.relaxed_seed.specs.Potential.{AllowsGuarded, AllowsChoice, AllowsAction, IsPotential, IsRelaxed}
use Rattle.relaxed_seed.specs.Laws.{RelaxedIsConsistent, RelaxedIsUnder}
use Rattle.relaxed_seed.proofs.PriceBounds.{price_falls, price_rises, price_within, free_as}
use Rattle.relaxed_seed.proofs.Greatest.{has_relaxed, relaxed_is_determined}
use Rattle.relaxed_seed.proofs.ConsistentUnder.{consistent_is_under}

-- ---- atoms that become true

pub member_has : (P : ℕ → Type 0) (atoms : List ℕ) (q : ℕ) → All P atoms → is_member atoms q ≡ true → P q
member_has P [] q all inside = absurd cc
member_has P (a ∷ atoms) q all inside = elim (or_cases (nat_eq q a) (is_member atoms q) inside) [
  | inl here ↦ subst P (sym (eqb-true q a here)) (All-head P a atoms all)
  | inr there ↦ member_has P atoms q (All-tail P a atoms all) there
]

chosen_has : (P : ℕ → Type 0) (b : Bool) (atoms : List ℕ) → (b ≡ true → All P atoms) → All P (cond b atoms [])
chosen_has P true atoms where_true = where_true refl
chosen_has P false atoms where_true = All-nil P

active_has : (P : ℕ → Type 0) (bit : ℕ → Bool) (parts : List Guarded)
    → ((x : Guarded) → Contains parts x → truth bit x.condition ≡ true → All P x.adds) → All P (active_adds bit parts)
active_has P bit [] each = All-nil P
active_has P bit (x ∷ parts) each =
    All-append P (cond (truth bit x.condition) x.adds []) (active_adds bit parts)
    (chosen_has P (truth bit x.condition) x.adds (each x (Contains-first x parts)))
    (active_has P bit parts (λ y inside holds. each y (Contains-later x parts y inside) holds))

own_cost : (r cost base : ℕ) → r ≤ cost + base → base ≡ 0 → r ≤ cost
own_cost r cost base below none = omega (arith, below, none)

own_cost_guarded : (r cost base guard : ℕ) → r ≤ cost + max base guard → base ≡ 0 → guard ≡ 0 → r ≤ cost
own_cost_guarded r cost base guard below none other = omega (arith, below, none, other)

none_left : (r cost : ℕ) → r ≤ cost → r - cost ≡ 0
none_left r cost below = omega (arith, below)

free_left : (r cost : ℕ) → r ≡ 0 → r - cost ≡ 0
free_left r cost none = omega (arith, none)

less_within : (r cost top : ℕ) → r ≤ top → r - cost ≤ top
less_within r cost top below = omega (arith, below)

paid_back : (r cost : ℕ) → r ≤ cost + (r - cost)
paid_back r cost = omega arith

less_of_adds : (r k cost base base' : ℕ) → r ≤ cost + base → base ≤ k + base' → r - k ≤ cost + base'
less_of_adds r k cost base base' below falls = omega (arith, below, falls)

less_of_guarded : (r k cost base base' guard guard' : ℕ) → r ≤ cost + max base guard → base ≤ k + base' → guard ≤ k + guard'
    → r - k ≤ cost + max base' guard'
less_of_guarded r k cost base base' guard guard' below falls other = omega (arith, below, falls, other)

in_all : (v here k q' r' v' more : ℕ) → v ≡ here → here ≤ k + q' → q' ≤ r' → v' ≡ r' → v ≤ (k + more) + v'
in_all v here k q' r' v' more is falls rises is' = omega (arith, is, falls, rises, is')

module _ (g : Ground) (valid : IsGroundProblem g) (s : State) (r : ℕ → ℕ) (potential : IsPotential g s r) where
  condition_is_free : (a : GroundAction) → Contains g.actions a → truth (has_bit s) a.condition ≡ true → price r g.penalty a.condition ≡ 0
  condition_is_free a member opens =
      free_as g.penalty (length g.atoms) (has_bit s) r potential.at_true true a.condition
      (All-contains (IsAction (length g.atoms)) g.actions a valid.actions member).condition opens

  module _ (a : GroundAction) (member : Contains g.actions a) (opens : truth (has_bit s) a.condition ≡ true) (c : Choice) (inside : Contains a.choices c) where
    allows : AllowsChoice g.penalty (price r g.penalty a.condition) r c
    allows =
        All-contains (AllowsChoice g.penalty (price r g.penalty a.condition) r) a.choices c
        (All-contains (AllowsAction g.penalty r) g.actions a potential.allowed member) inside

    choice_is : IsChoice (length g.atoms) c
    choice_is =
        All-contains (IsChoice (length g.atoms)) a.choices c
        (All-contains (IsAction (length g.atoms)) g.actions a valid.actions member).choices inside

    -- what the choice makes true is priced within its cost
    added_within : All (λ q. r q ≤ c.cost) (c.adds ++ active_adds (has_bit s) c.guarded)
    added_within =
        All-append (λ q. r q ≤ c.cost) c.adds (active_adds (has_bit s) c.guarded)
        (All-weaker (λ q. r q ≤ c.cost + price r g.penalty a.condition) (λ q. r q ≤ c.cost)
        (λ q below. own_cost (r q) c.cost (price r g.penalty a.condition) below (condition_is_free a member opens)) c.adds allows.adds)
        (active_has (λ q. r q ≤ c.cost) (has_bit s) c.guarded
        (λ x part holds. All-weaker (λ q. r q ≤ c.cost + max (price r g.penalty a.condition) (price r g.penalty x.condition)) (λ q. r q ≤ c.cost)
        (λ q below. own_cost_guarded (r q) c.cost (price r g.penalty a.condition) (price r g.penalty x.condition) below
        (condition_is_free a member opens)
        (free_as g.penalty (length g.atoms) (has_bit s) r potential.at_true true x.condition
        (All-contains (IsGuarded (length g.atoms)) c.guarded x choice_is.guarded part).condition holds))
        x.adds (All-contains (AllowsGuarded g.penalty (price r g.penalty a.condition) c.cost r) c.guarded x allows.guarded part)))

    abbrev less : ℕ → ℕ
    less q = r q - c.cost

    less_at_true : (q : ℕ) → q < length g.atoms → has_bit (next_state s c) q ≡ true → less q ≡ 0
    less_at_true q below on =
        let set : after (has_bit s) c q ≡ true
        = (and_parts (nat_lt q (64 * length s)) (after (has_bit s) c q) (sym (has_bit-packed (after (has_bit s) c) (length s) q) ∙ on)).1 in
        let kept : Bool = has_bit s q && not (is_member (c.deletes ++ active_deletes (has_bit s) c.guarded) q) in
        elim (or_cases (is_member (c.adds ++ active_adds (has_bit s) c.guarded) q) kept set) [
          | inl added ↦
              none_left (r q) c.cost
              (member_has (λ p. r p ≤ c.cost) (c.adds ++ active_adds (has_bit s) c.guarded) q added_within added)
          | inr stays ↦
              free_left (r q) c.cost
              (potential.at_true q below
              (and_parts (has_bit s q) (not (is_member (c.deletes ++ active_deletes (has_bit s) c.guarded) q)) stays).0)
        ]

    falls : (condition : _) → price r g.penalty condition ≤ c.cost + price less g.penalty condition
    falls condition = price_falls g.penalty c.cost r less (λ q. paid_back (r q) c.cost) true condition

    less_allowed : (b : GroundAction) (d : Choice) → AllowsChoice g.penalty (price r g.penalty b.condition) r d
        → AllowsChoice g.penalty (price less g.penalty b.condition) less d
    less_allowed b d is = record {
      adds = All-weaker (λ q. r q ≤ d.cost + price r g.penalty b.condition) (λ q. less q ≤ d.cost + price less g.penalty b.condition)
          (λ q below. less_of_adds (r q) c.cost d.cost (price r g.penalty b.condition) (price less g.penalty b.condition) below (falls b.condition))
          d.adds is.adds;
      guarded = All-weaker (AllowsGuarded g.penalty (price r g.penalty b.condition) d.cost r)
          (AllowsGuarded g.penalty (price less g.penalty b.condition) d.cost less)
          (λ x each. All-weaker (λ q. r q ≤ d.cost + max (price r g.penalty b.condition) (price r g.penalty x.condition))
          (λ q. less q ≤ d.cost + max (price less g.penalty b.condition) (price less g.penalty x.condition))
          (λ q below. less_of_guarded (r q) c.cost d.cost (price r g.penalty b.condition) (price less g.penalty b.condition)
          (price r g.penalty x.condition) (price less g.penalty x.condition) below (falls b.condition) (falls x.condition)) x.adds each)
          d.guarded is.guarded;
    }

    less_is_potential : IsPotential g (next_state s c) less
    less_is_potential = record {
      within_quit = λ q. less_within (r q) c.cost g.penalty (potential.within_quit q);
      at_true = less_at_true;
      allowed = All-weaker (AllowsAction g.penalty r) (AllowsAction g.penalty less)
          (λ b each. All-weaker (AllowsChoice g.penalty (price r g.penalty b.condition) r)
          (AllowsChoice g.penalty (price less g.penalty b.condition) less) (less_allowed b) b.choices each) g.actions potential.allowed;
    }

-- ---- the process

found_open : (found : Option GroundAction) (s : State) → is_open_at found s ≡ true
    → (a : GroundAction) × (found ≡ Some a) × (truth (has_bit s) a.condition ≡ true)
found_open None s opens = absurd cc
found_open (Some a) s opens = (a, refl, opens)

module _ (g : Ground) (valid : IsGroundProblem g) where
  step_of_choice : (s : State) (v : ℕ) → IsRelaxed g s v → (a : GroundAction) → Contains g.actions a → truth (has_bit s) a.condition ≡ true
      → (c : Choice) → Contains a.choices c → (v' : ℕ) → IsRelaxed g (next_state s c) v' → v ≤ cost_of (has_bit s) c + v'
  step_of_choice s v is a member opens c inside v' is' =
      let r = is.prices in let potential = is.greatest.potential in
      let q = less g valid s r potential a member opens c inside in
      in_all v (price r g.penalty g.goal) c.cost (price q g.penalty g.goal) (price is'.prices g.penalty g.goal) v' (active_cost (has_bit s) c.guarded)
      is.value_is (falls g valid s r potential a member opens c inside g.goal)
      (price_rises g.penalty q is'.prices (is'.greatest.greatest q (less_is_potential g valid s r potential a member opens c inside)) g.goal) is'.value_is

  pub relaxed_is_consistent : RelaxedIsConsistent g
  relaxed_is_consistent h are = record {
    within_quit = λ s.
        let is = are s in
        subst (λ n. n ≤ g.penalty) (sym is.value_is) (price_within g.penalty is.prices is.greatest.potential.within_quit true g.goal);
    at_goal = λ s on.
        let is = are s in
        is.value_is ∙ free_as g.penalty (length g.atoms) (has_bit s) is.prices is.greatest.potential.at_true true g.goal valid.goal on;
    steps = λ s off k chosen o there.
        let opens : is_open g k s ≡ true
        = All-contains (λ j. is_open g j s ≡ true) (filter (λ j. is_open g j s) (range_with_len 0 (length g.actions)))
        k (filter_passes (λ j. is_open g j s) (range_with_len 0 (length g.actions))) chosen in
        let found : (a : GroundAction) × (slice_get g.actions k ≡ Some a) × (truth (has_bit s) a.condition ≡ true)
        = found_open (slice_get g.actions k) s opens in
        let a : GroundAction = found.0 in
        let listed : Contains (map (outcome_of (den_of g.actions / a.den) s) a.choices) o
        = subst (λ (x : Option GroundAction). Contains (step_at (den_of g.actions) x s) o) found.1 there in
        let choice : (c : Choice) × Contains a.choices c × (outcome_of (den_of g.actions / a.den) s c ≡ o)
        = Contains-map_cases (outcome_of (den_of g.actions / a.den) s) a.choices o listed in
        let c : Choice = choice.0 in
        subst (λ (x : Outcome State). h s ≤ x.cost + h x.next) choice.2
        (step_of_choice s (h s) (are s) a (slice_get-contains g.actions k a found.1) found.2 c choice.1 (h (next_state s c)) (are (next_state s c)));
  }

  pub relaxed_is_under : RelaxedIsUnder g
  relaxed_is_under s value is =
      let h : State → ℕ = λ t. (has_relaxed g valid t).0 in
      let same : value ≡ h s = relaxed_is_determined g s value (h s) is (has_relaxed g valid s).1 in
      subst (λ v. IsUnder (ground_process g) v s) (sym same)
      (consistent_is_under (ground_process g) (has_denominator g valid)
      (λ k t chosen o there. (let least = costs_at_least g valid k t chosen o there in let above = least_cost_above g valid in omega (arith, least, above)))
      h (relaxed_is_consistent h (λ t. (has_relaxed g valid t).1)) s)
