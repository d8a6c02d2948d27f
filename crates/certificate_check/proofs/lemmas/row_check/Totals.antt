-- Sums over the choices so far, and how large they can be.
use Rattle.std.proofs.Common.{◌≡◌, ℕ, suc, zero, ◌+◌, ◌*◌, ◌<◌, ◌≤◌, ◌^◌, List, [], ◌∷◌, ◌++◌, length, take, sym, ap, subst, ◌∙◌, arith, get_or}
use Rattle.std.proofs.Math.Nat.{mul-le-mul_left}
use Rattle.std.proofs.lemmas.List.{take_more, take_all}
use Rattle.std.proofs.lemmas.List.Elements.{All-get_or}
use Rattle.plain_list.specs.weighted.Mean.{total}
use Rattle.plain_list.proofs.lemmas.weighted.Totals.{total-append, total-map}
use Rattle.ground_model.specs.declared.action.Choice.{Choice}
use Rattle.ground_model.specs.declared.action.GroundAction.{GroundAction}
use Rattle.decision_process.specs.Process.{at_starts}
use Rattle.decision_process.specs.Process.{Start as ProcessStart}
use Rattle.ground_model.specs.declared.start.Start.{Start}
use Rattle.ground_model.specs.Ground.{Ground}
use Rattle.ground_model.specs.Steps.{start_of, ground_starts, own_action_value}
use Rattle.ground_model.specs.Packed.{State, has_bit}
use Rattle.ground_model.specs.Choices.{cost_of, next_state}
use Rattle.ground_step.proofs.Outcomes.{cost_within}
use Rattle.ground_model.specs.Invariant.{IsChoice, IsAction, IsGroundProblem}

module _ {X : Type 0} (f : X → ℕ) where
  pub total_more : (items : List X) (i : ℕ) (x : X) → i < length items → x ≡ get_or items i x
      → total f (take (i + 1) items) ≡ total f (take i items) + f x
  total_more items i x within is =
      ap (total f) (take_more items i x within ∙ ap (λ y. take i items ++ y ∷ []) (sym is))
      ∙ total-append f (take i items) (x ∷ [])
      ∙ (let one : f x + 0 ≡ f x = omega arith in ap (λ n. total f (take i items) + n) one)

  pub total_part : (items : List X) (i : ℕ) → total f (take i items) ≤ total f items
  total_part items zero = omega arith
  total_part [] (suc i) = omega arith
  total_part (x ∷ items) (suc i) =
      (let rest : total f (take i items) ≤ total f items = total_part items i in omega (arith, rest))

pub choice_of : (n : ℕ) (a : GroundAction) → IsAction n a → (i : ℕ) (c : Choice) → i < length a.choices → c ≡ get_or a.choices i c
    → IsChoice n c
choice_of n a is i c within read = subst (IsChoice n) (sym read) (All-get_or (IsChoice n) a.choices i c within is.choices)

-- a turn of the sum stays within its bound, which fits 128 bits
pub turn_within : (sum before w cost value : ℕ) → sum ≤ before * 18446754073709551616 → cost ≤ 10000000000000
    → value < 2 ^ 64 → sum + w * (cost + value) ≤ (before + w) * 18446754073709551616
turn_within sum before w cost value bound small fits =
    let each : cost + value ≤ 18446754073709551616 = omega (arith, small, fits) in
    omega (arith, bound, mul-le-mul_left w each)

pub bound_fits : (sum weights : ℕ) → sum ≤ weights * 18446754073709551616 → weights ≤ 1000000000000000000 → sum < 2 ^ 128
bound_fits sum weights bound few = omega (arith, bound, few)

-- ---- the choices of an action

module _ (v : State → ℕ) (s : State) where
  abbrev pub value_of : Choice → ℕ
  value_of c = c.weight * (cost_of (has_bit s) c + v (next_state s c))

  -- the sum over the first i choices, and how large it can be
  pub record IsCostOf (items : List Choice) (i sum : ℕ) : Type 0 where
    pub is : sum ≡ total value_of (take i items)
    pub bound : sum ≤ total (λ (c : Choice). c.weight) (take i items) * 18446754073709551616

module _ (n : ℕ) (a : GroundAction) (is : IsAction n a) (s : State) (items : List Choice) (same : items ≡ a.choices)
    (i : ℕ) (c : Choice) (within : i < length items) (read : c ≡ get_or items i c) where
  abbrev weight_of : Choice → ℕ
  weight_of d = d.weight

  pub turn_choice : IsChoice n c
  turn_choice =
      choice_of n a is i c (omega (arith, within, ap length same)) (read ∙ ap (λ (xs : List Choice). get_or xs i c) same)

  weights_few : total weight_of (take (i + 1) items) ≤ 1000000000000000000
  weights_few =
      omega (arith, total_part weight_of items (i + 1), ap (total weight_of) same, is.weights.sum, is.weights.den_within)

  module _ (v : State → ℕ) (next : State) (sum w cost value : ℕ) (w_is : w ≡ c.weight)
      (cost_is : cost ≡ cost_of (has_bit s) c) (next_is : next ≡ next_state s c) (value_is : value ≡ v next)
      (small : value < 2 ^ 64) (so_far : IsCostOf v s items i sum) where
    turn_bound : sum + w * (cost + value) ≤ total weight_of (take (i + 1) items) * 18446754073709551616
    turn_bound =
        let cheap : cost ≤ 10000000000000 = omega (arith, cost_is, cost_within n c turn_choice (has_bit s)) in
        let more : total weight_of (take (i + 1) items) ≡ total weight_of (take i items) + w
        = total_more weight_of items i c within read ∙ ap (λ x. total weight_of (take i items) + x) (sym w_is) in
        subst (λ x. sum + w * (cost + value) ≤ x * 18446754073709551616) (sym more)
        (turn_within sum (total weight_of (take i items)) w cost value so_far.bound cheap small)

    pub turn_fits : sum + w * (cost + value) < 2 ^ 128
    turn_fits = bound_fits (sum + w * (cost + value)) (total weight_of (take (i + 1) items)) turn_bound weights_few

    pub turn_cost : IsCostOf v s items (i + 1) (sum + w * (cost + value))
    turn_cost = record {
      is = (λ j. so_far.is j + w_is j * (cost_is j + (value_is ∙ ap v next_is) j))
          ∙ sym (total_more (value_of v s) items i c within read);
      bound = turn_bound;
    }

pub cost_all : (v : State → ℕ) (a : GroundAction) (s : State) (items : List Choice) (i sum : ℕ) → items ≡ a.choices → length items ≤ i
    → IsCostOf v s items i sum → sum ≡ own_action_value v a s
cost_all v a s items i sum same past so_far =
    so_far.is ∙ ap (total (value_of v s)) (take_all i items past ∙ same)

-- ---- the initial states

module _ (v : State → ℕ) where
  abbrev pub start_value : Start → ℕ
  start_value x = x.weight * v x.state

  -- the sum over the first i initial states, and how large it can be
  pub record IsValueOf (items : List Start) (i sum : ℕ) : Type 0 where
    pub is : sum ≡ total start_value (take i items)
    pub bound : sum ≤ total (λ (x : Start). x.weight) (take i items) * 18446744073709551615

module _ (g : Ground) (is : IsGroundProblem g) (items : List Start) (same : items ≡ g.starts) (i : ℕ) (x : Start)
    (within : i < length items) (read : x ≡ get_or items i x) where
  abbrev start_weight : Start → ℕ
  start_weight y = y.weight

  module _ (v : State → ℕ) (sum w value : ℕ) (w_is : w ≡ x.weight) (value_is : value ≡ v x.state) (small : value < 2 ^ 64)
      (so_far : IsValueOf v items i sum) where
    start_bound : sum + w * value ≤ total start_weight (take (i + 1) items) * 18446744073709551615
    start_bound =
        let most : value ≤ 18446744073709551615 = omega (arith, small) in
        let more : total start_weight (take (i + 1) items) ≡ total start_weight (take i items) + w
        = total_more start_weight items i x within read ∙ ap (λ n. total start_weight (take i items) + n) (sym w_is) in
        omega (arith, so_far.bound, more, mul-le-mul_left w most)

    pub start_fits : sum + w * value < 2 ^ 128
    start_fits =
        omega (
          arith,
          start_bound,
          total_part start_weight items (i + 1),
          ap (total start_weight) same,
          is.starts_weights.sum,
          is.starts_weights.den_within,
        )

    pub start_more : IsValueOf v items (i + 1) (sum + w * value)
    start_more = record {
      is = (λ j. so_far.is j + w_is j * value_is j) ∙ sym (total_more (start_value v) items i x within read);
      bound = start_bound;
    }

pub start_total : (g : Ground) (v : State → ℕ) (items : List Start) (i sum : ℕ) → items ≡ g.starts → length items ≤ i
    → IsValueOf v items i sum → sum ≡ at_starts v (ground_starts g)
start_total g v items i sum same past so_far =
    so_far.is ∙ ap (total (start_value v)) (take_all i items past ∙ same)
    ∙ sym (total-map (λ (y : ProcessStart State). y.weight * v y.state) start_of g.starts)
