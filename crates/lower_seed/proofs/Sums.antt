-- The sum over the starts of the greater of their lower bounds and of what a rule answers, one start after another.
use Rattle.std.proofs.Common.{◌≡◌, ℕ, ◌+◌, ◌*◌, ◌^◌, ◌<◌, ◌≤◌, min, max, cond, List, [], ◌∷◌, ◌++◌, length, take, get_or, refl, sym, ap, subst, ◌∙◌, inl, inr, arith}
use Rattle.std.specs.Prelude.{◌≢◌, AllPairs, Contains}
use Rattle.std.proofs.Math.Nat.{mul-le-mul_left, mul-le-mul_right, div-le_of_le-mul}
use Rattle.std.proofs.lemmas.Bool.{cases_Bool}
use Rattle.std.proofs.lemmas.List.{take_more, length-take, get_or-take}
use Rattle.std.proofs.lemmas.List.Elements.{All-contains, Contains-push_cases}
use Rattle.std.proofs.lemmas.Option.{slice_get_read, get_or_from_slice_get}
use Rattle.plain_list.specs.weighted.Mean.{total}
use Rattle.plain_list.proofs.Members.{Contains-nil, Contains-map_cases}
use Rattle.plain_list.proofs.lemmas.weighted.Totals.{total-append, total-same, total-map}
use Rattle.decision_process.specs.Process.{at_starts}
use Rattle.decision_process.specs.Process.{Start as ProcessStart}
use Rattle.decision_process.specs.Backup.{floor}
use Rattle.decision_process.specs.Least.{CoversFromBelow}
use Rattle.decision_process.specs.Readings.{low, high, act}
use Rattle.decision_process.specs.under.Under.{IsUnder, AreBelowPlans, under_mean}
use Rattle.decision_process.proofs.lemmas.under.Means.{under_mean_is_below_plans, under_mean_is_higher}
use Rattle.ground_model.specs.declared.start.Start.{Start}
use Rattle.ground_model.specs.Packed.{State, same_state}
use Rattle.ground_model.specs.Ground.{Ground}
use Rattle.ground_model.specs.Invariant.{IsInside, IsGroundProblem}
use Rattle.ground_model.specs.Steps.{ground_process, ground_starts, start_of}
use Rattle.ground_model.proofs.Packed.{length-inside}
use Rattle.ground_model.proofs.Steps.{den_positive}
use Rattle.bound_core.specs.declared.image.ImageRow.{ImageRow}
use Rattle.bound_core.specs.Core.{width}
use Rattle.bound_core.specs.ends.Closing.{closing_rows, IsClosing}
use Rattle.bound_core.specs.ends.Ends.{closing_low}
use Rattle.bound_core.specs.ends.Sums.{over}
use Rattle.bound_core.proofs.lemmas.ends.Reading.{states_exact, low_read, lower_within}
use Rattle.bound_core.proofs.lemmas.ends.Totals.{total_part}
use Rattle.lower_seed.specs.Means.{greater, mean_with, IsUnderSum, IsUnderMean}

abbrev weight : Start → ℕ
weight x = x.weight

pub nothing_added : (answers : State → ℕ → Type 0) (g : Ground) (rows : List ImageRow) (sum : ℕ) → sum ≡ 0 → IsUnderSum answers g rows [] sum
nothing_added answers g rows sum is = record {
  value = λ s. 0;
  answered = λ x inside. absurd (Contains-nil x inside);
  under = λ x inside. absurd (Contains-nil x inside);
  sum_is = is;
  within_quit = omega arith;
}

module _ (xs : List Start) (i : ℕ) (x : Start) (within : i < length xs) (at : x ≡ get_or xs i x) where
  pub one_longer : take (i + 1) xs ≡ take i xs ++ x ∷ []
  one_longer = take_more xs i x within ∙ ap (λ (y : Start). take i xs ++ y ∷ []) (sym at)

  -- no start before it has its state
  apart : AllPairs (λ (y z : Start). y.state ≢ z.state) xs → (y : Start) → Contains (take i xs) y → y.state ≢ x.state
  apart differ y inside same =
      let k : ℕ = inside.0 in
      let long : length (take i xs) ≡ min i (length xs) = length-take i xs in
      let before : k < i = (let there = inside.1 in omega arith) in
      let first : get_or xs k y ≡ y = sym (get_or-take i xs k y before) ∙ inside.2 in
      let second : get_or xs i y ≡ x = get_or_from_slice_get xs i x y (slice_get_read xs (length xs) i x refl within at) in
      differ k i y before within (ap (λ (z : Start). z.state) first ∙ same ∙ sym (ap (λ (z : Start). z.state) second))

-- each start has the problem's length
inside_is_long : (g : Ground) → IsGroundProblem g → (y : Start) → Contains g.starts y → length y.state ≡ width g
inside_is_long g valid y inside =
    length-inside (length g.atoms) y.state (All-contains (IsInside (length g.atoms)) g.starts y valid.starts_inside inside)

pub start_is_long : (g : Ground) → IsGroundProblem g → (xs : List Start) → xs ≡ g.starts → (i : ℕ) (x : Start) → i < length xs → x ≡ get_or xs i x
    → length x.state ≡ width g
start_is_long g valid xs all i x within at =
    inside_is_long g valid x (subst (λ (l : List Start). Contains l x) all (i, within, sym at))

module _ (answers : State → ℕ → Type 0) (g : Ground) (valid : IsGroundProblem g) (rows : List ImageRow) (is : IsClosing g rows)
    (xs : List Start) (all : xs ≡ g.starts)
    (i : ℕ) (x : Start) (within : i < length xs) (at : x ≡ get_or xs i x)
    (row : ImageRow) (held : Contains rows row) (of_start : row.state ≡ x.state)
    (value : ℕ) (answered : answers x.state value) (under : IsUnder (ground_process g) value x.state)
    (sum : ℕ) (are : IsUnderSum answers g rows (take i xs) sum) where
  differ : AllPairs (λ (y z : Start). y.state ≢ z.state) xs
  differ = subst (AllPairs (λ (y z : Start). y.state ≢ z.state)) (sym all) valid.starts_differ

  -- the answers so far, with that for the start
  answer : State → ℕ
  answer t = cond (same_state t x.state) value (are.value t)

  answer_here : answer x.state ≡ value
  unfolding answer
  answer_here = ap (λ b. cond b value (are.value x.state)) ((states_exact x.state x.state).1 refl)

  answer_before : (y : Start) → Contains (take i xs) y → answer y.state ≡ are.value y.state
  unfolding answer
  answer_before y inside = elim (cases_Bool (same_state y.state x.state)) [
    | inl on ↦ absurd (apart xs i x within at differ y inside ((states_exact y.state x.state).0 on))
    | inr off ↦ ap (λ b. cond b value (are.value y.state)) off
  ]

  -- what holds of the answers so far and of this one holds of all
  each_answer : (P : State → ℕ → Type 0) → ((y : Start) → Contains (take i xs) y → P y.state (are.value y.state)) → P x.state value
      → (y : Start) → Contains (take i xs ++ x ∷ []) y → P y.state (answer y.state)
  each_answer P before here y inside = elim (Contains-push_cases (take i xs) x y inside) [
    | inl earlier ↦ subst (P y.state) (sym (answer_before y earlier)) (before y earlier)
    | inr this ↦ subst (λ (z : Start). P z.state (answer z.state)) this (subst (P x.state) (sym answer_here) here)
  ]

  low_here : low same_state (closing_rows rows) x.state ≡ row.lower
  low_here = ap (low same_state (closing_rows rows)) (sym of_start) ∙ low_read g rows is row held

  greater_here : greater rows answer x.state ≡ max row.lower value
  greater_here = ap (λ n. max n (answer x.state)) low_here ∙ ap (λ n. max row.lower n) answer_here

  sum_more : sum + x.weight * max row.lower value ≡ over (greater rows answer) (take i xs ++ x ∷ [])
  sum_more =
      let before : over (greater rows answer) (take i xs) ≡ over (greater rows are.value) (take i xs)
      = total-same (λ (y : Start). y.weight * greater rows answer y.state) (λ (y : Start). y.weight * greater rows are.value y.state) (take i xs)
      (λ y inside. ap (λ n. y.weight * max (low same_state (closing_rows rows) y.state) n) (answer_before y inside)) in
      let all : over (greater rows answer) (take i xs ++ x ∷ []) ≡ over (greater rows answer) (take i xs) + (x.weight * greater rows answer x.state + 0)
      = total-append (λ (y : Start). y.weight * greater rows answer y.state) (take i xs) (x ∷ []) in
      let here : x.weight * greater rows answer x.state ≡ x.weight * max row.lower value = ap (λ n. x.weight * n) greater_here in
      let so_far = are.sum_is in
      omega arith

  quit_more : sum + x.weight * max row.lower value ≤ total weight (take i xs ++ x ∷ []) * g.penalty
  quit_more =
      let lower : row.lower ≤ g.penalty = lower_within g rows is row held in
      let small : max row.lower value ≤ g.penalty = (let v = under.0 in omega arith) in
      let scaled : x.weight * max row.lower value ≤ x.weight * g.penalty = mul-le-mul_left x.weight small in
      let all : total weight (take i xs ++ x ∷ []) ≡ total weight (take i xs) + (x.weight + 0) = total-append weight (take i xs) (x ∷ []) in
      let split : (total weight (take i xs) + (x.weight + 0)) * g.penalty ≡ total weight (take i xs) * g.penalty + x.weight * g.penalty = grind arith in
      let whole : total weight (take i xs ++ x ∷ []) * g.penalty ≡ (total weight (take i xs) + (x.weight + 0)) * g.penalty = ap (λ n. n * g.penalty) all in
      let so_far = are.within_quit in
      omega arith

  -- what is added, by another name of the row
  added : (r : ImageRow) → row ≡ r → sum + x.weight * max r.lower value ≡ sum + x.weight * max row.lower value
  added r same = ap (λ (q : ImageRow). sum + x.weight * max q.lower value) (sym same)

  pub one_more : (r : ImageRow) → row ≡ r → (sum' : ℕ) → sum' ≡ sum + x.weight * max r.lower value → IsUnderSum answers g rows (take (i + 1) xs) sum'
  one_more r same sum' is_sum =
      subst (λ (l : List Start). IsUnderSum answers g rows l sum') (sym (one_longer xs i x within at)) (record {
        value = answer;
        answered = each_answer answers are.answered answered;
        under = each_answer (λ s n. IsUnder (ground_process g) n s) are.under under;
        sum_is = is_sum ∙ added r same ∙ sum_more;
        within_quit = (let quit = quit_more in let is = added r same in omega arith);
      })

  -- the sum has room
  pub fits : (r : ImageRow) → row ≡ r → sum + x.weight * max r.lower value < 2 ^ 128
  fits r same =
      let part : total weight (take (i + 1) xs) ≤ total weight xs = total_part weight xs (i + 1) in
      let longer : total weight (take (i + 1) xs) ≡ total weight (take i xs ++ x ∷ []) = ap (total weight) (one_longer xs i x within at) in
      let whole : total weight xs ≡ g.start_den = ap (total weight) all ∙ valid.starts_weights.sum in
      let den = valid.starts_weights.den_within in
      let few : total weight (take i xs ++ x ∷ []) ≤ 10 ^ 18 = omega arith in
      let a : total weight (take i xs ++ x ∷ []) * g.penalty ≤ 10 ^ 18 * g.penalty = mul-le-mul_right g.penalty few in
      let b = valid.penalty_within in let c = quit_more in
      let most : 10 ^ 18 * g.penalty ≤ 10 ^ 18 * 10 ^ 14 = mul-le-mul_left (10 ^ 18) (let e : g.penalty ≤ 10 ^ 14 = omega arith in e) in
      let is = added r same in
      omega arith

-- ---- the mean

over_starts : (f : State → ℕ) (g : Ground) → over f g.starts ≡ at_starts f (ground_starts g)
over_starts f g = sym (total-map (λ (y : ProcessStart State). y.weight * f y.state) start_of g.starts)

-- where the values at the starts are those of f, so is the mean
mean_same : (g : Ground) (rows : List ImageRow) (value f : State → ℕ) → ((y : Start) → Contains g.starts y → value y.state ≡ f y.state)
    → mean_with g rows value ≡ mean_with g rows f
mean_same g rows value f each =
    let lows : State → ℕ = low same_state (closing_rows rows) in
    ap (λ n. floor n g.start_den)
    (total-same (λ (x : ProcessStart State). x.weight * max (lows x.state) (value x.state)) (λ (x : ProcessStart State). x.weight * max (lows x.state) (f x.state)) (ground_starts g)
    (λ x inside.
    let found : (y : Start) × Contains g.starts y × (start_of y ≡ x) = Contains-map_cases start_of g.starts x inside in
    ap (λ n. x.weight * max (lows x.state) n) (subst (λ (z : ProcessStart State). value z.state ≡ f z.state) found.2 (each found.0 found.1))))

module _ (answers : State → ℕ → Type 0) (g : Ground) (rows : List ImageRow) (sum : ℕ) (are : IsUnderSum answers g rows g.starts sum) where
  abbrev lows : State → ℕ
  lows = low same_state (closing_rows rows)

  mean_of : floor sum g.start_den ≡ under_mean lows are.value (ground_starts g) g.start_den
  mean_of = ap (λ n. floor n g.start_den) (are.sum_is ∙ over_starts (greater rows are.value) g)

  pub is_mean : IsGroundProblem g → (mean : ℕ) → mean ≡ floor sum g.start_den → IsUnderMean answers g rows mean
  is_mean valid mean is = record {
    value = are.value;
    answered = are.answered;
    mean_is = is ∙ mean_of;
    determined = λ f only. is ∙ mean_of ∙ mean_same g rows are.value f
        (λ y inside. only y.state (are.value y.state) (inside_is_long g valid y inside) (are.answered y inside));
  }

  pub is_higher : (mean : ℕ) → mean ≡ floor sum g.start_den → closing_low g rows ≤ mean
  is_higher mean is =
      subst (λ n. closing_low g rows ≤ n) (sym (is ∙ mean_of)) (under_mean_is_higher lows are.value (ground_starts g) g.start_den)

  pub is_within : IsGroundProblem g → (mean : ℕ) → mean ≡ floor sum g.start_den → mean ≤ g.penalty
  is_within valid mean is =
      let small : sum ≤ g.start_den * g.penalty = subst (λ n. sum ≤ n * g.penalty) valid.starts_weights.sum are.within_quit in
      let below : floor sum g.start_den ≤ g.penalty = div-le_of_le-mul g.start_den small in
      omega arith

  covers : (x : ProcessStart State) → Contains (ground_starts g) x → CoversFromBelow (ground_process g) (are.value x.state) x.state
  covers x inside =
      let found : (y : Start) × Contains g.starts y × (start_of y ≡ x) = Contains-map_cases start_of g.starts x inside in
      subst (λ (z : ProcessStart State). CoversFromBelow (ground_process g) (are.value z.state) z.state) found.2 (are.under found.0 found.1).1

  pub is_below : IsGroundProblem g → IsClosing g rows → (mean : ℕ) → mean ≡ floor sum g.start_den
      → AreBelowPlans (ground_process g) (ground_starts g) g.start_den mean
  is_below valid closing mean is =
      subst (λ n. AreBelowPlans (ground_process g) (ground_starts g) g.start_den n) (sym (is ∙ mean_of))
      (under_mean_is_below_plans (ground_process g) (den_positive g valid) lows (high (ground_process g) same_state (closing_rows rows))
      (act same_state (closing_rows rows)) closing.balanced are.value (ground_starts g) g.start_den covers)
