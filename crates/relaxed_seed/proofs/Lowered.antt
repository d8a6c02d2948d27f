-- Prices that are lowered by one item of a list after another.
use Rattle.std.proofs.Common.{◌≡◌, ℕ, ◌+◌, ◌<◌, ◌≤◌, max, Bool, false, ◌||◌, List, [], ◌∷◌, ◌++◌, length, take, get_or, refl, sym, ap, subst, ◌∙◌, inl, inr, arith}
use Rattle.std.specs.Prelude.{All, Contains}
use Rattle.std.specs.List.{sum}
use Rattle.std.proofs.Math.Nat.{le_refl, le_trans}
use Rattle.std.proofs.lemmas.Bool.{cases_Bool, or_parts, or_cases}
use Rattle.std.proofs.lemmas.List.{take_more}
use Rattle.std.proofs.lemmas.List.Elements.{All-nil, All-head, All-push, All-weaker, All-contains_itself}
use Rattle.ground_model.specs.declared.action.Choice.{Choice}
use Rattle.ground_model.specs.declared.action.GroundAction.{GroundAction}
use Rattle.ground_model.specs.declared.action.Guarded.{Guarded}
use Rattle.ground_model.specs.declared.condition.GroundCondition.{GroundCondition}
use Rattle.relaxed_seed.specs.Prices.{price, prices_at}
use Rattle.relaxed_seed.specs.Potential.{AllowsGuarded, AllowsChoice, AllowsAction}
use Rattle.relaxed_seed.specs.Lowering.{AreWithin, IsLowered}
use Rattle.relaxed_seed.proofs.PriceBounds.{All-append_left, All-append_right, price_rises}

less_or_same : (a b : ℕ) → a ≡ b → b ≤ a
less_or_same a b same = omega (arith, same)

module _ (penalty : ℕ) where
  -- no sum grows
  sum_no_more : (Allows : (ℕ → ℕ) → Type 0) (a b : List ℕ) (fell : Bool) → IsLowered penalty Allows a b fell → sum b ≤ sum a
  sum_no_more Allows a b fell is = elim (cases_Bool fell) [
    | inl fallen ↦ (let less = is.falls fallen in omega (arith, less))
    | inr rested ↦ less_or_same (sum a) (sum b) (sym (ap sum ((is.rests rested).0)))
  ]

  pub within_still : (Allows : (ℕ → ℕ) → Type 0) (a b : List ℕ) (fell : Bool) → IsLowered penalty Allows a b fell
      → AreWithin penalty a → AreWithin penalty b
  within_still Allows a b fell is within = λ q. le_trans (is.below q) (within q)

  -- what is asked may be said otherwise
  pub lowered_same : (Allows Allows' : (ℕ → ℕ) → Type 0) → ((r : ℕ → ℕ) → Allows r → Allows' r) → ((r : ℕ → ℕ) → Allows' r → Allows r)
      → (a b : List ℕ) (fell : Bool) → IsLowered penalty Allows a b fell → IsLowered penalty Allows' a b fell
  lowered_same Allows Allows' there back a b fell is = record {
    same_length = is.same_length;
    below = is.below;
    above = λ r under allows. is.above r under (back r allows);
    rests = λ rested. ((is.rests rested).0, there (prices_at b penalty) (is.rests rested).1);
    falls = is.falls;
  }

  -- nothing is asked
  pub lowered_none : (Allows : (ℕ → ℕ) → Type 0) → (a : List ℕ) → Allows (prices_at a penalty) → IsLowered penalty Allows a a false
  lowered_none Allows a allows = record {
    same_length = refl;
    below = λ q. le_refl (prices_at a penalty q);
    above = λ r under _. under;
    rests = λ _. (refl, allows);
    falls = λ fallen. absurd cc;
  }

  -- one lowering after another
  pub lowered_then : (First Second : (ℕ → ℕ) → Type 0) (a b c : List ℕ) (f s : Bool) → IsLowered penalty First a b f
      → IsLowered penalty Second b c s → IsLowered penalty (λ r. First r × Second r) a c (f || s)
  lowered_then First Second a b c f s one other = record {
    same_length = other.same_length ∙ one.same_length;
    below = λ q. le_trans (other.below q) (one.below q);
    above = λ r under allows. other.above r (one.above r under allows.0) allows.1;
    rests = λ rested.
        let parts = or_parts f s rested in
        let first = one.rests parts.0 in
        let second = other.rests parts.1 in
        (second.0 ∙ first.0, (subst (λ (l : List ℕ). First (prices_at l penalty)) (sym second.0) first.1, second.1));
    falls = λ fallen. elim (or_cases f s fallen) [
      | inl here ↦
          (let less = one.falls here in let more = sum_no_more Second b c s other in omega (arith, less, more))
      | inr there ↦
          (let less = other.falls there in let more = sum_no_more First a b f one in omega (arith, less, more))
    ];
  }

  module _ {X : Type 0} (Allows : X → (ℕ → ℕ) → Type 0) where
    abbrev pub AllowEach : List X → (ℕ → ℕ) → Type 0
    AllowEach xs r = All (λ x. Allows x r) xs

    pub lowered_by_none : (xs : List X) (a : List ℕ) → IsLowered penalty (AllowEach []) a a false
    lowered_by_none xs a = lowered_none (AllowEach []) a (All-nil (λ x. Allows x (prices_at a penalty)))

    more_allow : (xs : List X) (i : ℕ) (x d : X) → i < length xs → x ≡ get_or xs i d → (r : ℕ → ℕ)
        → AllowEach (take i xs) r × Allows x r → AllowEach (take (i + 1) xs) r
    more_allow xs i x d within at r both =
        subst (λ (l : List X). AllowEach l r) (sym (take_more xs i d within ∙ ap (λ y. take i xs ++ y ∷ []) (sym at)))
        (All-push (λ y. Allows y r) (take i xs) x both.0 both.1)

    fewer_allow : (xs : List X) (i : ℕ) (x d : X) → i < length xs → x ≡ get_or xs i d → (r : ℕ → ℕ)
        → AllowEach (take (i + 1) xs) r → AllowEach (take i xs) r × Allows x r
    fewer_allow xs i x d within at r whole =
        let more = subst (λ (l : List X). AllowEach l r) (take_more xs i d within ∙ ap (λ y. take i xs ++ y ∷ []) (sym at)) whole in
        (All-append_left (λ y. Allows y r) (take i xs) (x ∷ []) more, All-head (λ y. Allows y r) x [] (All-append_right (λ y. Allows y r) (take i xs) (x ∷ []) more))

    -- the items so far, with one more
    pub lowered_by_more : (xs : List X) (i : ℕ) (x d : X) → i < length xs → x ≡ get_or xs i d → (a b c : List ℕ) (f s : Bool)
        → IsLowered penalty (AllowEach (take i xs)) a b f → IsLowered penalty (Allows x) b c s
        → IsLowered penalty (AllowEach (take (i + 1) xs)) a c (f || s)
    lowered_by_more xs i x d within at a b c f s so_far one =
        lowered_same (λ r. AllowEach (take i xs) r × Allows x r) (AllowEach (take (i + 1) xs)) (more_allow xs i x d within at)
        (fewer_allow xs i x d within at) a c (f || s) (lowered_then (AllowEach (take i xs)) (Allows x) a b c f s so_far one)

    -- the same beside a first fact
    pub lowered_beside : (First : (ℕ → ℕ) → Type 0) (a b : List ℕ) (f : Bool) → IsLowered penalty First a b f
        → IsLowered penalty (λ r. First r × AllowEach [] r) a b f
    lowered_beside First a b f is =
        lowered_same First (λ r. First r × AllowEach [] r) (λ r first. (first, All-nil (λ x. Allows x r))) (λ r both. both.0) a b f is

    pub lowered_by_more_beside : (First : (ℕ → ℕ) → Type 0) (xs : List X) (i : ℕ) (x d : X) → i < length xs → x ≡ get_or xs i d
        → (a b c : List ℕ) (f s : Bool) → IsLowered penalty (λ r. First r × AllowEach (take i xs) r) a b f → IsLowered penalty (Allows x) b c s
        → IsLowered penalty (λ r. First r × AllowEach (take (i + 1) xs) r) a c (f || s)
    lowered_by_more_beside First xs i x d within at a b c f s so_far one =
        lowered_same (λ r. (First r × AllowEach (take i xs) r) × Allows x r) (λ r. First r × AllowEach (take (i + 1) xs) r)
        (λ r both. (both.0.0, more_allow xs i x d within at r (both.0.1, both.1)))
        (λ r whole. let parts = fewer_allow xs i x d within at r whole.1 in ((whole.0, parts.0), parts.1)) a c (f || s)
        (lowered_then (λ r. First r × AllowEach (take i xs) r) (Allows x) a b c f s so_far one)

  -- what is asked by the price of a condition is asked by its price at first
  pub lowered_by_price : (Allows : ℕ → (ℕ → ℕ) → Type 0) → ((m n : ℕ) (r : ℕ → ℕ) → m ≤ n → Allows m r → Allows n r)
      → (c : GroundCondition) (a b : List ℕ) (fell : Bool) (base : ℕ) → base ≡ price (prices_at a penalty) penalty c
      → IsLowered penalty (Allows base) a b fell
      → IsLowered penalty (λ r. Allows (price r penalty c) r) a b fell
  lowered_by_price Allows weaker c a b fell base is lowered = record {
    same_length = lowered.same_length;
    below = lowered.below;
    above = λ r under allows.
        let rises : price r penalty c ≤ base
        = subst (λ n. price r penalty c ≤ n) (sym is) (price_rises penalty r (prices_at a penalty) under c) in
        lowered.above r under (weaker (price r penalty c) base r rises allows);
    rests = λ rested.
        let same = lowered.rests rested in
        let now : base ≡ price (prices_at b penalty) penalty c = is ∙ sym (ap (λ (l : List ℕ). price (prices_at l penalty) penalty c) same.0) in
        (same.0, subst (λ n. Allows n (prices_at b penalty)) now same.1);
    falls = lowered.falls;
  }

more_than : (r cost m n : ℕ) → m ≤ n → r ≤ cost + m → r ≤ cost + n
more_than r cost m n less below = omega (arith, less, below)

more_than_greater : (r cost g m n : ℕ) → m ≤ n → r ≤ cost + max g m → r ≤ cost + max g n
more_than_greater r cost g m n less below = omega (arith, less, below)

more_than_base : (r cost g m n : ℕ) → m ≤ n → r ≤ cost + max m g → r ≤ cost + max n g
more_than_base r cost g m n less below = omega (arith, less, below)

past_quit : (r penalty base cost : ℕ) → r ≤ penalty → penalty ≤ base → r ≤ cost + base
past_quit r penalty base cost within past = omega (arith, within, past)

past_quit_guarded : (r penalty base cost g : ℕ) → r ≤ penalty → penalty ≤ base → r ≤ cost + max base g
past_quit_guarded r penalty base cost g within past = omega (arith, within, past)

every : {X : Type 0} (P : X → Type 0) → ((x : X) → P x) → (xs : List X) → All P xs
every P each xs = All-weaker (Contains xs) P (λ x _. each x) xs (All-contains_itself xs)

module _ (penalty : ℕ) where
  choice_weaker : (m n : ℕ) (r : ℕ → ℕ) → m ≤ n → (c : Choice) → AllowsChoice penalty m r c → AllowsChoice penalty n r c
  choice_weaker m n r less c is = record {
    adds = All-weaker (λ q. r q ≤ c.cost + m) (λ q. r q ≤ c.cost + n) (λ q below. more_than (r q) c.cost m n less below) c.adds is.adds;
    guarded = All-weaker (AllowsGuarded penalty m c.cost r) (AllowsGuarded penalty n c.cost r)
        (λ x each. All-weaker (λ q. r q ≤ c.cost + max m (price r penalty x.condition)) (λ q. r q ≤ c.cost + max n (price r penalty x.condition))
        (λ q below. more_than_base (r q) c.cost (price r penalty x.condition) m n less below) x.adds each) c.guarded is.guarded;
  }

  -- a guarded part, by the price of its condition
  pub lowered_by_guarded : (base cost guard : ℕ) (x : Guarded) (a b : List ℕ) (fell : Bool)
      → guard ≡ price (prices_at a penalty) penalty x.condition
      → IsLowered penalty (λ r. All (λ q. r q ≤ cost + max base guard) x.adds) a b fell
      → IsLowered penalty (λ r. AllowsGuarded penalty base cost r x) a b fell
  lowered_by_guarded base cost guard x a b fell is =
      lowered_by_price penalty (λ n r. All (λ q. r q ≤ cost + max base n) x.adds)
      (λ m n r less each. All-weaker (λ q. r q ≤ cost + max base m) (λ q. r q ≤ cost + max base n)
      (λ q below. more_than_greater (r q) cost base m n less below) x.adds each)
      x.condition a b fell guard is

  -- an action, by the price of its condition
  pub lowered_by_action : (base : ℕ) (action : GroundAction) (a b : List ℕ) (fell : Bool)
      → base ≡ price (prices_at a penalty) penalty action.condition
      → IsLowered penalty (λ r. All (λ c. AllowsChoice penalty base r c) action.choices) a b fell
      → IsLowered penalty (λ r. AllowsAction penalty r action) a b fell
  lowered_by_action base action a b fell is =
      lowered_by_price penalty (λ n r. All (AllowsChoice penalty n r) action.choices)
      (λ m n r less each. All-weaker (AllowsChoice penalty m r) (AllowsChoice penalty n r) (choice_weaker m n r less) action.choices each)
      action.condition a b fell base is

  -- an action whose condition costs the penalty lowers nothing
  pub lowered_by_no_action : (base : ℕ) (action : GroundAction) (a : List ℕ)
      → base ≡ price (prices_at a penalty) penalty action.condition → penalty ≤ base → AreWithin penalty a
      → IsLowered penalty (λ r. AllowsAction penalty r action) a a false
  lowered_by_no_action base action a is past within =
      lowered_by_action base action a a false is
      (lowered_none penalty (λ r. All (λ c. AllowsChoice penalty base r c) action.choices) a
      (every (AllowsChoice penalty base (prices_at a penalty)) (λ c. record {
        adds = every (λ q. prices_at a penalty q ≤ c.cost + base) (λ q. past_quit (prices_at a penalty q) penalty base c.cost (within q) past) c.adds;
        guarded = every (AllowsGuarded penalty base c.cost (prices_at a penalty))
            (λ x. every (λ q. prices_at a penalty q ≤ c.cost + max base (price (prices_at a penalty) penalty x.condition))
            (λ q. past_quit_guarded (prices_at a penalty q) penalty base c.cost (price (prices_at a penalty) penalty x.condition) (within q) past) x.adds)
            c.guarded;
      }) action.choices))

-- a sum that fits
pub cost_fits : (cost rest base guard greater penalty : ℕ) → cost + rest ≤ 10000000000000 → base ≤ penalty → guard ≤ penalty
    → penalty ≤ 100000000000000 → greater ≡ max base guard → cost + greater < 18446744073709551616
cost_fits cost rest base guard greater penalty few own other limit is = omega (arith, few, own, other, limit, is)
