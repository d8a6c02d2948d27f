-- Open actions by their codes, and the tests of numbers over all actions.
use Rattle.std.proofs.Common.{◌≡◌, ℕ, suc, zero, ◌+◌, ◌*◌, ◌/◌, ◌<◌, ◌≤◌, cond, Bool, true, false, not, ◌&&◌, ◌||◌, List, [], ◌∷◌, length, map, filter, None, Some, refl, sym, ap, subst, inl, inr, ◌∙◌, arith}
use Rattle.std.specs.Prelude.{Option, Contains, flat_map, nat_eq, nat_le}
use Rattle.std.specs.List.{slice_get, range_with_len, list_any, list_all}
use Rattle.std.specs.Cmp.Lexicographic.{bytes_decides}
use Rattle.std.proofs.lemmas.Bool.{cases_Bool, cases_eq, leb-true, le-leb, eqb-true, eq-eqb, and_parts}
use Rattle.std.proofs.lemmas.List.Elements.{All-contains, filter_passes}
use Rattle.std.proofs.lemmas.Option.{slice_get_within}
use Rattle.plain_list.proofs.Members.{Contains-first, Contains-later, Contains-cons_cases, Contains-nil, Contains-map, Contains-map_cases, Contains-flat_map, Contains-flat_map_cases}
use Rattle.fixed_round.specs.Words.{value_of, code_of}
use Rattle.decision_process.specs.Process.{Outcome}
use Rattle.decision_process.specs.Following.{IsLowerFrom}
use Rattle.decision_process.specs.Levels.{nexts, successors}
use Rattle.ground_model.specs.declared.action.Choice.{Choice}
use Rattle.ground_model.specs.declared.action.GroundAction.{GroundAction}
use Rattle.ground_model.specs.Packed.{State, has_bit, same_state}
use Rattle.ground_model.specs.Truth.{truth}
use Rattle.ground_model.specs.Choices.{next_state}
use Rattle.ground_model.specs.Ground.{Ground}
use Rattle.ground_model.specs.Invariant.{IsGroundProblem}
use Rattle.ground_model.specs.Steps.{den_of, is_open_at, outcome_of, step_at, own_action_value, ground_process}
use Rattle.ground_model.proofs.Steps.{slice_get-contains}
use Rattle.ground_model.proofs.OwnDen.{lower_by_own_den, upper_by_own_den}
use Rattle.bound_core.specs.declared.codes.TheConstants.{GIVE_UP}
use Rattle.bound_core.specs.Numbers.{act_of, goal_word, IsSupported}
use Rattle.core_run.specs.Decided.{is_open, stays_below, can_raise, covers_action, can_sink, leads_by, has_next, leads_to}

-- ---- lists

filtered : (p : ℕ → Bool) (a n k : ℕ) → a ≤ k → k < a + n → p k ≡ true → Contains (filter p (range_with_len a n)) k
filtered p a zero k first last on = absurd (omega arith)
filtered p a (suc n) k first last on = elim (cases_eq a k) [
  | inl same ↦
      let here : p a ≡ true = ap p same ∙ on in
      subst (λ b. Contains (cond b (a ∷ filter p (range_with_len (a + 1) n)) (filter p (range_with_len (a + 1) n))) k) (sym here)
      (subst (λ x. Contains (a ∷ filter p (range_with_len (a + 1) n)) x) same (Contains-first a (filter p (range_with_len (a + 1) n))))
  | inr apart ↦
      let rest : Contains (filter p (range_with_len (a + 1) n)) k = filtered p (a + 1) n k (omega arith) (omega arith) on in
      elim (p a) as (λ b. Contains (cond b (a ∷ filter p (range_with_len (a + 1) n)) (filter p (range_with_len (a + 1) n))) k) [
        | true ↦ Contains-later a (filter p (range_with_len (a + 1) n)) k rest
        | false ↦ rest
      ]
]

pub all_at : {X : Type 0} (f : X → Bool) (xs : List X) → list_all f xs ≡ true → (k : ℕ) (x : X) → slice_get xs k ≡ Some x → f x ≡ true
all_at f [] on k x there = absurd cc
all_at f (y ∷ xs) on zero x there =
    let here : y ≡ x = cc in subst (λ z. f z ≡ true) here (and_parts (f y) (list_all f xs) on).0
all_at f (y ∷ xs) on (suc k) x there = all_at f xs (and_parts (f y) (list_all f xs) on).1 k x there

pub all_each : {X : Type 0} (f : X → Bool) (xs : List X) → ((k : ℕ) (x : X) → slice_get xs k ≡ Some x → f x ≡ true) → list_all f xs ≡ true
all_each f [] each = refl
all_each f (x ∷ xs) each = ap (λ b. b && list_all f xs) (each 0 x refl) ∙ all_each f xs (λ k. each (suc k))

pub any_at : {X : Type 0} (f : X → Bool) (xs : List X) → list_any f xs ≡ true → (k : ℕ) × (x : X) × (slice_get xs k ≡ Some x) × (f x ≡ true)
any_at f [] on = absurd cc
any_at f (x ∷ xs) on = elim (cases_Bool (f x)) [
  | inl here ↦ (0, x, refl, here)
  | inr off ↦
      let rest = any_at f xs (sym (ap (λ b. b || list_any f xs) off) ∙ on) in
      (suc rest.0, rest.1, rest.2, rest.3)
]

pub any_there : {X : Type 0} (f : X → Bool) (xs : List X) (k : ℕ) (x : X) → slice_get xs k ≡ Some x → f x ≡ true → list_any f xs ≡ true
any_there f [] k x there on = absurd cc
any_there f (y ∷ xs) zero x there on =
    let here : y ≡ x = cc in ap (λ b. b || list_any f xs) (ap f here ∙ on)
any_there f (y ∷ xs) (suc k) x there on = ap (λ b. f y || b) (any_there f xs k x there on) ∙ or_true (f y)
  where
    or_true : (b : Bool) → (b || true) ≡ true
    or_true true = refl
    or_true false = refl

contains_place : {X : Type 0} (xs : List X) (x : X) → Contains xs x → (k : ℕ) × (slice_get xs k ≡ Some x)
contains_place [] x inside = absurd (Contains-nil x inside)
contains_place (y ∷ xs) x inside = elim (Contains-cons_cases y xs x inside) [
  | inl same ↦ (0, ap Some same)
  | inr later ↦ let rest = contains_place xs x later in (suc rest.0, rest.1)
]

pub both_true : (a b : Bool) → a ≡ true → b ≡ true → (a && b) ≡ true
both_true a b first second = ap (λ c. c && b) first ∙ second

-- ---- actions

module _ (g : Ground) (s : State) where
  some_open : (o : Option GroundAction) → is_open_at o s ≡ true → (a : GroundAction) × (o ≡ Some a) × (is_open g a s ≡ true)
  some_open None on = absurd cc
  some_open (Some a) on = (a, refl, on)

  pub open_code : (k : ℕ) → Contains ((ground_process g).choices s) k
      → (a : GroundAction) × (slice_get g.actions k ≡ Some a) × (is_open g a s ≡ true)
  open_code k inside = some_open (slice_get g.actions k)
      (All-contains (λ j. is_open_at (slice_get g.actions j) s ≡ true) (filter (λ j. is_open_at (slice_get g.actions j) s) (range_with_len 0 (length g.actions))) k
      (filter_passes (λ j. is_open_at (slice_get g.actions j) s) (range_with_len 0 (length g.actions))) inside)

  pub code_open : (k : ℕ) (a : GroundAction) → slice_get g.actions k ≡ Some a → is_open g a s ≡ true → Contains ((ground_process g).choices s) k
  code_open k a there on =
      filtered (λ j. is_open_at (slice_get g.actions j) s) 0 (length g.actions) k (omega arith)
      (let below = slice_get_within g.actions k a there in omega arith) (ap (λ o. is_open_at o s) there ∙ on)

-- ---- lower numbers

module _ (g : Ground) (is : IsGroundProblem g) (v : State → ℕ) (s : State) where
  below_open : (value : ℕ) (a : GroundAction) → stays_below g v s value a ≡ true → is_open g a s ≡ true → value * a.den ≤ own_action_value v a s
  below_open value a stays on = leb-true (value * a.den) (own_action_value v a s)
      (sym (ap (λ b. not b || nat_le (value * a.den) (own_action_value v a s)) on) ∙ stays)

  open_below : (value : ℕ) (a : GroundAction) → (is_open g a s ≡ true → value * a.den ≤ own_action_value v a s) → stays_below g v s value a ≡ true
  open_below value a below = elim (cases_Bool (is_open g a s)) [
    | inl on ↦ ap (λ b. not b || nat_le (value * a.den) (own_action_value v a s)) on ∙ le-leb (value * a.den) (own_action_value v a s) (below on)
    | inr off ↦ ap (λ b. not b || nat_le (value * a.den) (own_action_value v a s)) off
  ]

  pub raise_allowed : (value : ℕ) → can_raise g v s value ≡ true → IsLowerFrom (ground_process g) v s value
  raise_allowed value on = record {
    at_goal = λ goal. eqb-true value 0 (sym (ap (λ b. cond b (nat_eq value 0) (nat_le value g.penalty && list_all (stays_below g v s value) g.actions)) goal) ∙ on);
    within_quit = λ off. leb-true value g.penalty (parts off).0;
    within_step = λ k off inside.
        let found = open_code g s k inside in
        (lower_by_own_den g is v k found.0 s value found.1).1
        (below_open value found.0 (all_at (stays_below g v s value) g.actions (parts off).1 k found.0 found.1) found.2);
  }
    where
      parts : truth (has_bit s) g.goal ≡ false → (nat_le value g.penalty ≡ true) × (list_all (stays_below g v s value) g.actions ≡ true)
      parts off = and_parts (nat_le value g.penalty) (list_all (stays_below g v s value) g.actions)
          (sym (ap (λ b. cond b (nat_eq value 0) (nat_le value g.penalty && list_all (stays_below g v s value) g.actions)) off) ∙ on)

  pub allowed_raise : (value : ℕ) → IsLowerFrom (ground_process g) v s value → can_raise g v s value ≡ true
  allowed_raise value from = elim (cases_Bool (truth (has_bit s) g.goal)) [
    | inl on ↦ ap (λ b. cond b (nat_eq value 0) (nat_le value g.penalty && list_all (stays_below g v s value) g.actions)) on ∙ eq-eqb value 0 (from.at_goal on)
    | inr off ↦
        ap (λ b. cond b (nat_eq value 0) (nat_le value g.penalty && list_all (stays_below g v s value) g.actions)) off
        ∙ both_true (nat_le value g.penalty) (list_all (stays_below g v s value) g.actions) (le-leb value g.penalty (from.within_quit off))
        (all_each (stays_below g v s value) g.actions (λ k a there. open_below value a (λ on.
        (lower_by_own_den g is v k a s value there).0 (from.within_step k off (code_open g s k a there on)))))
  ]

-- ---- upper words

module _ (g : Ground) (is : IsGroundProblem g) (upper : State → ℕ) (s : State) (word : ℕ) where
  abbrev v : State → ℕ
  v t = value_of (upper t)

  abbrev elsewhere : Bool
  elsewhere = cond (nat_eq (code_of word) GIVE_UP) (nat_le g.penalty (value_of word)) (covers_action g v s (value_of word) (slice_get g.actions (code_of word)))

  quits : code_of word ≡ GIVE_UP → act_of word ≡ None
  quits same = ap (λ b. cond b None (Some (code_of word))) (eq-eqb (code_of word) GIVE_UP same)

  acts : (nat_eq (code_of word) GIVE_UP ≡ false) → act_of word ≡ Some (code_of word)
  acts off = ap (λ b. cond b None (Some (code_of word))) off

  covered : (o : Option GroundAction) → covers_action g v s (value_of word) o ≡ true
      → (a : GroundAction) × (o ≡ Some a) × (is_open g a s ≡ true) × (own_action_value v a s ≤ value_of word * a.den)
  covered None on = absurd cc
  covered (Some a) on =
      let parts = and_parts (is_open g a s) (nat_le (own_action_value v a s) (value_of word * a.den)) on in
      (a, refl, parts.0, leb-true (own_action_value v a s) (value_of word * a.den) parts.1)

  pub sink_allowed : can_sink g v s word ≡ true → IsSupported g upper s word
  sink_allowed on = record {
    at_goal = λ goal. eqb-true word goal_word (sym (ap (λ b. cond b (nat_eq word goal_word) elsewhere) goal) ∙ on);
    follows = record {
      covers_quit = λ off none. elim (cases_Bool (nat_eq (code_of word) GIVE_UP)) [
        | inl same ↦ leb-true g.penalty (value_of word) (sym (gives_up same) ∙ there off)
        | inr apart ↦ absurd (let both : None ≡ Some (code_of word) = sym none ∙ acts apart in cc)
      ];
      is_open = λ k off some. elim (cases_Bool (nat_eq (code_of word) GIVE_UP)) [
        | inl same ↦ absurd (let both : None ≡ Some k = sym (quits (eqb-true (code_of word) GIVE_UP same)) ∙ some in cc)
        | inr apart ↦
            let found = covered (slice_get g.actions (code_of word)) (sym (takes apart) ∙ there off) in
            let same : code_of word ≡ k = (let both : Some (code_of word) ≡ Some k = sym (acts apart) ∙ some in cc) in
            code_open g s k found.0 (ap (slice_get g.actions) (sym same) ∙ found.1) found.2
      ];
      covers_step = λ k off some. elim (cases_Bool (nat_eq (code_of word) GIVE_UP)) [
        | inl same ↦ absurd (let both : None ≡ Some k = sym (quits (eqb-true (code_of word) GIVE_UP same)) ∙ some in cc)
        | inr apart ↦
            let found = covered (slice_get g.actions (code_of word)) (sym (takes apart) ∙ there off) in
            let same : code_of word ≡ k = (let both : Some (code_of word) ≡ Some k = sym (acts apart) ∙ some in cc) in
            (upper_by_own_den g is v k found.0 s (value_of word) (ap (slice_get g.actions) (sym same) ∙ found.1)).1 found.3
      ];
    };
  }
    where
      there : truth (has_bit s) g.goal ≡ false → elsewhere ≡ true
      there off = sym (ap (λ b. cond b (nat_eq word goal_word) elsewhere) off) ∙ on

      gives_up : nat_eq (code_of word) GIVE_UP ≡ true → elsewhere ≡ nat_le g.penalty (value_of word)
      gives_up same = ap (λ b. cond b (nat_le g.penalty (value_of word)) (covers_action g v s (value_of word) (slice_get g.actions (code_of word)))) same

      takes : nat_eq (code_of word) GIVE_UP ≡ false → elsewhere ≡ covers_action g v s (value_of word) (slice_get g.actions (code_of word))
      takes apart = ap (λ b. cond b (nat_le g.penalty (value_of word)) (covers_action g v s (value_of word) (slice_get g.actions (code_of word)))) apart

  pub allowed_sink : IsSupported g upper s word → can_sink g v s word ≡ true
  allowed_sink supported = elim (cases_Bool (truth (has_bit s) g.goal)) [
    | inl on ↦ ap (λ b. cond b (nat_eq word goal_word) elsewhere) on ∙ eq-eqb word goal_word (supported.at_goal on)
    | inr off ↦ ap (λ b. cond b (nat_eq word goal_word) elsewhere) off ∙ elim (cases_Bool (nat_eq (code_of word) GIVE_UP)) [
      | inl same ↦
          ap (λ b. cond b (nat_le g.penalty (value_of word)) (covers_action g v s (value_of word) (slice_get g.actions (code_of word)))) same
          ∙ le-leb g.penalty (value_of word) (supported.follows.covers_quit off (quits (eqb-true (code_of word) GIVE_UP same)))
      | inr apart ↦
          let found = open_code g s (code_of word) (supported.follows.is_open (code_of word) off (acts apart)) in
          ap (λ b. cond b (nat_le g.penalty (value_of word)) (covers_action g v s (value_of word) (slice_get g.actions (code_of word)))) apart
          ∙ ap (covers_action g v s (value_of word)) found.1
          ∙ both_true (is_open g found.0 s) (nat_le (own_action_value v found.0 s) (value_of word * found.0.den)) found.2
          (le-leb (own_action_value v found.0 s) (value_of word * found.0.den)
          ((upper_by_own_den g is v (code_of word) found.0 s (value_of word) found.1).0 (supported.follows.covers_step (code_of word) off (acts apart))))
    ]
  ]

-- ---- successors

module _ (g : Ground) (s t : State) where
  abbrev nexts_of : ℕ → List State
  nexts_of k = nexts (ground_process g) k s

  pub reaches : leads_to g s t ≡ true → Contains (successors (ground_process g) s) t
  reaches on = elim (cases_Bool (truth (has_bit s) g.goal)) [
    | inl goal ↦ absurd (let gone : false ≡ true = sym (ap (λ b. cond b false (list_any (has_next g s t) g.actions)) goal) ∙ on in cc)
    | inr off ↦
        let found = any_at (has_next g s t) g.actions (sym (ap (λ b. cond b false (list_any (has_next g s t) g.actions)) off) ∙ on) in
        let parts = and_parts (is_open g found.1 s) (leads_by g s t found.1) found.3 in
        let choice = any_at (λ (c : Choice). same_state (next_state s c) t) found.1.choices parts.1 in
        let next : Contains (nexts_of found.0) t
        = subst (λ l. Contains (map (λ (o : Outcome State). o.next) l) t) (sym (ap (λ o. step_at (den_of g.actions) o s) found.2))
        (subst (λ u. Contains (map (λ (o : Outcome State). o.next) (map (outcome_of (den_of g.actions / found.1.den) s) found.1.choices)) u)
        ((bytes_decides (next_state s choice.1) t).0 choice.3)
        (Contains-map (λ (o : Outcome State). o.next) (map (outcome_of (den_of g.actions / found.1.den) s) found.1.choices) (outcome_of (den_of g.actions / found.1.den) s choice.1)
        (Contains-map (outcome_of (den_of g.actions / found.1.den) s) found.1.choices choice.1 (slice_get-contains found.1.choices choice.0 choice.1 choice.2)))) in
        subst (λ b. Contains (cond b [] (flat_map nexts_of ((ground_process g).choices s))) t) (sym off)
        (Contains-flat_map nexts_of ((ground_process g).choices s) found.0 t (code_open g s found.0 found.1 found.2 parts.0) next)
  ]

  pub reached : Contains (successors (ground_process g) s) t → leads_to g s t ≡ true
  reached inside = elim (cases_Bool (truth (has_bit s) g.goal)) [
    | inl goal ↦ absurd (Contains-nil t (subst (λ b. Contains (cond b [] (flat_map nexts_of ((ground_process g).choices s))) t) goal inside))
    | inr off ↦
        let found = Contains-flat_map_cases nexts_of ((ground_process g).choices s) t
        (subst (λ b. Contains (cond b [] (flat_map nexts_of ((ground_process g).choices s))) t) off inside) in
        let action = open_code g s found.0 found.1 in
        let outcome = Contains-map_cases (λ (o : Outcome State). o.next) ((ground_process g).step found.0 s) t found.2 in
        let choice = Contains-map_cases (outcome_of (den_of g.actions / action.0.den) s) action.0.choices outcome.0
        (subst (λ l. Contains l outcome.0) (ap (λ o. step_at (den_of g.actions) o s) action.1) outcome.1) in
        let place = contains_place action.0.choices choice.0 choice.1 in
        let same : next_state s choice.0 ≡ t = ap (λ (o : Outcome State). o.next) choice.2 ∙ outcome.2 in
        ap (λ b. cond b false (list_any (has_next g s t) g.actions)) off
        ∙ any_there (has_next g s t) g.actions found.0 action.0 action.1
        (both_true (is_open g action.0 s) (leads_by g s t action.0) action.2
        (any_there (λ (c : Choice). same_state (next_state s c) t) action.0.choices place.0 choice.0 place.1 ((bytes_decides (next_state s choice.0) t).1 same)))
  ]
