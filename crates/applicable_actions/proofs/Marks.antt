-- The actions that are marked are the open ones.
use Rattle.std.proofs.Common.{◌≡◌, ◌⊎◌, ℕ, suc, zero, ◌+◌, ◌-◌, ◌*◌, ◌/◌, ◌%◌, ◌<◌, ◌≤◌, Bool, true, false, cond, ◌&&◌, ◌||◌, List, [], ◌∷◌, ◌++◌, length, filter, flat_map, refl, sym, ap, subst, inl, inr, ◌∙◌, arith, true≢false}
use Rattle.std.specs.Prelude.{nat_eq}
use Rattle.std.specs.List.{All, range_with_len, slice_get}
use Rattle.std.specs.Int.{bit_at}
use Rattle.std.proofs.lemmas.Bool.{and_parts, cases_Bool, cases_lt, or_cases, eqb-true, eq-eqb}
use Rattle.std.proofs.lemmas.Nat.Bits.{bit_at-zero}
use Rattle.std.proofs.lemmas.List.{append-nil, get_or_past}
use Rattle.std.proofs.lemmas.List.Elements.{All-head, All-tail, All-weaker, filter-append}
use Rattle.std.proofs.lemmas.List.Folds.{list_any-append}
use Rattle.ground_model.specs.declared.action.GroundAction.{GroundAction}
use Rattle.ground_model.specs.declared.condition.GroundCondition.{GroundCondition}
use Rattle.ground_model.specs.Packed.{State, has_bit, packed}
use Rattle.ground_model.specs.Choices.{is_member}
use Rattle.ground_model.specs.Steps.{is_open_at, is_open}
use Rattle.ground_model.proofs.Packed.{same_packed, length-packed}
use Rattle.ground_step.specs.Atoms.{true_atoms}
use Rattle.ground_step.specs.Edits.{with_atom, with_atoms}
use Rattle.applicable_actions.specs.declared.entry.Entry.{Entry}
use Rattle.ground_step.proofs.Packed.{packed_bit}
use Rattle.ground_step.proofs.Edits.{with_atoms-packed, with_atoms-none}
use Rattle.ground_step.proofs.Ranges.{filter_alike, range-append}
use Rattle.applicable_actions.specs.Index.{opens, HasPlace, codes_of, open_codes, IsEntry, IsIndex}
use Rattle.applicable_actions.specs.LeftOut.{Indexed, is_kept, is_kept_open, kept_choices}
use Rattle.applicable_actions.specs.Runs.{Runs, run_at}

-- ---- members

both_ways : (a b : Bool) → (a ≡ true → b ≡ true) → (b ≡ true → a ≡ true) → a ≡ b
both_ways true b forth back = sym (forth refl)
both_ways false true forth back = back refl
both_ways false false forth back = refl

or_left : (a b : Bool) → a ≡ true → (a || b) ≡ true
or_left a b first = ap (λ c. c || b) first

or_right : (a b : Bool) → b ≡ true → (a || b) ≡ true
or_right true b second = refl
or_right false b second = second

pub or_either : (a b : Bool) → (a ≡ true) ⊎ (b ≡ true) → (a || b) ≡ true
or_either a b (inl first) = or_left a b first
or_either a b (inr second) = or_right a b second

module _ (p : ℕ → Bool) where
  kept_passes : (b : Bool) (x : ℕ) (xs : List ℕ) (q : ℕ) → (b ≡ true → q ≡ x → p q ≡ true) → (is_member xs q ≡ true → p q ≡ true)
      → is_member (cond b (x ∷ xs) xs) q ≡ true → p q ≡ true
  kept_passes true x xs q here rest member = elim (or_cases (nat_eq q x) (is_member xs q) member) [
    | inl first ↦ here refl (eqb-true q x first)
    | inr later ↦ rest later
  ]
  kept_passes false x xs q here rest member = rest member

  pub member_passes : (xs : List ℕ) (q : ℕ) → is_member (filter p xs) q ≡ true → p q ≡ true
  member_passes [] q member = absurd cc
  member_passes (x ∷ xs) q member =
      kept_passes (p x) x (filter p xs) q (λ passes same. ap p same ∙ passes) (member_passes xs q) member

  kept_member : (b : Bool) (x : ℕ) (xs : List ℕ) (q : ℕ) → (q ≡ x → b ≡ true) → (nat_eq q x || is_member xs q) ≡ true
      → is_member (cond b (x ∷ xs) xs) q ≡ true
  kept_member true x xs q here member = member
  kept_member false x xs q here member = elim (or_cases (nat_eq q x) (is_member xs q) member) [
    | inl first ↦ absurd (true≢false (sym (here (eqb-true q x first))))
    | inr later ↦ later
  ]

  pub passing_member : (xs : List ℕ) (q : ℕ) → p q ≡ true → is_member xs q ≡ true → is_member (filter p xs) q ≡ true
  passing_member [] q passes member = member
  passing_member (x ∷ xs) q passes member =
      kept_member (p x) x (filter p xs) q (λ same. ap p (sym same) ∙ passes)
      (elim (or_cases (nat_eq q x) (is_member xs q) member) [
        | inl first ↦ or_left (nat_eq q x) (is_member (filter p xs) q) first
        | inr later ↦ or_right (nat_eq q x) (is_member (filter p xs) q) (passing_member xs q passes later)
      ])

module _ (f : ℕ → List ℕ) where
  pub flat_passes : (p : ℕ → Bool) (q : ℕ) → ((a : ℕ) → is_member (f a) q ≡ true → p q ≡ true)
      → (atoms : List ℕ) → is_member (flat_map f atoms) q ≡ true → p q ≡ true
  flat_passes p q each [] member = absurd cc
  flat_passes p q each (a ∷ atoms) member =
      elim (or_cases (is_member (f a) q) (is_member (flat_map f atoms) q)
      (sym (list_any-append (nat_eq q) (f a) (flat_map f atoms)) ∙ member)) [
        | inl here ↦ each a here
        | inr later ↦ flat_passes p q each atoms later
      ]

  pub flat_member : (q a : ℕ) → is_member (f a) q ≡ true → (atoms : List ℕ) → is_member atoms a ≡ true
      → is_member (flat_map f atoms) q ≡ true
  flat_member q a inside [] member = member
  flat_member q a inside (b ∷ atoms) member =
      list_any-append (nat_eq q) (f b) (flat_map f atoms)
      ∙ elim (or_cases (nat_eq a b) (is_member atoms a) member) [
        | inl here ↦
            or_left (is_member (f b) q) (is_member (flat_map f atoms) q)
            (subst (λ c. is_member (f c) q ≡ true) (eqb-true a b here) inside)
        | inr later ↦ or_right (is_member (f b) q) (is_member (flat_map f atoms) q) (flat_member q a inside atoms later)
      ]

range_member : (q a n : ℕ) → a ≤ q → q < a + n → is_member (range_with_len a n) q ≡ true
range_member q a zero above below = absurd (omega arith)
range_member q a (suc n) above below = elim (cases_lt a q) [
  | inl later ↦
      or_right (nat_eq q a) (is_member (range_with_len (a + 1) n) q) (range_member q (a + 1) n (omega (arith, later)) (omega arith))
  | inr here ↦ or_left (nat_eq q a) (is_member (range_with_len (a + 1) n) q) (eq-eqb q a (omega (arith, above, here)))
]

past_is_false : (s : State) (a : ℕ) → length s ≤ a / 64 → has_bit s a ≡ false
past_is_false s a past =
    ap (λ w. nat_eq (bit_at w (a % 64)) 1) (get_or_past s (a / 64) 0 past) ∙ ap (λ b. nat_eq b 1) (bit_at-zero (a % 64))

true_member : (s : State) (a : ℕ) → has_bit s a ≡ true → is_member (true_atoms s) a ≡ true
true_member s a set = elim (cases_lt (a / 64) (length s)) [
  | inl within ↦
      passing_member (has_bit s) (range_with_len 0 (64 * length s)) a set
      (range_member a 0 (64 * length s) (omega arith) (omega (arith, within)))
  | inr past ↦ absurd (true≢false (sym set ∙ past_is_false s a past))
]

-- ---- open actions

open_within : (actions : List GroundAction) (k : ℕ) (s : State) → is_open_at (slice_get actions k) s ≡ true → k < length actions
open_within [] k s opens = absurd cc
open_within (a ∷ actions) zero s opens = omega arith
open_within (a ∷ actions) (suc k) s opens =
    (let below : k < length actions = open_within actions k s opens in omega (arith, below))

module _ (p q : ℕ → Bool) where
  kept_both : (b : Bool) (x : ℕ) (both first : List ℕ) → both ≡ filter q first
      → cond (b && q x) (x ∷ both) both ≡ filter q (cond b (x ∷ first) first)
  kept_both true x both first rest = ap (λ ys. cond (q x) (x ∷ ys) ys) rest
  kept_both false x both first rest = rest

  -- what passes both tests is what passes the second one of what passes the first
  filter_both : (xs : List ℕ) → filter (λ x. p x && q x) xs ≡ filter q (filter p xs)
  filter_both [] = refl
  filter_both (x ∷ xs) = kept_both (p x) x (filter (λ y. p y && q y) xs) (filter p xs) (filter_both xs)

pub kept_of_none_left_out : (codes : List ℕ) → filter (is_kept []) codes ≡ codes
kept_of_none_left_out [] = refl
kept_of_none_left_out (k ∷ codes) = ap (λ ks. k ∷ ks) (kept_of_none_left_out codes)

-- the index that a method sees
pub seen_index : {index seen : Indexed} {inside read : List GroundCondition} {runs : Runs} → index ≡ seen → read ≡ inside
    → IsIndex index inside runs → IsIndex seen read runs
seen_index {index} {seen} {inside} {read} {runs} same here is =
    subst (λ conditions. IsIndex seen conditions runs) (sym here) (subst (λ i. IsIndex i inside runs) same is)

module _ (index : Indexed) (s : State) where
  abbrev opens_kept : ℕ → Bool
  opens_kept k = is_kept_open index k s

  abbrev pub kept_open : List Entry → List ℕ
  kept_open run = filter opens_kept (codes_of run)

  abbrev pub visits : Runs → List ℕ → List ℕ
  visits runs atoms = flat_map (λ a. kept_open (run_at runs a)) atoms

  module _ (conditions : List GroundCondition) where
    kept_entry : (b c : Bool) (e : Entry) (es : List Entry) (codes : List ℕ) → b ≡ c → codes_of es ≡ codes
        → codes_of (cond b (e ∷ es) es) ≡ cond c (e.code ∷ codes) codes
    kept_entry true c e es codes same rest = ap (λ ks. e.code ∷ ks) rest ∙ ap (λ d. cond d (e.code ∷ codes) codes) same
    kept_entry false c e es codes same rest = rest ∙ ap (λ d. cond d (e.code ∷ codes) codes) same

    pub entries_open : (run : List Entry) → All (IsEntry index conditions) run → open_codes conditions s run ≡ kept_open run
    entries_open [] are = refl
    entries_open (e ∷ run) are =
        kept_entry (opens conditions e s) (opens_kept e.code) e (filter (λ (f : Entry). opens conditions f s) run) (kept_open run)
        ((All-head (IsEntry index conditions) e run are).says s)
        (entries_open run (All-tail (IsEntry index conditions) e run are))

    pub have_places : (run : List Entry) → All (IsEntry index conditions) run → All (HasPlace conditions) run
    have_places run are = All-weaker (IsEntry index conditions) (HasPlace conditions) (λ e entry. entry.has_place) run are

  module _ (conditions : List GroundCondition) (runs : Runs) (is : IsIndex index conditions runs) where
    marked_is_open : (q : ℕ)
        → (is_member (visits runs (true_atoms s)) q || is_member (kept_open runs.always) q) ≡ opens_kept q
    marked_is_open q =
        let visited : Bool = is_member (visits runs (true_atoms s)) q in
        let always : Bool = is_member (kept_open runs.always) q in
        both_ways (visited || always) (opens_kept q)
        (λ marked. elim (or_cases visited always marked) [
          | inl there ↦
              flat_passes (λ a. kept_open (run_at runs a)) opens_kept q
              (λ a inside. member_passes opens_kept (codes_of (run_at runs a)) q inside) (true_atoms s) there
          | inr here ↦ member_passes opens_kept (codes_of runs.always) q here
        ])
        (λ open_here.
        let parts = and_parts (is_open index.problem q s) (is_kept index.left_out q) open_here in
        elim (is.found q (open_within index.problem.actions q s parts.0) parts.1) [
          | inl here ↦ or_right visited always (passing_member opens_kept (codes_of runs.always) q open_here here)
          | inr there ↦
              or_left visited always
              (flat_member (λ a. kept_open (run_at runs a)) q there.0
              (passing_member opens_kept (codes_of (run_at runs there.0)) q open_here there.1)
              (true_atoms s) (true_member s there.0 (there.2 s parts.0)))
        ])

    pub all_marked : (n : ℕ)
        → with_atoms (with_atoms (packed (λ _. false) n) (open_codes conditions s runs.always)) (visits runs (true_atoms s))
        ≡ packed opens_kept n
    all_marked n =
        ap (λ codes. with_atoms (with_atoms (packed (λ _. false) n) codes) (visits runs (true_atoms s)))
        (entries_open conditions runs.always is.always_are)
        ∙ ap (λ marks. with_atoms marks (visits runs (true_atoms s))) (with_atoms-none n (kept_open runs.always))
        ∙ with_atoms-packed (is_member (kept_open runs.always)) n (visits runs (true_atoms s))
        ∙ same_packed (λ q. is_member (visits runs (true_atoms s)) q || is_member (kept_open runs.always) q) opens_kept n
        (λ q _. marked_is_open q)

  not_open_past : (k : ℕ) → length index.problem.actions ≤ k → opens_kept k ≡ false
  not_open_past k past = elim (cases_Bool (opens_kept k)) [
    | inl open_here ↦
        let parts = and_parts (is_open index.problem k s) (is_kept index.left_out k) open_here in
        let below : k < length index.problem.actions = open_within index.problem.actions k s parts.0 in
        absurd (omega (arith, past, below))
    | inr closed ↦ closed
  ]

  filter_past : (a n : ℕ) → length index.problem.actions ≤ a → filter opens_kept (range_with_len a n) ≡ []
  filter_past a zero past = refl
  filter_past a (suc n) past =
      ap (λ b. cond b (a ∷ filter opens_kept (range_with_len (a + 1) n)) (filter opens_kept (range_with_len (a + 1) n)))
      (not_open_past a past)
      ∙ filter_past (a + 1) n (omega (arith, past))

  pub marked_codes : (marks : State) (n : ℕ) → marks ≡ packed opens_kept n → length index.problem.actions ≤ 64 * n
      → true_atoms marks ≡ kept_choices index s
  marked_codes marks n is room =
      let m : ℕ = length index.problem.actions in
      let split : 64 * n ≡ m + (64 * n - m) = omega (arith, room) in
      ap true_atoms is
      ∙ ap (λ l. filter (has_bit (packed opens_kept n)) (range_with_len 0 (64 * l))) (length-packed opens_kept n)
      ∙ filter_alike (has_bit (packed opens_kept n)) opens_kept 0 (64 * n) (λ q _ below. packed_bit opens_kept n q (omega (arith, below)))
      ∙ ap (λ l. filter opens_kept (range_with_len 0 l)) split
      ∙ ap (filter opens_kept) (range-append 0 m (64 * n - m))
      ∙ filter-append opens_kept (range_with_len 0 m) (range_with_len (0 + m) (64 * n - m))
      ∙ ap (λ qs. filter opens_kept (range_with_len 0 m) ++ qs) (filter_past (0 + m) (64 * n - m) (omega arith))
      ∙ append-nil (filter opens_kept (range_with_len 0 m))
      ∙ filter_both (λ k. is_open index.problem k s) (is_kept index.left_out) (range_with_len 0 m)

with_atoms-append : (marks : State) (xs ys : List ℕ) → with_atoms marks (xs ++ ys) ≡ with_atoms (with_atoms marks xs) ys
with_atoms-append marks [] ys = refl
with_atoms-append marks (x ∷ xs) ys = with_atoms-append (with_atom marks x) xs ys

module _ (index : Indexed) (s : State) (conditions : List GroundCondition) (runs : Runs) (is : IsIndex index conditions runs) where
  -- one more atom is visited
  pub visit_more : (marks next : State) (run : List Entry) (atom : ℕ) (left atoms : List ℕ)
      → next ≡ with_atoms marks (open_codes conditions s run) → run ≡ run_at runs atom → atoms ≡ atom ∷ left
      → with_atoms next (visits index s runs left) ≡ with_atoms marks (visits index s runs atoms)
  visit_more marks next run atom left atoms marked here more =
      ap (λ m. with_atoms m (visits index s runs left))
      (marked ∙ ap (λ r. with_atoms marks (open_codes conditions s r)) here
      ∙ ap (with_atoms marks) (entries_open index s conditions (run_at runs atom) (is.runs_are atom)))
      ∙ sym (with_atoms-append marks (kept_open index s (run_at runs atom)) (visits index s runs left))
      ∙ ap (λ qs. with_atoms marks (visits index s runs qs)) (sym more)

  pub visits_end : (marks first : State) (atoms : List ℕ) → atoms ≡ []
      → with_atoms marks (visits index s runs atoms) ≡ with_atoms first (visits index s runs (true_atoms s))
      → marks ≡ with_atoms first (visits index s runs (true_atoms s))
  visits_end marks first atoms none marked =
      sym (ap (λ qs. with_atoms marks (visits index s runs qs)) none) ∙ marked
