-- What was read of a state that may follow.
use Rattle.std.proofs.Common.{◌≡◌, ℕ, ◌<◌, ◌≤◌, true, false, cond, nat_eq, Some, None, [], refl, sym, ap, subst, inl, inr, arith}
use Rattle.std.specs.Prelude.{IsTrue, Option}
use Rattle.std.proofs.lemmas.Bool.{cases_Bool, eq-eqb}
use Rattle.fixed_round.specs.Words.{value_of}
use Rattle.ground_model.specs.Packed.{State}
use Rattle.ground_model.specs.Ground.{Ground}
use Rattle.ground_model.specs.Steps.{ground_process}
use Rattle.bound_core.specs.Numbers.{first_word, goal_word, quit_word}
use Rattle.word_table.specs.declared.view.View.{View}
use Rattle.word_table.specs.view.Views.{number, knows, has_state, seen_lower, seen_upper, noted_lower, noted_upper}
use Rattle.word_table.specs.view.Laws.{HasMore, IsLater}
use Rattle.word_table.proofs.lemmas.view.Lists.{is_first}
use Rattle.word_table.proofs.lemmas.view.Seen.{greatest_over, least_under, least_first, seen_lower_is_greatest, seen_upper_is_least, later_is_reflexive, raised_is_seen, sunk_is_seen}
use Rattle.word_table.specs.rule.Told.{HasOneEach}
use Rattle.bound_words.specs.declared.bounds.Interval.{Interval}
use Rattle.bound_words.specs.Intervals.{with_interval, word_in, TellsInterval}
use Rattle.state_interner.specs.Interned.{AddsLooks, IsIdOf, IsFull}
use Rattle.bellman_backup.specs.Races.{has_all, full_between}
use Rattle.bellman_backup.specs.Readings.{Reading, WasFull, IsReading, IsRead}

-- ---- first words

pub first_at_goal : (g : Ground) (t : State) → (ground_process g).goal t ≡ true → first_word g t ≡ goal_word
first_at_goal g t on = ap (λ b. cond b goal_word (quit_word g.penalty)) on

pub first_off_goal : (g : Ground) (t : State) → (ground_process g).goal t ≡ false → first_word g t ≡ quit_word g.penalty
first_off_goal g t off = ap (λ b. cond b goal_word (quit_word g.penalty)) off

pub first_within : (g : Ground) (t : State) → value_of (first_word g t) ≤ g.penalty
first_within g t = elim (cases_Bool ((ground_process g).goal t)) [
  | inl on ↦ (let is = first_at_goal g t on in omega arith)
  | inr off ↦ (let is = first_off_goal g t off in omega arith)
]

pub first_within_quit : (g : Ground) (t : State) → first_word g t ≤ quit_word g.penalty
first_within_quit g t = elim (cases_Bool ((ground_process g).goal t)) [
  | inl on ↦ (let is = first_at_goal g t on in omega arith)
  | inr off ↦ (let is = first_off_goal g t off in omega arith)
]

pub seen_within_first : (v : View) (t : State) → seen_upper v t ≤ first_word v.problem t
seen_within_first v t = least_first (λ id. has_state v id t) (first_word v.problem t) v.upper

within_first : (g : Ground) (t : State) (word : ℕ) → word ≤ quit_word g.penalty → ((ground_process g).goal t ≡ true → word ≤ goal_word) → word ≤ first_word g t
within_first g t word quit at_goal = elim (cases_Bool ((ground_process g).goal t)) [
  | inl on ↦ (let is = first_at_goal g t on in let small = at_goal on in omega arith)
  | inr off ↦ (let is = first_off_goal g t off in omega arith)
]

some_is : (i j : ℕ) → Some i ≡ Some j → i ≡ j
some_is i j same = cc

none_is_not_some : (i : ℕ) → None ≡ Some i → ⊥
none_is_not_some i same = cc

some_is_not_none : (i : ℕ) → Some i ≡ None → ⊥
some_is_not_none i same = cc

-- a later view, which has made the same looks and more
pub record Grows (v w : View) : Type 0 where
  pub later : IsLater v w
  pub noted : HasMore v w
  pub looks : AddsLooks v w

pub grows_all : (v : View) → Grows v v
grows_all v = record { later = later_is_reflexive v; noted = has_all v; looks = ([], refl) }

full_now : (v w : View) (t : State) → IsFull v t w → WasFull v t w
full_now v w t full = record {
  before = v;
  after = w;
  noted_before = has_all v;
  looks_before = ([], refl);
  full = full;
  noted_after = has_all w;
  looks_after = ([], refl);
}

abbrev pub reading_of : ℕ → Interval → Reading
reading_of id i = record { id = Some id; lower = i.lower; word = word_in i }

abbrev pub first_reading : Ground → State → Reading
first_reading g t = record { id = None; lower = 0; word = first_word g t }

pub id_is_read : (g : Ground) (v : View) (t : State) (id : ℕ) (i : Interval) → v.problem ≡ g → i.code < 65536 → IsIdOf v t id → TellsInterval g v id i
    → IsRead g v (with_interval v id i) t (reading_of id i)
id_is_read g v t id i same small its tells =
    let w : View = with_interval v id i in
    let quit = tells.within_quit in
    let word : word_in i ≤ quit_word g.penalty = omega arith in
    let noted = tells.upper_narrower in
    let value : value_of (word_in i) ≡ i.upper = omega arith in record {
      lower_noted = λ j is. subst (λ k. noted_lower v k ≤ i.lower) (some_is id j is) tells.lower_narrower;
      upper_noted = λ j is. subst (λ k. word_in i ≤ noted_upper v k) (some_is id j is) tells.upper_narrower;
      lower_until = raised_is_seen w (number id i.lower) t (is_first (number id i.lower) v.lower) its.state;
      upper_until = sunk_is_seen w (number id (word_in i)) t (is_first (number id (word_in i)) v.upper) its.state;
      ordered = (let o = tells.ordered in omega arith);
      within_quit = omega arith;
      within_first = within_first g t (word_in i) word
          (λ on. let at = its.at_goal (subst (λ (p : Ground). (ground_process p).goal t ≡ true) (sym same) on) in omega arith);
      placed = λ j is. subst (λ k. knows w k × IsTrue (has_state w k t)) (some_is id j is) (its.known, its.state);
      unplaced = λ is. absurd (some_is_not_none id is);
      missing = λ is. absurd (some_is_not_none id is);
    }

pub none_is_read : (g : Ground) (v w : View) (t : State) → Grows v w → w.problem ≡ g → IsFull v t w → IsRead g v w t (first_reading g t)
none_is_read g v w t grows same full =
    let within = first_within g t in record {
      lower_noted = λ j is. absurd (none_is_not_some j is);
      upper_noted = λ j is. absurd (none_is_not_some j is);
      lower_until = omega arith;
      upper_until = subst (λ (p : Ground). seen_upper w t ≤ first_word p t) same (seen_within_first w t);
      ordered = omega arith;
      within_quit = within;
      within_first = omega arith;
      placed = λ j is. absurd (none_is_not_some j is);
      unplaced = λ is. (refl, refl, full_now v w t full);
      missing = λ is id had. full.missing.none id (grows.later.states id t had);
    }

-- a reading between two views is one between an earlier and a later one
pub read_stays : (g : Ground) (u v w x : View) (t : State) (r : Reading) → Grows u v → Grows w x → IsRead g v w t r → IsRead g u x t r
read_stays g u v w x t r before after is = record {
  lower_noted = λ id at. let a = before.later.noted_lower id in let b = is.lower_noted id at in omega arith;
  upper_noted = λ id at. let a = before.later.noted_upper id in let b = is.upper_noted id at in omega arith;
  lower_until = (let a = after.later.lower t in let b = is.lower_until in omega arith);
  upper_until = (let a = after.later.upper t in let b = is.upper_until in omega arith);
  ordered = is.ordered;
  within_quit = is.within_quit;
  within_first = is.within_first;
  placed = λ id at. (after.later.known id (is.placed id at).0, after.later.states id t (is.placed id at).1);
  unplaced = λ at.
      ((is.unplaced at).0, (is.unplaced at).1, full_between u v w x t before.noted before.looks (is.unplaced at).2 after.noted after.looks);
  missing = λ at id had. is.missing at id (before.later.states id t had);
}

-- ---- a state with one id

module _ (v : View) (t : State) (id : ℕ) (one : (j : ℕ) → IsTrue (has_state v j t) → j ≡ id) where
  seen_lower_within : (n : ℕ) → noted_lower v id ≤ n → seen_lower v t ≤ n
  seen_lower_within n within = seen_lower_is_greatest v t n (λ m there has.
      let over = greatest_over (λ i. nat_eq i id) v.lower m there (eq-eqb m.id id (one m.id has)) in omega arith)

  seen_upper_over : (word : ℕ) → word ≤ noted_upper v id → word ≤ first_word v.problem t → word ≤ seen_upper v t
  seen_upper_over word within first = seen_upper_is_least v t word first (λ m there has.
      let under = least_under (λ i. nat_eq i id) (quit_word v.problem.penalty) v.upper m there (eq-eqb m.id id (one m.id has)) in omega arith)

-- ---- what was seen of the state

placed_since : (g : Ground) (v w : View) (t : State) (r : Reading) (id : ℕ) → v.problem ≡ g → IsLater v w → HasOneEach w → IsRead g v w t r → r.id ≡ Some id
    → (seen_lower v t ≤ r.lower) × (r.word ≤ seen_upper v t)
placed_since g v w t r id same later one is at =
    let only : (j : ℕ) → IsTrue (has_state v j t) → j ≡ id = λ j had. one j id t (later.states j t had) (is.placed id at).1 in
    let first : r.word ≤ first_word v.problem t = subst (λ (p : Ground). r.word ≤ first_word p t) (sym same) is.within_first in (
      seen_lower_within v t id only r.lower (is.lower_noted id at),
      seen_upper_over v t id only r.word (is.upper_noted id at) first,
    )

unplaced_since : (g : Ground) (v w : View) (t : State) (r : Reading) → v.problem ≡ g → IsRead g v w t r → r.id ≡ None
    → (seen_lower v t ≤ r.lower) × (r.word ≤ seen_upper v t)
unplaced_since g v w t r same is at = (
  seen_lower_is_greatest v t r.lower (λ m there has. absurd (is.missing at m.id has)),
  seen_upper_is_least v t r.word (subst (λ (p : Ground). r.word ≤ first_word p t) (sym same) is.within_first) (λ m there has. absurd (is.missing at m.id has)),
)

since : (g : Ground) (v w : View) (t : State) (r : Reading) (id : Option ℕ) → r.id ≡ id → v.problem ≡ g → IsLater v w → HasOneEach w → IsRead g v w t r
    → (seen_lower v t ≤ r.lower) × (r.word ≤ seen_upper v t)
since g v w t r None at same later one is = unplaced_since g v w t r same is at
since g v w t r (Some id) at same later one is = placed_since g v w t r id same later one is at

pub reading_is : (g : Ground) (v w : View) → v.problem ≡ g → IsLater v w → HasOneEach w → (t : State) (r : Reading) → IsRead g v w t r → IsReading g v w t r
reading_is g v w same later one t r is =
    let before = since g v w t r r.id refl same later one is in record {
      lower_since = before.0;
      lower_until = is.lower_until;
      upper_since = before.1;
      upper_until = is.upper_until;
      ordered = is.ordered;
      within_quit = is.within_quit;
      placed = is.placed;
      unplaced = is.unplaced;
    }
