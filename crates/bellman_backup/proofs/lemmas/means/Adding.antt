-- The sums over the starts, one start after another.
use Rattle.std.proofs.Common.{◌≡◌, ℕ, ◌+◌, ◌*◌, ◌<◌, ◌≤◌, ◌^◌, inl, inr, Bool, true, false, IsTrue, nat_eq, List, length, take, get_or, sym, ap, ◌∙◌, subst, arith}
use Rattle.std.proofs.Math.Nat.{mul-le-mul_left, mul-le-mul_right}
use Rattle.std.proofs.lemmas.Bool.{cases_Bool, eq-eqb}
use Rattle.fixed_round.specs.Words.{value_of}
use Rattle.plain_list.specs.weighted.Mean.{total}
use Rattle.plain_list.proofs.lemmas.weighted.Totals.{total-le, total-map}
use Rattle.decision_process.specs.Process.{at_starts}
use Rattle.decision_process.specs.Process.{Start as ProcessStart}
use Rattle.decision_process.specs.Backup.{floor, ceiling}
use Rattle.decision_process.proofs.Rounding.{floor_rises, ceiling_rises}
use Rattle.ground_model.specs.declared.start.Start.{Start}
use Rattle.ground_model.specs.Packed.{State}
use Rattle.ground_model.specs.Ground.{Ground}
use Rattle.ground_model.specs.Steps.{ground_process, ground_starts, start_of}
use Rattle.ground_model.specs.Invariant.{IsGroundProblem}
use Rattle.bound_core.specs.Numbers.{first_word, quit_word}
use Rattle.word_table.specs.declared.view.View.{View}
use Rattle.word_table.specs.view.Views.{number, has_state, seen_lower, seen_upper, noted_upper}
use Rattle.word_table.specs.view.Laws.{IsLater}
use Rattle.word_table.specs.view.Steps.{with_count}
use Rattle.word_table.proofs.lemmas.view.Lists.{is_first}
use Rattle.word_table.proofs.lemmas.view.Seen.{seen_lower_is_greatest, seen_upper_is_least, raised_is_seen, sunk_is_seen, greatest_over, least_under}
use Rattle.word_table.specs.rule.Told.{HasOneEach}
use Rattle.bound_words.specs.declared.bounds.Interval.{Interval}
use Rattle.bound_words.specs.Intervals.{with_interval, word_in, TellsInterval}
use Rattle.bellman_backup.proofs.NextRead.{first_at_goal, first_off_goal, seen_within_first}
use Rattle.bellman_backup.specs.declared.means.bounds.Bounds.{Bounds}
use Rattle.bellman_backup.specs.declared.means.sums.Sums.{Sums}
use Rattle.bellman_backup.specs.means.Means.{seen_value, HasStarts, lower_mean, upper_mean}
use Rattle.bellman_backup.specs.means.Sums.{IsReadOf, over, AreSums}
use Rattle.bellman_backup.proofs.lemmas.means.Totals.{total_more, total_part}

value_rises : (x y : ℕ) → x ≤ y → value_of x ≤ value_of y
value_rises x y below = omega arith

true_is_not_false : (b : Bool) → b ≡ true → b ≡ false → ⊥
true_is_not_false b on off = cc

-- ---- one start

-- a reading of its interval
module _ (g : Ground) (v : View) (id : ℕ) (s : State) (has : IsTrue (has_state v id s)) (same : v.problem ≡ g) (i : Interval) (small : i.code < 65536)
    (told : TellsInterval g v id i) (r : Bounds) (lower : r.lower ≡ i.lower) where
  abbrev after : View
  after = with_interval v id i

  lower_there : r.lower ≤ seen_lower after s
  lower_there = let a = raised_is_seen after (number id i.lower) s (is_first (number id i.lower) v.lower) has in omega arith

  pub off_goal_is_read : (ground_process g).goal s ≡ false → r.upper ≡ i.upper → IsReadOf g v after id s r
  off_goal_is_read off upper = record {
    lower_noted = (let a = told.lower_narrower in omega arith);
    lower_until = lower_there;
    upper_noted = (let a = value_rises (word_in i) (noted_upper v id) told.upper_narrower in omega arith);
    at_goal = λ on. absurd (true_is_not_false ((ground_process g).goal s) on off);
    upper_until =
        (let under = sunk_is_seen after (number id (word_in i)) s (is_first (number id (word_in i)) v.upper) has in
        let a = value_rises (seen_upper after s) (word_in i) under in omega arith);
    within_quit = (let a = told.ordered in let b = told.within_quit in (omega arith, omega arith));
  }

  pub goal_is_read : (ground_process g).goal s ≡ true → r.upper ≡ 0 → IsReadOf g v after id s r
  goal_is_read on upper = record {
    lower_noted = (let a = told.lower_narrower in omega arith);
    lower_until = lower_there;
    upper_noted = omega arith;
    at_goal = λ _. upper;
    upper_until =
        (let first : seen_upper after s ≤ first_word g s = subst (λ (p : Ground). seen_upper after s ≤ first_word p s) same (seen_within_first after s) in
        let is = first_at_goal g s on in omega arith);
    within_quit = (let a = told.ordered in let b = told.within_quit in (omega arith, omega arith));
  }

-- what was seen of the start before is no narrower
module _ (g : Ground) (u v w : View) (id : ℕ) (s : State) (has : IsTrue (has_state u id s)) (one : HasOneEach u) (same : u.problem ≡ g)
    (before : IsLater u v) (r : Bounds) (is : IsReadOf g v w id s r) where
  lower_since : seen_lower u s ≤ r.lower
  lower_since = seen_lower_is_greatest u s r.lower (λ n there had.
      let a = greatest_over (λ i. nat_eq i id) u.lower n there (eq-eqb n.id id (one n.id id s had has)) in
      let b = before.noted_lower id in let c = is.lower_noted in omega arith)

  off_goal_since : (ground_process g).goal s ≡ false → r.upper ≤ seen_value u s
  off_goal_since off =
      let first : r.upper * 65536 ≤ first_word u.problem s =
      subst (λ (p : Ground). r.upper * 65536 ≤ first_word p s) (sym same) (let a = first_off_goal g s off in let b = is.within_quit in omega arith) in
      let over : r.upper * 65536 ≤ seen_upper u s = seen_upper_is_least u s (r.upper * 65536) first (λ n there had.
      let a = least_under (λ i. nat_eq i id) (quit_word u.problem.penalty) u.upper n there (eq-eqb n.id id (one n.id id s had has)) in
      let b = before.noted_upper id in let c = is.upper_noted in omega arith) in
      omega arith

  upper_since : r.upper ≤ seen_value u s
  upper_since = elim (cases_Bool ((ground_process g).goal s)) [
    | inl on ↦ (let a = is.at_goal on in omega arith)
    | inr off ↦ off_goal_since off
  ]

-- ---- one start more

abbrev weight : Start → ℕ
weight x = x.weight

over_rises : (f h : State → ℕ) (xs : List Start) → ((s : State) → f s ≤ h s) → over f xs ≤ over h xs
over_rises f h xs each = total-le (λ (x : Start). x.weight * f x.state) (λ x. x.weight * h x.state) xs (λ x inside. mul-le-mul_left x.weight (each x.state))

seen_value_falls : (v w : View) → IsLater v w → (s : State) → seen_value w s ≤ seen_value v s
seen_value_falls v w later s = value_rises (seen_upper w s) (seen_upper v s) (later.upper s)

pub nothing_added : (g : Ground) (v : View) (xs : List Start) (sums : Sums) → sums.lower ≡ 0 → sums.upper ≡ 0 → AreSums g v v (take 0 xs) sums
nothing_added g v xs sums lower upper = record {
  lower_since = omega arith;
  lower_until = omega arith;
  upper_since = omega arith;
  upper_until = omega arith;
  within_quit = (omega arith, omega arith);
}

module _ (g : Ground) (u v w : View) (xs : List Start) (i : ℕ) (x : Start) (within : i < length xs) (is : x ≡ get_or xs i x)
    (has : IsTrue (has_state u i x.state)) (one : HasOneEach u) (same : u.problem ≡ g) (before : IsLater u v) (after : IsLater v w)
    (sums : Sums) (are : AreSums g u v (take i xs) sums) (r : Bounds) (read : IsReadOf g v w i x.state r) where
  more : (f : State → ℕ) → over f (take (i + 1) xs) ≡ over f (take i xs) + x.weight * f x.state
  more f = total_more (λ (y : Start). y.weight * f y.state) xs i x within is

  lower_quit : sums.lower + x.weight * r.lower ≤ total weight (take (i + 1) xs) * g.penalty
  lower_quit =
      let t = total_more weight xs i x within is in
      let a : x.weight * r.lower ≤ x.weight * g.penalty = mul-le-mul_left x.weight read.within_quit.0 in
      let b : (total weight (take i xs) + x.weight) * g.penalty ≡ total weight (take i xs) * g.penalty + x.weight * g.penalty = grind arith in
      let c : total weight (take (i + 1) xs) * g.penalty ≡ (total weight (take i xs) + x.weight) * g.penalty = ap (λ n. n * g.penalty) t in
      let d = are.within_quit.0 in omega arith

  upper_quit : sums.upper + x.weight * r.upper ≤ total weight (take (i + 1) xs) * g.penalty
  upper_quit =
      let t = total_more weight xs i x within is in
      let a : x.weight * r.upper ≤ x.weight * g.penalty = mul-le-mul_left x.weight read.within_quit.1 in
      let b : (total weight (take i xs) + x.weight) * g.penalty ≡ total weight (take i xs) * g.penalty + x.weight * g.penalty = grind arith in
      let c : total weight (take (i + 1) xs) * g.penalty ≡ (total weight (take i xs) + x.weight) * g.penalty = ap (λ n. n * g.penalty) t in
      let d = are.within_quit.1 in omega arith

  pub one_more : (sums' : Sums) → sums'.lower ≡ sums.lower + x.weight * r.lower → sums'.upper ≡ sums.upper + x.weight * r.upper
      → AreSums g u w (take (i + 1) xs) sums'
  one_more sums' lower upper = record {
    lower_since =
        (let a = more (seen_lower u) in let b = are.lower_since in
        let c : x.weight * seen_lower u x.state ≤ x.weight * r.lower = mul-le-mul_left x.weight (lower_since g u v w i x.state has one same before r read) in omega arith);
    lower_until =
        (let a = more (seen_lower w) in let b = are.lower_until in
        let rises = over_rises (seen_lower v) (seen_lower w) (take i xs) after.lower in
        let c : x.weight * r.lower ≤ x.weight * seen_lower w x.state = mul-le-mul_left x.weight read.lower_until in omega arith);
    upper_since =
        (let a = more (seen_value u) in let b = are.upper_since in
        let c : x.weight * r.upper ≤ x.weight * seen_value u x.state = mul-le-mul_left x.weight (upper_since g u v w i x.state has one same before r read) in omega arith);
    upper_until =
        (let a = more (seen_value w) in let b = are.upper_until in
        let falls = over_rises (seen_value w) (seen_value v) (take i xs) (seen_value_falls v w after) in
        let c : x.weight * seen_value w x.state ≤ x.weight * r.upper = mul-le-mul_left x.weight read.upper_until in omega arith);
    within_quit = (let a = lower_quit in omega arith, let a = upper_quit in omega arith);
  }

  -- the sums have room
  pub fits : IsGroundProblem g → xs ≡ g.starts → (sums.lower + x.weight * r.lower < 2 ^ 128) × (sums.upper + x.weight * r.upper < 2 ^ 128)
  fits valid all =
      let part : total weight (take (i + 1) xs) ≤ total weight xs = total_part weight xs (i + 1) in
      let whole : total weight xs ≡ g.start_den = ap (total weight) all ∙ valid.starts_weights.sum in
      let den = valid.starts_weights.den_within in
      let few : total weight (take (i + 1) xs) ≤ 10 ^ 18 = omega arith in
      let a : total weight (take (i + 1) xs) * g.penalty ≤ 10 ^ 18 * g.penalty = mul-le-mul_right g.penalty few in
      let b = valid.penalty_within in let c = lower_quit in let d = upper_quit in
      let most : 10 ^ 18 * g.penalty ≤ 10 ^ 18 * 10 ^ 14 = mul-le-mul_left (10 ^ 18) (let e : g.penalty ≤ 10 ^ 14 = omega arith in e) in
      (omega arith, omega arith)

-- ---- the means

over_starts : (f : State → ℕ) (g : Ground) → over f g.starts ≡ at_starts f (ground_starts g)
over_starts f g = sym (total-map (λ (y : ProcessStart State). y.weight * f y.state) start_of g.starts)

module _ (g : Ground) (v w : View) (xs : List Start) (all : xs ≡ g.starts) (sums : Sums) (are : AreSums g v w xs sums) where
  there : (f : State → ℕ) → over f xs ≡ at_starts f (ground_starts g)
  there f = ap (over f) all ∙ over_starts f g

  pub are_means : (lower_mean g v ≤ floor sums.lower g.start_den) × (floor sums.lower g.start_den ≤ lower_mean g w)
      × (ceiling sums.upper g.start_den ≤ upper_mean g v) × (upper_mean g w ≤ ceiling sums.upper g.start_den)
  are_means = (
    floor_rises (at_starts (seen_lower v) (ground_starts g)) sums.lower g.start_den (let a = there (seen_lower v) in let b = are.lower_since in omega arith),
    floor_rises sums.lower (at_starts (seen_lower w) (ground_starts g)) g.start_den (let a = there (seen_lower w) in let b = are.lower_until in omega arith),
    ceiling_rises sums.upper (at_starts (seen_value v) (ground_starts g)) g.start_den (let a = there (seen_value v) in let b = are.upper_since in omega arith),
    ceiling_rises (at_starts (seen_value w) (ground_starts g)) sums.upper g.start_den (let a = there (seen_value w) in let b = are.upper_until in omega arith),
  )

-- a look at the count leaves what was seen
pub counted_sums : (g : Ground) (v w : View) (n : ℕ) (xs : List Start) (sums : Sums) → AreSums g (with_count v n) w xs sums → AreSums g v w xs sums
counted_sums g v w n xs sums are = record {
  lower_since = are.lower_since;
  lower_until = are.lower_until;
  upper_since = are.upper_since;
  upper_until = are.upper_until;
  within_quit = are.within_quit;
}

pub starts_later : (g : Ground) (v w : View) → IsLater v w → HasStarts g v → HasStarts g w
starts_later g v w later has id x at = let h = has id x at in (later.known id h.0, later.states id x.state h.1)
