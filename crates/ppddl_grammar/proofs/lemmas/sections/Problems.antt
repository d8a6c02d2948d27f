-- What a problem says of its start and its goal: what is read is what is spelled.
use Rattle.std.proofs.Common.{◌≡◌, ℕ, ◌≤◌, [], nat_lt, Result, Ok, Err, refl, sym, ap, subst, ltb-false, le-ltb}
use Rattle.plain_list.proofs.Results.{bind_ok, ok_is, test_fails}
use Rattle.exact_fraction.specs.declared.refusal.NumberRefusal.{NumberRefusal}
use Rattle.exact_fraction.specs.Numbers.{amount_of}
use Rattle.ppddl_model.specs.declared.limits.TheConstants.{MOST_PENALTY}
use Rattle.ppddl_forms.specs.names.Declarations.{Declared}
use Rattle.ppddl_cursor.specs.declared.place.Place.{Place}
use Rattle.ppddl_cursor.specs.Forms.{Form, Forms, lone, group, none, more}
use Rattle.ppddl_cursor.specs.Reading.{Fault}
use Rattle.ppddl_cursor.specs.Sequences.{of_word, checking, one_then, last, each}
use Rattle.ppddl_forms.specs.Conditions.{condition}
use Rattle.ppddl_forms.specs.Words.{amount_by, amount}
use Rattle.ppddl_forms.specs.items.Items.{item}
use Rattle.ppddl_reader.specs.declared.sections.start.Start.{Start}
use Rattle.ppddl_reader.specs.sections.Goals as goal_by
use Rattle.ppddl_reader.specs.sections.Starts.{no_items, put, started, start_behind}
use Rattle.ppddl_form_grammar.proofs.lemmas.forms.Conditions.{condition_derived, condition_accepted}
use Rattle.ppddl_form_grammar.proofs.lemmas.forms.Parts.{last_ok}
use Rattle.ppddl_form_grammar.proofs.lemmas.lists.Items.{item_derived, item_accepted}
use Rattle.ppddl_grammar.specs.sections.Laws.{StartIsDerived, StartIsAccepted, GoalIsDerived, GoalIsAccepted, RewardIsDerived, RewardIsAccepted}
use Rattle.ppddl_grammar.specs.sections.Problems as by
use Rattle.ppddl_grammar.specs.sections.Problems.{Items, IsGoal, IsGoalReward}

-- ---- the start

module _ (d : Declared) where
  items-derived : (s : Start) (fs : Forms) (b : Place) (t : Start) → start_behind d s fs b ≡ Ok t → Items d s fs t
  unfolding start_behind each started checking
  items-derived s none b t is = subst (Items d s none) (ok_is {E = Fault} s t is) by.no_item
  items-derived s (more f fs) b t is =
      let r = bind_ok (started d s f) (λ u. start_behind d u fs b) t is in
      let q = bind_ok (item d s.values f) (λ i. Ok (put s i)) r.0 r.1 in
      by.one_more (item_derived d s.values f q.0 q.1)
      (subst (λ u. Items d u fs t) (sym (ok_is {E = Fault} (put s q.0) r.0 q.2)) (items-derived r.0 fs b t r.2))

  items-accepted : (s : Start) (fs : Forms) (t : Start) → Items d s fs t → (b : Place) → start_behind d s fs b ≡ Ok t
  unfolding start_behind each started checking
  items-accepted s fs t by.no_item b = refl
  items-accepted s fs t (by.one_more {f = f} {fs = gs} {i = i} is rest) b = rw (item_accepted d s.values f i is) (items-accepted (put s i) gs t rest b)

pub start-derived : StartIsDerived
start-derived d fs b s is = items-derived d no_items fs b s is

pub start-accepted : StartIsAccepted
start-accepted d fs b s items = items-accepted d no_items fs s items b

-- ---- the goal

pub goal-derived : GoalIsDerived
unfolding goal_by.goal one_then
goal-derived d none b c is = absurd cc
goal-derived d (more f fs) b c is =
    let r = bind_ok (condition d [] f) (λ x. last x fs b) c is in
    let end = last_ok r.0 c fs b r.2 in
    subst (λ gs. IsGoal d (more f gs) c) (sym end.0) (by.goal (condition_derived d [] f c (subst (λ x. condition d [] f ≡ Ok x) end.1 r.1)))

pub goal-accepted : GoalIsAccepted
unfolding goal_by.goal one_then last
goal-accepted d fs b c (by.goal {f = f} is) = rw (condition_accepted d [] f c is) refl

-- ---- the goal reward

amount_ok : (a : Place) (r : Result ℕ NumberRefusal) (n : ℕ) → amount_by 1 a r ≡ Ok n → (r ≡ Ok n) × (1 ≤ n)
amount_ok a (Ok m) n is =
    let t = test_fails (nat_lt m 1) _ (Ok m) n is in
    let e : m ≡ n = ok_is {E = Fault} m n t.1 in
    (ap (λ k. Ok k) e, subst (λ k. 1 ≤ k) e (ltb-false m 1 t.0))
amount_ok a (Err e) n is = absurd cc

word-derived : (f : Form) (n : ℕ) → amount 1 MOST_PENALTY f ≡ Ok n → IsGoalReward (more f none) n
unfolding amount of_word
word-derived (lone w a) n is = let r = amount_ok a (amount_of w MOST_PENALTY) n is in by.reward r.0 r.1
word-derived (group a fs b) n is = absurd cc

pub reward-derived : RewardIsDerived
unfolding goal_by.goal_reward one_then
reward-derived none b n is = absurd cc
reward-derived (more f fs) b n is =
    let r = bind_ok (amount 1 MOST_PENALTY f) (λ x. last x fs b) n is in
    let end = last_ok r.0 n fs b r.2 in
    subst (λ gs. IsGoalReward (more f gs) n) (sym end.0) (word-derived f n (subst (λ x. amount 1 MOST_PENALTY f ≡ Ok x) end.1 r.1))

pub reward-accepted : RewardIsAccepted
unfolding goal_by.goal_reward one_then last amount of_word
reward-accepted fs b n (by.reward is positive) = rw (is, le-ltb n 1 positive) refl
