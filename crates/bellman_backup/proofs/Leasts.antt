-- The least over the open actions of a state, where no choice is written down.
use Rattle.std.proofs.Common.{◌≡◌, ℕ, ◌+◌, ◌-◌, ◌/◌, ◌<◌, ◌≤◌, min, nat_eq, Some, List, [], ◌∷◌, refl, sym, ap, ◌∙◌, subst, arith}
use Rattle.std.specs.Int.{div_ceil}
use Rattle.std.specs.List.{slice_get}
use Rattle.std.proofs.lemmas.Bool.{eq-eqb}
use mathlib.Core.Logic.{dite}
use native.Mathlib.Decide.{dec_lt}
use Rattle.fixed_round.specs.Words.{word_of}
use Rattle.ground_model.specs.declared.action.GroundAction.{GroundAction}
use Rattle.ground_model.specs.Invariant.{IsGroundProblem}
use Rattle.applicable_actions.specs.distinct.Laws.{UpperByEnough, SuccessorsByEnough}
use Rattle.bound_core.specs.Numbers.{quit_word}
use Rattle.word_table.specs.view.Views.{number, knows, noted_lower, noted_upper}
use Rattle.word_table.specs.view.Steps.{with_lower_load, with_upper_load}
use Rattle.word_table.proofs.lemmas.view.Lists.{is_first}
use Rattle.word_table.proofs.lemmas.view.Seen.{greatest_over, least_under}
use Rattle.word_table.specs.rule.Told.{HasOneEach, HasOneState}
use Rattle.word_table.specs.Seen.{Board, Knowledge, knowledge, IsOf}
use Rattle.brtdp_trial.specs.declared.step.Step.{Step}
use Rattle.brtdp_trial.specs.declared.step.TheConstants.{GIVE_UP}
use Rattle.brtdp_trial.specs.Listed.{last_in}
use Rattle.kept_transitions.specs.declared.kept_action.KeptAction.{KeptAction}
use Rattle.kept_transitions.specs.declared.kept_row.KeptRow.{KeptRow}
use Rattle.kept_transitions.specs.Rows.{Transitions}
use Rattle.bellman_backup.specs.declared.best.Best.{Best}
use Rattle.bellman_backup.specs.declared.least.Least.{Least}
use Rattle.bellman_backup.specs.declared.sums.Sums.{Sums}
use Rattle.bellman_backup.specs.Backups.{Keeps, Narrows, PlacesNext}
use Rattle.bellman_backup.specs.Kept.{IsKeptState}
use Rattle.bellman_backup.specs.Weighing.{HasWeighed}
use Rattle.bellman_backup.specs.Leasts.{HasSummed, HasLeast, CanNarrow}
use Rattle.bellman_backup.proofs.Keeping.{keeps_all, keeps_again, keeps_lower_load, keeps_upper_load, grows}
use Rattle.bellman_backup.proofs.Choosers.{none_chosen}
use Rattle.bellman_backup.proofs.Narrowing.{narrows_earlier}
use Rattle.bellman_backup.proofs.Placing.{weighed_places, places_between}
use Rattle.bellman_backup.proofs.Finishing.{has_weighed, narrows_since}
use Rattle.bellman_backup.proofs.KeptReads.{KeptSoFar, KeptChosen, chosen_goes_on, chosen_ends, state_is_recalled}

-- ---- the choices of an action

pub record SummedSoFar (b : Board) (k l : Knowledge) (own : ℕ) (ids : List ℕ) (a : GroundAction) (kept : KeptAction) (sums : Sums) (place i : ℕ) : Type 0 where
  pub steps : List Step
  pub is : KeptSoFar b k l own ids a kept steps sums place i

-- ---- the actions of a state

pub record LeastSoFar (b : Board) (k l : Knowledge) (own : ℕ) (t : Transitions) (row : KeptRow) (first : ℕ) (least : Least) (i : ℕ) : Type 0 where
  pub den : 0 < least.mean.den
  pub chosen : List Step
  pub best : Best
  pub is : KeptChosen b k l own t row chosen best i
  pub lower : least.mean.sum / least.mean.den ≡ best.lower
  pub word : least.word ≡ min first best.word

first_is_least : (first quit : ℕ) → first ≤ quit → first ≡ min first quit
first_is_least first quit within = omega arith

least_again : (first w word b word' : ℕ) → word' ≡ min w word → word ≡ min first b → word' ≡ min first (min w b)
least_again first w word b word' next so = omega arith

divided_by_one : (n : ℕ) → n / 1 ≡ n
divided_by_one n = omega arith

pub least_begins : (b : Board) (k : Knowledge) (own : ℕ) (t : Transitions) (row : KeptRow) (first penalty : ℕ) → penalty ≡ b.problem.penalty → IsOf b k
    → first ≤ quit_word b.problem.penalty → LeastSoFar b k k own t row first (record { mean = record { sum = penalty; den = 1 }; word = first }) 0
least_begins b k own t row first penalty same of within =
    let best : Best = record { code = GIVE_UP; den = 1; lower = b.problem.penalty; word = quit_word b.problem.penalty } in record {
      den = omega arith;
      chosen = [];
      best = best;
      is = record { keeps = keeps_all b k of; chosen_is = λ s are. none_chosen b.problem k.view s best [] refl refl refl };
      lower = divided_by_one penalty ∙ same;
      word = first_is_least first (quit_word b.problem.penalty) within;
    }

module _ (b : Board) (k l m : Knowledge) (own : ℕ) (t : Transitions) (row : KeptRow) (first : ℕ) (least least' : Least) (i : ℕ) (action : KeptAction) (a : GroundAction)
    (sums : Sums) (so : LeastSoFar b k l own t row first least i) (keeps : Keeps b l m)
    (within : i < row.past - row.first) (here : slice_get t.actions (row.first + i) ≡ Some action) (coded : slice_get b.problem.actions action.code ≡ Some a)
    (read : HasSummed b.problem l.view m.view own t.ids a action sums) (den : 0 < least'.mean.den)
    (lower : least'.mean.sum / least'.mean.den ≡ min (sums.lower / a.den) (least.mean.sum / least.mean.den))
    (word : least'.word ≡ min (word_of (div_ceil sums.upper a.den) action.code) least.word) where
  abbrev low : ℕ
  low = min (sums.lower / a.den) so.best.lower

  abbrev high : ℕ
  high = min (word_of (div_ceil sums.upper a.den) action.code) so.best.word

  goes_on_as : (chosen : List Step) (best : Best) → KeptChosen b k m own t row chosen best (i + 1) → best.lower ≡ low → best.word ≡ high
      → LeastSoFar b k m own t row first least' (i + 1)
  goes_on_as chosen best is lower_is word_is = record {
    den = den;
    chosen = chosen;
    best = best;
    is = is;
    lower = lower ∙ ap (min (sums.lower / a.den)) so.lower ∙ sym lower_is;
    word = least_again first (word_of (div_ceil sums.upper a.den) action.code) least.word so.best.word least'.word word so.word ∙ ap (min first) (sym word_is);
  }

  abbrev taken : Best
  taken = record { code = action.code; den = a.den; lower = low; word = high }

  abbrev left : Best
  left = record { code = so.best.code; den = so.best.den; lower = low; word = high }

  pub least_goes_on : LeastSoFar b k m own t row first least' (i + 1)
  least_goes_on = dite (dec_lt (sums.lower / a.den) so.best.lower)
      (λ under. goes_on_as read.steps taken
      (chosen_goes_on b k l m own t row so.chosen read.steps read.steps so.best taken i action a sums so.is keeps within here coded read.is refl refl
      (λ _. refl) (λ over. absurd (omega arith))) refl refl)
      (λ over. goes_on_as so.chosen left
      (chosen_goes_on b k l m own t row so.chosen so.chosen read.steps so.best left i action a sums so.is keeps within here coded read.is refl refl
      (λ under. absurd (omega arith)) (λ _. refl)) refl refl)

pub least_ends : (b : Board) (k l : Knowledge) (own : ℕ) (t : Transitions) (row : KeptRow) (first : ℕ) (least : Least) (i : ℕ) → LeastSoFar b k l own t row first least i
    → row.past - row.first ≤ i → HasLeast b.problem k.view l.view own t row first least
least_ends b k l own t row first least i so all = record {
  den = so.den;
  chosen = so.chosen;
  best = so.best;
  is = chosen_ends b k l own t row so.chosen so.best i so.is all;
  lower = so.lower;
  word = so.word;
}

-- ---- the numbers of an id

-- k0 behind the loads of the id's numbers, k1 once its state is recalled, k2 once the open actions were read
module _ (b : Board) (k k' k0 k1 k2 : Knowledge) (id lower upper : ℕ) (t : Transitions) (row : KeptRow) (least : Least) (of : IsOf b k) (known : knows k.view id)
    (seen_lower : k' ≡ knowledge k.table (with_lower_load k.view id lower)) (seen_upper : k0 ≡ knowledge k'.table (with_upper_load k'.view id upper))
    (recalled : Keeps b k0 k1) (loads : k1.view.loads ≡ k0.view.loads) (one : HasOneState k1.view) (is : IsKeptState b.problem k1.view id t row)
    (problem : IsGroundProblem b.problem) (read : Keeps b k1 k2) (has : HasLeast b.problem k1.view k2.view id t row upper least) where
  loaded_lower : Keeps b k k'
  loaded_lower = keeps_lower_load b k k' id lower of seen_lower

  loaded_upper : Keeps b k' k0
  loaded_upper = keeps_upper_load b k' k0 id upper loaded_lower.here seen_upper

  loaded : Keeps b k k0
  loaded = keeps_again b k k' k0 loaded_lower loaded_upper

  since : Keeps b k0 k2
  since = keeps_again b k0 k1 k2 recalled read

  lower_loaded : lower ≤ noted_lower k'.view id
  lower_loaded = subst (λ (x : Knowledge). lower ≤ noted_lower x.view id) (sym seen_lower)
      (greatest_over (λ j. nat_eq j id) (number id lower ∷ k.view.lower) (number id lower) (is_first (number id lower) k.view.lower) (eq-eqb id id refl))

  upper_loaded : noted_upper k0.view id ≤ upper
  upper_loaded = subst (λ (x : Knowledge). noted_upper x.view id ≤ upper) (sym seen_upper)
      (least_under (λ j. nat_eq j id) (quit_word k'.view.problem.penalty) (number id upper ∷ k'.view.upper) (number id upper) (is_first (number id upper) k'.view.upper)
      (eq-eqb id id refl))

  weighed : HasWeighed b k0 k2 id (last_in has.best.code has.best.den has.chosen) has.best.lower has.best.word
  weighed = has_weighed b k0 k1 k2 id is.state is.actions.codes has.chosen has.best problem is.off_goal recalled
      (state_is_recalled b.problem k0.view k1.view id t row is recalled.noted one) loads read (has.is is.state is.actions) is.actions.enough

  pub can_narrow : CanNarrow b k2 id lower upper least
  can_narrow = record {
    den = has.den;
    word = has.best.word;
    settle = record {
      before = k0;
      here = loaded.here;
      known = loaded.noted.known id known;
      keeps = since;
      last = last_in has.best.code has.best.den has.chosen;
      weighed = subst (λ n. HasWeighed b k0 k2 id (last_in has.best.code has.best.den has.chosen) n has.best.word) (sym has.lower) weighed;
    };
    word_is = has.word;
    lower_noted = (let own = lower_loaded in let later = (grows b k' k2 (keeps_again b k' k0 k2 loaded_upper since)).later.noted_lower id in omega arith);
    upper_noted = (let own = upper_loaded in let later = (grows b k0 k2 since).later.noted_upper id in omega arith);
  }

  module _ (k3 : Knowledge) (each : HasOneEach k2.view) (narrowed : Keeps b k2 k3) (raised : least.mean.sum / least.mean.den ≤ noted_lower k3.view id)
      (sunk : noted_upper k3.view id ≤ least.word) where
    pub narrow_keeps : Keeps b k k3
    narrow_keeps = keeps_again b k k0 k3 loaded (keeps_again b k0 k2 k3 since narrowed)

    pub narrow_places : SuccessorsByEnough → PlacesNext b.problem k.view k3.view id
    narrow_places law = places_between b.problem k.view k0.view k2.view k3.view id loaded.noted loaded.looks narrowed.noted narrowed.looks
        (weighed_places b k0 k2 id (last_in has.best.code has.best.den has.chosen) has.best.lower has.best.word law weighed)

    pub narrow_narrows : UpperByEnough → Narrows b.problem k.view k3.view id
    narrow_narrows law =
        let low = has.lower in let high = has.word in
        narrows_earlier b.problem k.view k0.view k3.view id (grows b k k0 loaded).later
        (narrows_since b k0 k2 k2 id (last_in has.best.code has.best.den has.chosen) has.best.lower has.best.word loaded.here (loaded.noted.known id known) since weighed
        (keeps_all b k2 since.here) each law k3 narrowed.noted (omega arith) (omega arith))
