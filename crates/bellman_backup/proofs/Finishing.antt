-- What is left once all open actions were read.
use Rattle.std.proofs.Common.{◌≡◌, ℕ, ◌*◌, ◌/◌, ◌<◌, ◌≤◌, ◌^◌, min, false, true, nat_eq, Some, None, List, [], ◌∷◌, ◌++◌, map, refl, sym, ap, ◌∙◌, subst, arith}
use Rattle.std.specs.Prelude.{IsTrue, Option, All, flat_map}
use Rattle.std.specs.List.{slice_get}
use Rattle.std.specs.Int.{div_ceil}
use Rattle.std.proofs.lemmas.Bool.{both_ways, eq-eqb, eqb-true}
use Rattle.std.proofs.lemmas.List.Elements.{All-nil, All-weaker}
use Rattle.fixed_round.specs.Words.{word_of, value_of}
use Rattle.decision_process.proofs.Choice.{min_with_is_least}
use Rattle.ground_model.specs.declared.action.GroundAction.{GroundAction}
use Rattle.ground_model.specs.Packed.{State}
use Rattle.ground_model.specs.Ground.{Ground}
use Rattle.ground_model.specs.Invariant.{IsGroundProblem}
use Rattle.ground_model.specs.Steps.{ground_process}
use Rattle.applicable_actions.specs.distinct.Enough.{AreEnough}
use Rattle.applicable_actions.specs.distinct.Laws.{LowerByEnough, UpperByEnough, SuccessorsByEnough}
use Rattle.bound_core.specs.Numbers.{quit_word, IsSupported}
use Rattle.word_table.specs.declared.view.View.{View}
use Rattle.word_table.specs.view.Views.{number, knows, has_state, seen_lower, seen_upper, noted_lower, noted_upper, CanRaise, CanSink}
use Rattle.word_table.specs.view.Steps.{with_count, with_lower}
use Rattle.word_table.proofs.lemmas.view.Lists.{is_first}
use Rattle.word_table.specs.view.Laws.{HasMore}
use Rattle.word_table.proofs.lemmas.view.Seen.{has_state_more, raised_is_seen, sunk_is_seen, greatest_within, greatest_over, least_within, least_under}
use Rattle.word_table.specs.rule.Told.{HasOneEach}
use Rattle.word_table.specs.Seen.{Board, Knowledge, knowledge, IsOf}
use Rattle.brtdp_trial.specs.declared.step.Step.{Step}
use Rattle.brtdp_trial.specs.declared.step.TheConstants.{AT_GOAL}
use Rattle.brtdp_trial.specs.Meaning.{Last, AreChoices, LeadsToKnown}
use Rattle.brtdp_trial.specs.Listed.{no_action, last_in}
use Rattle.bellman_backup.specs.declared.sums.Sums.{Sums}
use Rattle.bellman_backup.specs.declared.best.Best.{Best}
use Rattle.bellman_backup.specs.Races.{has_all}
use Rattle.bellman_backup.specs.Readings.{Reading, loads_in}
use Rattle.bellman_backup.specs.Candidates.{Found, codes_of, readings_of, act_word, least_low, least_word, IsAnswer}
use Rattle.bellman_backup.specs.Backups.{Keeps, IsStateOf, IsFound, IsBackedUp, HasBackedUp, Narrows, PlacesNext}
use Rattle.bellman_backup.specs.Totals.{HasReadAction}
use Rattle.bellman_backup.specs.Choosing.{IsReadAction, HasChosen}
use Rattle.bellman_backup.specs.Weighing.{HasWeighed, RestsAt, WeighTells, IsNarrowed}
use Rattle.bellman_backup.proofs.Keeping.{keeps_again, keeps_count, keeps_raised, keeps_sunk, grows}
use Rattle.bellman_backup.proofs.NextRead.{first_within_quit, seen_within_first, grows_all}
use Rattle.bellman_backup.proofs.Choosers.{found_stays, chosen_more, are_found}
use Rattle.bellman_backup.proofs.Narrowing.{can_raise, upper_follows, lower_is_backed, upper_is_backed, goal_is_backed}
use Rattle.bellman_backup.proofs.AllOpen.{speak_of_all}
use Rattle.bellman_backup.proofs.Answering.{no_choices, are_choices, are_known}
use Rattle.bellman_backup.proofs.Placing.{weighed_places, places_between}
use Rattle.bellman_backup.proofs.Stepping.{problem_of}

-- ---- one action more

pub action_goes_on : (b : Board) (k l m : Knowledge) (s : State) (codes codes' : List ℕ) (code : ℕ) (a : GroundAction) (sums : Sums)
    (tried chosen chosen' : List Step) (best best' : Best) → Keeps b k l → Keeps b l m → codes' ≡ codes ++ code ∷ []
    → slice_get b.problem.actions code ≡ Some a → HasReadAction b.problem l.view m.view s a tried sums
    → HasChosen b.problem k.view l.view s codes chosen best
    → best'.lower ≡ min (sums.lower / a.den) best.lower → best'.word ≡ min (word_of (div_ceil sums.upper a.den) code) best.word
    → (best'.lower < best.lower → last_in best'.code best'.den chosen' ≡ last_in code a.den tried)
    → (best.lower ≤ best'.lower → last_in best'.code best'.den chosen' ≡ last_in best.code best.den chosen)
    → HasChosen b.problem k.view m.view s codes' chosen' best'
action_goes_on b k l m s codes codes' code a sums tried chosen chosen' best best' before after more here read has lower word better same =
    let rs : List Reading = read.0 in
    let f : Found = record { code = code; action = a; readings = rs } in
    subst (λ cs. HasChosen b.problem k.view m.view s cs chosen' best') (sym more)
    (chosen_more b.problem k.view l.view m.view s (grows b k l before) (grows b l m after) codes chosen chosen' best best' f has
    (record { here = here; readings = read.1.readings }) read.1.loads
    (lower ∙ ap (λ n. min (n / a.den) best.lower) read.1.lower)
    (word ∙ ap (λ n. min (word_of (div_ceil n a.den) code) best.word) read.1.upper)
    (λ under. better under ∙ ap (last_in code a.den) read.1.steps_are)
    same)

pub word_within : (g : Ground) (v w : View) (s : State) (codes : List ℕ) (chosen : List Step) (best : Best) → g.penalty ≤ 10 ^ 14
    → HasChosen g v w s codes chosen best → value_of best.word ≤ 11 * 10 ^ 13
word_within g v w s codes chosen best small has =
    let top = (min_with_is_least (quit_word g.penalty) (act_word s) has.found).within_top in
    let is = has.word in omega arith

-- ---- once all were read

-- what was noted of an id was seen of its state
pub noted_lower_is_seen : (v : View) (id : ℕ) (s : State) → IsTrue (has_state v id s) → noted_lower v id ≤ seen_lower v s
noted_lower_is_seen v id s has = greatest_within (λ i. nat_eq i id) v.lower (seen_lower v s)
    (λ n there same. raised_is_seen v n s there (subst (λ i. IsTrue (has_state v i s)) (sym (eqb-true n.id id same)) has))

pub noted_upper_is_seen : (v : View) (id : ℕ) (s : State) → IsTrue (has_state v id s) → seen_upper v s ≤ noted_upper v id
noted_upper_is_seen v id s has = least_within (λ i. nat_eq i id) (quit_word v.problem.penalty) v.upper (seen_upper v s)
    (let first = seen_within_first v s in let quit = first_within_quit v.problem s in omega arith)
    (λ n there same. sunk_is_seen v n s there (subst (λ i. IsTrue (has_state v i s)) (sym (eqb-true n.id id same)) has))

pub record IsChosen (b : Board) (k l : Knowledge) (id : ℕ) (s : State) (found : List Found) : Type 0 where
  pub keeps : Keeps b k l
  pub known : knows l.view id
  pub has : IsTrue (has_state l.view id s)
  pub one : HasOneEach l.view
  pub each : All (IsReadAction b.problem k.view l.view s) found

module _ (b : Board) (k : Knowledge) (id : ℕ) (s : State) (found : List Found) where
  found_at : (l : Knowledge) → IsOf b k → IsChosen b k l id s found → All (IsFound b.problem k.view l.view s) found
  found_at l of is = are_found b.problem k.view l.view s (problem_of b k of) (grows b k l is.keeps).later is.one found is.each

  module _ (of : IsOf b k) (problem : IsGroundProblem b.problem) (off : (ground_process b.problem).goal s ≡ false)
      (enough : AreEnough b.problem s (map (λ (f : Found). f.code) found)) (l : Knowledge) (is : IsChosen b k l id s found) where
    raise_is_allowed : LowerByEnough → CanRaise l.view id (least_low b.problem.penalty s found)
    raise_is_allowed law =
        can_raise b.problem problem k.view l.view s off found enough (found_at l of is) law id (problem_of b l is.keeps.here) is.known is.has

    sink_is_allowed : CanSink l.view id (least_word b.problem.penalty s found)
    sink_is_allowed = (
      is.known,
      (
        s,
        is.has,
        subst (λ (p : Ground). IsSupported p (seen_upper l.view) s (least_word b.problem.penalty s found)) (sym (problem_of b l is.keeps.here))
            (upper_follows b.problem problem k.view l.view s off found enough (found_at l of is)),
      ),
    )

    -- these numbers were noted since
    backs_up : UpperByEnough → (n : Knowledge) → HasMore l.view n.view → least_low b.problem.penalty s found ≤ noted_lower n.view id
        → noted_upper n.view id ≤ least_word b.problem.penalty s found → IsBackedUp b.problem k.view n.view s
    backs_up law n more raised sunk =
        let each = found_at l of is in
        let low = lower_is_backed b.problem problem k.view l.view s off found enough each in
        let high = upper_is_backed b.problem problem k.view l.view s off found enough each law in
        let has = has_state_more l.view n.view more id s is.has in
        let seen = noted_lower_is_seen n.view id s has in let seen' = noted_upper_is_seen n.view id s has in
        record { lower = omega arith; upper = omega arith }

pub narrows_all : (g : Ground) (v w : View) (id : ℕ) (s : State) → IsStateOf v w id s → IsBackedUp g v w s → Narrows g v w id
narrows_all g v w id s state backed t had = subst (IsBackedUp g v w) (sym (state.one t had)) backed

pub rests : (g : Ground) (v w : View) (id : ℕ) (s : State) (last : Last) → IsStateOf v w id s → (ground_process g).goal s ≡ true
    → w.loads ≡ v.loads → last ≡ no_action AT_GOAL → HasBackedUp g v w id last
rests g v w id s last state on loads is = (
  s,
  state,
  ((λ _. (loads, is)), λ off. absurd (both_ways ((ground_process g).goal s) off on)),
)

pub has_backed_up : (g : Ground) (v w : View) (id : ℕ) (s : State) (last : Last) (loaded : List Found) → IsStateOf v w id s → (ground_process g).goal s ≡ false
    → AreEnough g s (codes_of loaded) → All (IsFound g v w s) loaded
    → w.loads ≡ loads_in (readings_of loaded) ++ v.loads → IsAnswer g.penalty s loaded last
    → least_low g.penalty s loaded ≤ noted_lower w id → noted_upper w id ≤ least_word g.penalty s loaded → HasBackedUp g v w id last
has_backed_up g v w id s last loaded state off enough each loads answer raised sunk =
    let all = speak_of_all g v w s loaded enough each g.penalty last loads answer in let low = all.lower in let high = all.upper in (
      s,
      state,
      (
        (λ on. absurd (both_ways ((ground_process g).goal s) off on)),
        λ _. (all.found, record { readings = all.are; answer = all.answer; raised = omega arith; sunk = omega arith }),
      ),
    )

-- ---- what was read, since an earlier time

pub has_weighed : (b : Board) (k k1 k2 : Knowledge) (id : ℕ) (s : State) (codes : List ℕ) (chosen : List Step) (best : Best) → IsGroundProblem b.problem
    → (ground_process b.problem).goal s ≡ false → Keeps b k k1 → IsStateOf k.view k1.view id s → k1.view.loads ≡ k.view.loads → Keeps b k1 k2
    → HasChosen b.problem k1.view k2.view s codes chosen best → AreEnough b.problem s codes
    → HasWeighed b k k2 id (last_in best.code best.den chosen) best.lower best.word
has_weighed b k k1 k2 id s codes chosen best problem off first state loads second has enough = record {
  problem = problem;
  state = s;
  is = record { has = has_state_more k1.view k2.view second.noted id s state.has; one = state.one };
  off_goal = off;
  found = has.found;
  codes = subst (AreEnough b.problem s) (sym has.codes_are) enough;
  each = All-weaker (IsReadAction b.problem k1.view k2.view s) (IsReadAction b.problem k.view k2.view s)
      (λ f. found_stays b.problem k.view k1.view k2.view k2.view s f (grows b k k1 first) (grows_all k2.view)) has.found has.each;
  loads = has.loads ∙ ap (λ ls. loads_in (flat_map (λ (f : Found). f.readings) has.found) ++ ls) loads;
  lower_is = has.lower;
  word_is = has.word;
  answer = has.answer;
}

module _ (b : Board) (k k1 k2 : Knowledge) (id : ℕ) (first : Keeps b k k1) (loads : k1.view.loads ≡ k.view.loads) where
  state_earlier : (s : State) → IsStateOf k1.view k2.view id s → IsStateOf k.view k2.view id s
  state_earlier s is = record { has = is.has; one = λ t had. is.one t (has_state_more k.view k1.view first.noted id t had) }

  pub weighed_earlier : (last : Last) (best : Option Best) → WeighTells b k1 k2 id last best → WeighTells b k k2 id last best
  weighed_earlier last None told =
      record { state = told.state; is = state_earlier told.state told.is; on_goal = told.on_goal; loads = told.loads ∙ loads; last_is = told.last_is }
  weighed_earlier last (Some best) told = record {
    problem = told.problem;
    state = told.state;
    is = state_earlier told.state told.is;
    off_goal = told.off_goal;
    found = told.found;
    codes = told.codes;
    each = All-weaker (IsReadAction b.problem k1.view k2.view told.state) (IsReadAction b.problem k.view k2.view told.state)
        (λ f. found_stays b.problem k.view k1.view k2.view k2.view told.state f (grows b k k1 first) (grows_all k2.view)) told.found told.each;
    loads = told.loads ∙ ap (λ ls. loads_in (flat_map (λ (f : Found). f.readings) told.found) ++ ls) loads;
    lower_is = told.lower_is;
    word_is = told.word_is;
    answer = told.answer;
  }

-- ---- the whole backup at a goal

module _ (b : Board) (k l : Knowledge) (id : ℕ) (last : Last) (here : IsOf b l) (rest : RestsAt b k l id last) where
  pub narrows_at_goal : Narrows b.problem k.view l.view id
  narrows_at_goal = narrows_all b.problem k.view l.view id rest.state rest.is
      (goal_is_backed b.problem k.view l.view rest.state (problem_of b l here) rest.on_goal)

  pub backed_at_goal : HasBackedUp b.problem k.view l.view id last
  backed_at_goal = rests b.problem k.view l.view id rest.state last rest.is rest.on_goal rest.loads rest.last_is

  pub choices_at_goal : AreChoices last
  choices_at_goal = subst AreChoices (sym rest.last_is) (no_choices b.problem k.view l.view rest.state AT_GOAL)

  pub known_at_goal : All (LeadsToKnown (knows l.view)) last.steps
  known_at_goal = subst (λ (x : Last). All (LeadsToKnown (knows l.view)) x.steps) (sym rest.last_is) (All-nil (LeadsToKnown (knows l.view)))

-- ---- the whole backup off goals, once ids of one state are known to be one id

module _ (b : Board) (k l m : Knowledge) (id : ℕ) (last : Last) (lower word : ℕ) (of : IsOf b k) (known : knows k.view id) (first : Keeps b k l)
    (w : HasWeighed b k l id last lower word) (second : Keeps b l m) (one : HasOneEach m.view) where
  is_weighed : IsChosen b k m id w.state w.found
  is_weighed = record {
    keeps = keeps_again b k l m first second;
    known = second.noted.known id (first.noted.known id known);
    has = has_state_more l.view m.view second.noted id w.state w.is.has;
    one = one;
    each = All-weaker (IsReadAction b.problem k.view l.view w.state) (IsReadAction b.problem k.view m.view w.state)
        (λ f. found_stays b.problem k.view k.view l.view m.view w.state f (grows_all k.view) (grows b l m second)) w.found w.each;
  }

  each_is_found : All (IsFound b.problem k.view m.view w.state) w.found
  each_is_found = found_at b k id w.state w.found m of is_weighed

  pub may_raise : LowerByEnough → CanRaise m.view id lower
  may_raise law = subst (CanRaise m.view id) (sym w.lower_is) (raise_is_allowed b k id w.state w.found of w.problem w.off_goal w.codes m is_weighed law)

  pub may_sink : CanSink m.view id word
  may_sink = subst (CanSink m.view id) (sym w.word_is) (sink_is_allowed b k id w.state w.found of w.problem w.off_goal w.codes m is_weighed)

  pub choices_then : AreChoices last
  choices_then = are_choices b.problem k.view m.view w.state w.problem w.found last w.answer each_is_found

  pub known_then : All (LeadsToKnown (knows m.view)) last.steps
  known_then = are_known b.problem k.view m.view w.state w.found last w.answer each_is_found

  pub backed_then : m.view.loads ≡ l.view.loads → lower ≤ noted_lower m.view id → noted_upper m.view id ≤ word → HasBackedUp b.problem k.view m.view id last
  backed_then loads raised sunk =
      let low = w.lower_is in let high = w.word_is in
      has_backed_up b.problem k.view m.view id w.state last w.found (record { has = is_weighed.has; one = w.is.one }) w.off_goal w.codes each_is_found
      (loads ∙ w.loads) w.answer (omega arith) (omega arith)

  pub narrows_since : UpperByEnough → (n : Knowledge) → HasMore m.view n.view → lower ≤ noted_lower n.view id → noted_upper n.view id ≤ word
      → Narrows b.problem k.view n.view id
  narrows_since law n more raised sunk =
      let low = w.lower_is in let high = w.word_is in
      narrows_all b.problem k.view n.view id w.state (record { has = has_state_more m.view n.view more id w.state is_weighed.has; one = w.is.one })
      (backs_up b k id w.state w.found of w.problem w.off_goal w.codes m is_weighed law n more (omega arith) (omega arith))

-- ---- by one fact

module _ (b : Board) (k k2 k5 : Knowledge) (id : ℕ) (last : Last) (lower word : ℕ) (of : IsOf b k) (known : knows k.view id) (second : Keeps b k k2)
    (w : HasWeighed b k k2 id last lower word) (one : HasOneEach k2.view) (narrowed : IsNarrowed k2 id lower word k5) where
  abbrev counted : Knowledge
  counted = knowledge k2.table (with_count k2.view narrowed.0)

  abbrev lowered : Knowledge
  lowered = knowledge k2.table (with_lower (with_count k2.view narrowed.0) id lower)

  third : Keeps b k2 k5
  third =
      let count = keeps_count b k2 counted narrowed.0 second.here refl in
      let raise = keeps_raised b counted lowered id lower count.here refl in
      keeps_again b k2 counted k5 count (keeps_again b counted lowered k5 raise (keeps_sunk b lowered k5 id word raise.here narrowed.1))

  one_each : HasOneEach k5.view
  one_each = subst (λ (x : Knowledge). HasOneEach x.view) (sym narrowed.1) one

  is_raised : lower ≤ noted_lower k5.view id
  is_raised = subst (λ (x : Knowledge). lower ≤ noted_lower x.view id) (sym narrowed.1)
      (greatest_over (λ i. nat_eq i id) (number id lower ∷ k2.view.lower) (number id lower) (is_first (number id lower) k2.view.lower) (eq-eqb id id refl))

  is_sunk : noted_upper k5.view id ≤ word
  is_sunk = subst (λ (x : Knowledge). noted_upper x.view id ≤ word) (sym narrowed.1)
      (least_under (λ i. nat_eq i id) (quit_word k2.view.problem.penalty) (number id word ∷ k2.view.upper) (number id word) (is_first (number id word) k2.view.upper) (eq-eqb id id refl))

  pub settled_keeps : Keeps b k k5
  settled_keeps = keeps_again b k k2 k5 second third

  pub settled_narrows : UpperByEnough → Narrows b.problem k.view k5.view id
  settled_narrows law = narrows_since b k k2 k5 id last lower word of known second w third one_each law k5 (has_all k5.view) is_raised is_sunk

  pub settled_places : SuccessorsByEnough → PlacesNext b.problem k.view k5.view id
  settled_places law = places_between b.problem k.view k.view k2.view k5.view id (has_all k.view) ([], refl) third.noted third.looks
      (weighed_places b k k2 id last lower word law w)

  pub settled_choices : AreChoices last
  settled_choices = choices_then b k k2 k5 id last lower word of known second w third one_each

  pub settled_known : All (LeadsToKnown (knows k5.view)) last.steps
  settled_known = known_then b k k2 k5 id last lower word of known second w third one_each

  pub settled_backed : HasBackedUp b.problem k.view k5.view id last
  settled_backed = backed_then b k k2 k5 id last lower word of known second w third one_each (ap (λ (x : Knowledge). x.view.loads) narrowed.1) is_raised is_sunk
