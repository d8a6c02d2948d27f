-- One outcome, and one action, more.
use Rattle.std.proofs.Common.{◌≡◌, ℕ, ◌+◌, ◌*◌, ◌<◌, ◌≤◌, ◌^◌, ◌/◌, true, cond, Some, None, List, [], ◌∷◌, ◌++◌, length, map, get_or, refl, sym, ap, ◌∙◌, subst, arith}
use Rattle.std.specs.Prelude.{Contains, Option, flat_map, filter}
use Rattle.std.specs.List.{slice_get, range_with_len}
use Rattle.std.proofs.lemmas.List.{length_push}
use Rattle.std.proofs.lemmas.List.Elements.{All-contains, Contains-get_or, filter_passes}
use Rattle.std.proofs.lemmas.Option.{slice_get_within}
use Rattle.plain_list.proofs.Members.{Contains-map, Contains-flat_map}
use Rattle.fixed_round.specs.Words.{value_of}
use Rattle.decision_process.specs.Process.{Outcome}
use Rattle.decision_process.specs.Levels.{nexts, successors}
use Rattle.ground_model.specs.declared.action.Choice.{Choice}
use Rattle.ground_model.specs.declared.action.GroundAction.{GroundAction}
use Rattle.ground_model.specs.Packed.{State, has_bit}
use Rattle.ground_model.specs.Choices.{cost_of, next_state}
use Rattle.ground_model.specs.Ground.{Ground}
use Rattle.ground_model.specs.Invariant.{IsChoice, IsGroundProblem}
use Rattle.ground_model.specs.Steps.{ground_process, den_of, is_open_at, outcome_of, step_at}
use Rattle.ground_step.proofs.Outcomes.{cost_within}
use Rattle.applicable_actions.specs.distinct.Enough.{AreEnough}
use Rattle.bound_core.specs.Numbers.{first_word}
use Rattle.word_table.specs.declared.view.View.{View}
use Rattle.word_table.specs.view.Views.{IsReached}
use Rattle.word_table.specs.view.Laws.{HasMore}
use Rattle.word_table.proofs.lemmas.view.Seen.{more_is_later, has_state_more}
use Rattle.word_table.specs.Seen.{Board, Knowledge, knowledge, IsOf}
use Rattle.bound_words.specs.declared.bounds.Interval.{Interval}
use Rattle.bound_words.specs.Intervals.{with_interval, word_in, TellsInterval}
use Rattle.brtdp_trial.specs.declared.step.Step.{Step}
use Rattle.state_interner.specs.Interned.{GoesOn, IsIdOf, IsFull}
use Rattle.bellman_backup.specs.declared.sums.Sums.{Sums}
use Rattle.bellman_backup.specs.Readings.{Reading, loads_of}
use Rattle.bellman_backup.specs.Backups.{Keeps}
use Rattle.bellman_backup.specs.Totals.{IsUsable, IsSmallStep, HasReadNext, HasRead}
use Rattle.bellman_backup.specs.Choosing.{IsOpenState}
use Rattle.bellman_backup.proofs.Keeping.{keeps_again, grows}
use Rattle.bellman_backup.proofs.NextRead.{Grows, grows_all, reading_of, first_reading, id_is_read, none_is_read, read_stays}
use Rattle.bellman_backup.proofs.Summing.{product_within, read_more}
use Rattle.bellman_backup.proofs.Narrowing.{action_is}
use Rattle.bellman_backup.proofs.Answering.{weight_within}

-- ---- one state that may follow

pub keeps_interned : (b : Board) (k l : Knowledge) → GoesOn b k l → Keeps b k l
keeps_interned b k l on = record { here = on.here; noted = on.noted; rights = on.rights; looks = on.looks }

interned_grows : (b : Board) (k l : Knowledge) → GoesOn b k l → Grows k.view l.view
interned_grows b k l on = record { later = more_is_later k.view l.view on.noted; noted = on.noted; looks = on.looks }

pub problem_of : (b : Board) (k : Knowledge) → IsOf b k → k.view.problem ≡ b.problem
problem_of b k of = of.view.problem

pub id_is_next : (b : Board) (l m : Knowledge) (t : State) (id : ℕ) (i : Interval) (weight : ℕ) (x : Step) → IsOf b l → IsIdOf l.view t id
    → i.code < 65536 → m ≡ knowledge l.table (with_interval l.view id i) → TellsInterval b.problem l.view id i
    → x ≡ record { weight = weight; id = Some id; lower = i.lower; upper = i.upper } → HasReadNext b.problem l.view m.view t weight x
id_is_next b l m t id i weight x of its small is tells same =
    let r : Reading = reading_of id i in
    let value : i.upper ≡ value_of (word_in i) = omega arith in
    subst (λ (n : Knowledge). HasReadNext b.problem l.view n.view t weight x) (sym is) (record {
      reading = r;
      is = id_is_read b.problem l.view t id i (problem_of b l of) small its tells;
      loads = refl;
      step = same ∙ (λ j. record { weight = weight; id = Some id; lower = i.lower; upper = value j });
    })

-- the same since the state was interned
pub next_since : (b : Board) (k l m : Knowledge) (t : State) (weight : ℕ) (x : Step) → GoesOn b k l → HasReadNext b.problem l.view m.view t weight x
    → HasReadNext b.problem k.view m.view t weight x
next_since b k l m t weight x on next = record {
  reading = next.reading;
  is = read_stays b.problem k.view l.view m.view m.view t next.reading (interned_grows b k l on) (grows_all m.view) next.is;
  loads = next.loads ∙ ap (λ ls. loads_of next.reading ++ ls) on.loads;
  step = next.step;
}

pub none_is_next : (b : Board) (k l : Knowledge) (t : State) (weight : ℕ) (x : Step) → IsOf b k → GoesOn b k l → IsFull k.view t l.view
    → (upper : ℕ) → upper ≡ value_of (first_word b.problem t) → x ≡ record { weight = weight; id = None; lower = 0; upper = upper }
    → HasReadNext b.problem k.view l.view t weight x
none_is_next b k l t weight x of on full upper first same = record {
  reading = first_reading b.problem t;
  is = none_is_read b.problem k.view l.view t (interned_grows b k l on) (problem_of b l on.here) full;
  loads = on.loads;
  step = same ∙ (λ j. record { weight = weight; id = None; lower = 0; upper = first j });
}

-- ---- states that are reached

pub reached_later : (v w : View) (t : State) → HasMore v w → IsReached v t → IsReached w t
reached_later v w t more is = record {
  id = is.id;
  from = is.from;
  known = more.known is.id is.known;
  has = has_state_more v w more is.id is.from is.has;
  next = subst (λ (p : Ground). Contains (successors (ground_process p) is.from) t) (sym more.problem) is.next;
}

next_is_there : (g : Ground) (k : ℕ) (a : GroundAction) (s : State) (c : Choice) → slice_get g.actions k ≡ Some a → Contains a.choices c
    → Contains (nexts (ground_process g) k s) (next_state s c)
next_is_there g k a s c here there =
    let f : Choice → Outcome State = outcome_of (den_of g.actions / a.den) s in
    let outcome : Contains (step_at (den_of g.actions) (Some a) s) (f c) = Contains-map f a.choices c there in
    subst (λ o. Contains (map (λ (x : Outcome State). x.next) (step_at (den_of g.actions) o s)) (next_state s c)) (sym here)
    (Contains-map (λ (x : Outcome State). x.next) (step_at (den_of g.actions) (Some a) s) (f c) outcome)

pub choice_is_reached : (g : Ground) (v : View) (s : State) (k : ℕ) (a : GroundAction) (c : Choice) → v.problem ≡ g → IsOpenState g v s
    → Contains ((ground_process g).choices s) k → slice_get g.actions k ≡ Some a → Contains a.choices c → IsReached v (next_state s c)
choice_is_reached g v s k a c same state open' here there =
    let all : List State = flat_map (λ b. nexts (ground_process g) b s) ((ground_process g).choices s) in
    let is : successors (ground_process g) s ≡ all = ap (λ b. cond b [] all) state.off_goal in
    let next : Contains all (next_state s c) = Contains-flat_map (λ b. nexts (ground_process g) b s) ((ground_process g).choices s) k (next_state s c) open'
    (next_is_there g k a s c here there) in record {
      id = state.id;
      from = s;
      known = state.known;
      has = state.has;
      next = subst (λ (p : Ground). Contains (successors (ground_process p) s) (next_state s c)) (sym same)
          (subst (λ (xs : List State). Contains xs (next_state s c)) (sym is) next);
    }

pub action_is_usable : (g : Ground) (problem : IsGroundProblem g) (v : View) (s : State) (k : ℕ) (a : GroundAction) → v.problem ≡ g → IsOpenState g v s
    → Contains ((ground_process g).choices s) k → slice_get g.actions k ≡ Some a → IsUsable g v s a
action_is_usable g problem v s k a same state open' here = record {
  action = action_is g problem k a here;
  penalty = problem.penalty_within;
  reached = λ c there. choice_is_reached g v s k a c same state open' here there;
}

pub open_later : (g : Ground) (v w : View) (s : State) → HasMore v w → IsOpenState g v s → IsOpenState g w s
open_later g v w s more is = record {
  id = is.id;
  known = more.known is.id is.known;
  has = has_state_more v w more is.id s is.has;
  off_goal = is.off_goal;
}

-- ---- the loop over the choices of an action

pub record ReadSoFar (b : Board) (k l : Knowledge) (s : State) (cs : List Choice) (steps : List Step) (sums : Sums) (i : ℕ) : Type 0 where
  pub keeps : Keeps b k l
  pub read : (rs : List Reading) × HasRead b.problem k.view l.view s (cost_of (has_bit s)) cs rs steps sums
  pub long : length steps ≡ i
  pub lower_room : sums.lower ≤ i * (10 ^ 18 * (11 * 10 ^ 13))
  pub upper_room : sums.upper ≤ i * (10 ^ 18 * (11 * 10 ^ 13))

pub step_is_small : (g : Ground) (v w : View) (s : State) (a : GroundAction) (c : Choice) (x : Step) (u : View) → IsUsable g u s a → Contains a.choices c
    → HasReadNext g v w (next_state s c) c.weight x → (cost : ℕ) → cost ≡ cost_of (has_bit s) c → IsSmallStep cost x
step_is_small g v w s a c x u usable there next cost same =
    let choice : IsChoice (length g.atoms) c = All-contains (IsChoice (length g.atoms)) a.choices c usable.action.choices there in
    let within = cost_within (length g.atoms) c choice (has_bit s) in
    let weight : x.weight ≡ c.weight = ap (λ (y : Step). y.weight) next.step in
    let lower : x.lower ≡ next.reading.lower = ap (λ (y : Step). y.lower) next.step in
    let upper : x.upper ≡ value_of next.reading.word = ap (λ (y : Step). y.upper) next.step in
    let total = weight_within a.choices c a.den (let e = usable.action.weights.sum in omega arith) there in
    let den = usable.action.weights.den_within in
    let quit = next.is.within_quit in let order = next.is.ordered in let most = usable.penalty in record {
      cost_within = omega arith;
      weight_within = omega arith;
      lower_within = omega arith;
      upper_within = omega arith;
    }

pub read_goes_on : (b : Board) (k l m : Knowledge) (s : State) (cs cs' : List Choice) (c : Choice) (steps steps' : List Step) (sums sums' : Sums) (i : ℕ)
    (x : Step) (cost : ℕ) → ReadSoFar b k l s cs steps sums i → cs' ≡ cs ++ c ∷ [] → Keeps b l m
    → HasReadNext b.problem l.view m.view (next_state s c) c.weight x → cost ≡ cost_of (has_bit s) c → IsSmallStep cost x
    → sums'.lower ≡ sums.lower + x.weight * (cost + x.lower) → sums'.upper ≡ sums.upper + x.weight * (cost + x.upper)
    → steps' ≡ steps ++ x ∷ [] → ReadSoFar b k m s cs' steps' sums' (i + 1)
read_goes_on b k l m s cs cs' c steps steps' sums sums' i x cost far more keeps next same small lower upper pushed =
    let low = product_within x.weight (cost + x.lower) small.weight_within (let a = small.cost_within in let b = small.lower_within in omega arith) in
    let high = product_within x.weight (cost + x.upper) small.weight_within (let a = small.cost_within in let b = small.upper_within in omega arith) in
    let old = far.lower_room in let old' = far.upper_room in let long = far.long in record {
      keeps = keeps_again b k l m far.keeps keeps;
      read = (
        far.read.0 ++ next.reading ∷ [],
        subst (λ ds. HasRead b.problem k.view m.view s (cost_of (has_bit s)) ds (far.read.0 ++ next.reading ∷ []) steps' sums') (sym more)
            (subst (λ xs. HasRead b.problem k.view m.view s (cost_of (has_bit s)) (cs ++ c ∷ []) (far.read.0 ++ next.reading ∷ []) xs sums') (sym pushed)
            (read_more b.problem k.view l.view m.view s (cost_of (has_bit s)) (grows b k l far.keeps) (grows b l m keeps) cs far.read.0 steps sums sums' c x cost far.read.1 next same lower upper)),
      );
      long = ap length pushed ∙ length_push steps x ∙ ap (λ n. n + 1) far.long;
      lower_room = omega arith;
      upper_room = omega arith;
    }

-- ---- the action of an open code

some_action : (s : State) (o : Option GroundAction) → is_open_at o s ≡ true → (a : GroundAction) × (o ≡ Some a)
some_action s None on = absurd cc
some_action s (Some a) on = (a, refl)

pub open_code_is_inside : (g : Ground) (s : State) (k : ℕ) → Contains ((ground_process g).choices s) k → k < length g.actions
open_code_is_inside g s k there =
    let found = some_action s (slice_get g.actions k)
    (All-contains (λ j. is_open_at (slice_get g.actions j) s ≡ true) (filter (λ j. is_open_at (slice_get g.actions j) s) (range_with_len 0 (length g.actions))) k
    (filter_passes (λ j. is_open_at (slice_get g.actions j) s) (range_with_len 0 (length g.actions))) there) in
    slice_get_within g.actions k found.0 found.1

pub code_is_open : (g : Ground) (s : State) (codes : List ℕ) (i : ℕ) → AreEnough g s codes → i < length codes
    → Contains ((ground_process g).choices s) (get_or codes i 0)
code_is_open g s codes i enough inside = enough.are_open (get_or codes i 0) (Contains-get_or codes i 0 inside)
