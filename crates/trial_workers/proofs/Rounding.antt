-- The parts of a round, one behind the other.
use Rattle.std.proofs.Common.{◌≡◌, ℕ, zero, suc, ◌+◌, ◌-◌, ◌*◌, ◌/◌, ◌<◌, ◌≤◌, Some, List, [], ◌∷◌, length, get_or, All, refl, sym, ap, ◌∙◌, subst, inl, inr, ⊎_elim, arith}
use Rattle.std.specs.Prelude.{Contains, IsTrue, ◌⊎◌}
use Rattle.std.specs.List.{slice_get, AllZip}
use Rattle.std.proofs.lemmas.List.Elements.{AllZip-get_or, length_all_zip}
use Rattle.std.proofs.lemmas.Option.{slice_get_within, slice_get-get_or, get_or_from_slice_get}
use Rattle.std.proofs.Math.Nat.{mul-div_cancel_left, div-zero, zero-div, div-le_of_le-mul, mul-le-mul_right}
use mathlib.Core.Logic.{dite}
use native.Mathlib.Decide.{dec_le}
use Rattle.decision_process.specs.Levels.{successors}
use Rattle.ground_model.specs.Packed.{State}
use Rattle.ground_model.specs.Steps.{ground_process}
use Rattle.word_table.specs.declared.view.View.{View}
use Rattle.word_table.specs.view.Views.{knows, has_state}
use Rattle.word_table.specs.view.Laws.{HasMore}
use Rattle.word_table.proofs.lemmas.view.Seen.{has_state_more}
use Rattle.word_table.specs.Seen.{Board, Knowledge}
use Rattle.state_interner.specs.Interned.{HasOwn}
use Rattle.brtdp_trial.specs.declared.turn.Turn.{Turn}
use Rattle.brtdp_trial.specs.Paths.{PathView}
use Rattle.bellman_backup.specs.Races.{full_between, has_more_again}
use Rattle.bellman_backup.specs.Backups.{IsPlacedOrFull, Narrows, PlacesNext}
use Rattle.trial_workers.specs.declared.effort.Effort.{Effort}
use Rattle.trial_workers.specs.declared.parts.Division.{Division}
use Rattle.trial_workers.specs.declared.worker.Worker.{Worker}
use Rattle.trial_workers.specs.Parts.{share_of, with_part, IsDivision}
use Rattle.trial_workers.specs.Trials.{IsSeededTrial}
use Rattle.trial_workers.specs.Workers.{Stays, IsFit, IsWorkerOf, ShowsTrials, CanTakePart, HasTakenPart}
use Rattle.trial_workers.specs.Rounds.{CanMeet, with_pass, IsPrepared, ArePrepared, AllPrepared, HasHeard, HaveMet}
use Rattle.trial_workers.specs.Crews.{IsCrewOf, HaveStayed, HasTrials, HaveTrials, OneWasFull, ArePlacedOrFull}
use Rattle.trial_workers.proofs.Passes.{stays_all, stays_again, narrows_wider}

-- ---- lists side by side

-- from what holds at each place
pub zip_from : {X : Type 0} (R : X → X → Type 0) (xs ys : List X) → length xs ≡ length ys → ((k : ℕ) (d : X) → k < length xs → R (get_or xs k d) (get_or ys k d)) → AllZip R xs ys
zip_from R [] [] same each = tt
zip_from R [] (y ∷ ys) same each = absurd (omega arith)
zip_from R (x ∷ xs) [] same each = absurd (omega arith)
zip_from R (x ∷ xs) (y ∷ ys) same each = (each 0 x (omega arith), zip_from R xs ys (omega arith) (λ k d below. each (suc k) d (omega arith)))

pub zip_weaker : {X : Type 0} (R Q : X → X → Type 0) (xs ys : List X) → ((x y : X) → R x y → Q x y) → AllZip R xs ys → AllZip Q xs ys
zip_weaker R Q [] [] weaker z = z
zip_weaker R Q [] (y ∷ ys) weaker z = absurd z
zip_weaker R Q (x ∷ xs) [] weaker z = absurd z
zip_weaker R Q (x ∷ xs) (y ∷ ys) weaker z = (weaker x y z.0, zip_weaker R Q xs ys weaker z.1)

-- one relation after another
pub zip_again : {X : Type 0} (R : X → X → Type 0) (xs ys zs : List X) → ((x y z : X) → R x y → R y z → R x z) → AllZip R xs ys → AllZip R ys zs → AllZip R xs zs
zip_again R [] [] [] both a b = tt
zip_again R [] [] (z ∷ zs) both a b = absurd b
zip_again R [] (y ∷ ys) zs both a b = absurd a
zip_again R (x ∷ xs) [] zs both a b = absurd a
zip_again R (x ∷ xs) (y ∷ ys) [] both a b = absurd b
zip_again R (x ∷ xs) (y ∷ ys) (z ∷ zs) both a b = (both x y z a.0 b.0, zip_again R xs ys zs both a.1 b.1)

zip_same : {X : Type 0} (R : X → X → Type 0) (P : X → Type 0) (xs : List X) → ((x : X) → P x → R x x) → All P xs → AllZip R xs xs
zip_same R P [] each all = tt
zip_same R P (x ∷ xs) each all = (each x (all 0 x (omega arith)), zip_same R P xs each (λ k d below. all (suc k) d (omega arith)))

pub first_too : {X : Type 0} (P : X → Type 0) (x : X) (xs : List X) → P x → All P xs → All P (x ∷ xs)
first_too P x xs one all zero d below = one
first_too P x xs one all (suc i) d below = all i d (omega arith)

pub rest_of : {X : Type 0} (P : X → Type 0) (xs : List X) (x : X) (rest : List X) → xs ≡ x ∷ rest → All P xs → P x × All P rest
rest_of P xs x rest same all = let a : All P (x ∷ rest) = subst (All P) same all in (a 0 x (omega arith), λ k d below. a (suc k) d (omega arith))

zip_right : {X : Type 0} (R : X → X → Type 0) (P : X → Type 0) (xs ys : List X) → ((x y : X) → R x y → P y) → AllZip R xs ys → All P ys
zip_right R P xs ys right z k d below =
    let e = length_all_zip R xs ys z in right (get_or xs k d) (get_or ys k d) (AllZip-get_or R xs ys k d d z (omega arith))

-- ---- shares

zero_share : (items workers : ℕ) → share_of items workers 0 ≡ 0
zero_share items zero = omega (arith, div-zero (zero * items))
zero_share items (suc w) = let z : zero * items ≡ 0 = omega arith in ap (λ n. n / suc w) z ∙ zero-div (suc w)

pub share_within : (items workers i : ℕ) → 0 < workers → i ≤ workers → share_of items workers i ≤ items
share_within items workers i positive within = div-le_of_le-mul workers (let a : i * items ≤ workers * items = mul-le-mul_right items within in a)

-- each item is in the share of one of the first n workers
share_up_to : (items workers x n : ℕ) → x < share_of items workers n → (i : ℕ) × (i < n) × (share_of items workers i ≤ x) × (x < share_of items workers (i + 1))
share_up_to items workers x zero below = let none = zero_share items workers in absurd (omega arith)
share_up_to items workers x (suc n) below = dite (dec_le (share_of items workers n) x)
    (λ from. (n, omega arith, from, subst (λ k. x < share_of items workers k) (omega arith) below))
    (λ before. let r = share_up_to items workers x n (omega arith) in (r.0, omega (arith, r.1), r.2, r.3))

pub share_with : (items workers x : ℕ) → 0 < workers → x < items → (i : ℕ) × (i < workers) × (share_of items workers i ≤ x) × (x < share_of items workers (i + 1))
share_with items workers x positive below = share_up_to items workers x workers (subst (λ k. x < k) (sym (mul-div_cancel_left items positive)) below)

-- ---- before the parts

prepared_zip : (b : Board) (d : Division) (v : View) (os ms : List Worker) → ArePrepared b d v os ms → HaveStayed b os ms
prepared_zip b d v os ms a = zip_from (λ (o n : Worker). Stays b o.pass n.pass) os ms (sym a.long) (λ k e below. (a.each k e below).stays)

-- a worker whose pass is another one stays a worker of the same words
fit_with_pass : (b : Board) (depth : ℕ) (o : Worker) (k : Knowledge) → IsFit b depth o → Stays b o.pass k → IsFit b depth (with_pass k o)
fit_with_pass b depth o k is stays = record {
  here = stays.here;
  right = (let a = is.right in let c = stays.rights in omega arith);
  room = is.room;
  run = is.run;
}

pub worker_with_pass : (b : Board) (depth : ℕ) (o : Worker) (k : Knowledge) → IsWorkerOf b depth o → Stays b o.pass k → IsWorkerOf b depth (with_pass k o)
worker_with_pass b depth o k is stays = record { fit = fit_with_pass b depth o k is.fit stays; scratch = is.scratch; has = is.has; of = is.of }

prepared_worker : (b : Board) (d : Division) (depth i : ℕ) (o : Worker) (k : Knowledge) → IsWorkerOf b depth (with_pass k o) → IsWorkerOf b depth (with_part d i (with_pass k o))
prepared_worker b d depth i o k is = record {
  fit = record { here = is.fit.here; right = is.fit.right; room = is.fit.room; run = is.fit.run };
  scratch = is.scratch;
  has = is.has;
  of = is.of;
}

-- what worker 0 knows before the round
pub record KnowsAll (b : Board) (d : Division) (v : View) : Type 0 where
  pub starts : (id : ℕ) → id < length b.problem.starts → knows v id
  pub ids : (id : ℕ) → id < d.swept → knows v id

module _ (b : Board) (d : Division) (e : Effort) (deep : 1 ≤ e.depth) (division : IsDivision d) (v : View) (all : KnowsAll b d v) where
  can_take_part : (i : ℕ) (o m : Worker) → i < d.workers → IsWorkerOf b e.depth o → IsPrepared b d v i o m → CanTakePart b e m
  can_take_part i o m inside is p =
      let worker : IsWorkerOf b e.depth m =
      subst (IsWorkerOf b e.depth) (sym p.part) (prepared_worker b d e.depth i o m.pass (worker_with_pass b e.depth o m.pass is p.stays)) in
      let past : m.past_id ≡ share_of d.swept d.workers (i + 1) = ap (λ (w : Worker). w.past_id) p.part in
      let few : share_of d.swept d.workers (i + 1) ≤ d.swept = share_within d.swept d.workers (i + 1) division.some (omega arith) in record {
        deep = deep;
        worker = worker;
        try = record { fit = worker.fit; starts = λ id below. p.heard.known id (all.starts id below) };
        ids = λ id below. p.heard.known id (all.ids id (omega arith));
      }

  can_all : (os ms : List Worker) → length os ≡ d.workers → ArePrepared b d v os ms → All (IsWorkerOf b e.depth) os → All (CanTakePart b e) ms
  can_all os ms count a each k w below =
      let long = a.long in
      can_take_part k (get_or os k w) (get_or ms k w) (omega arith) (each k w (omega arith)) (a.each k w (omega arith))

pub all_can : (b : Board) (d : Division) (e : Effort) (os ms : List Worker) → 1 ≤ e.depth → IsDivision d → length os ≡ d.workers → IsCrewOf b e.depth os
    → ((o : Worker) (rest : List Worker) → os ≡ o ∷ rest → KnowsAll b d o.pass.view) → AllPrepared b d os ms → All (CanTakePart b e) ms
all_can b d e [] ms deep division count crew knows a = absurd (let s = crew.some in omega arith)
all_can b d e (o ∷ os) ms deep division count crew knows a = can_all b d e deep division o.pass.view (knows o os refl) (o ∷ os) ms count a crew.each

-- ---- behind the parts

workers_can_meet : (b : Board) (depth : ℕ) (ws : List Worker) → All (IsWorkerOf b depth) ws → All (λ (w : Worker). CanMeet b w.pass) ws
workers_can_meet b depth ws each k d below = let w = each k d below in record { here = w.fit.here; right = w.fit.right }

all_workers : (b : Board) (e : Effort) (ms ss : List Worker) → AllZip (HasTakenPart b e) ms ss → All (IsWorkerOf b e.depth) ss
all_workers b e ms ss z = zip_right (HasTakenPart b e) (IsWorkerOf b e.depth) ms ss (λ m s done. done.worker) z

pub parts_can_meet : (b : Board) (e : Effort) (ms ss : List Worker) → AllZip (HasTakenPart b e) ms ss → All (λ (w : Worker). CanMeet b w.pass) ss
parts_can_meet b e ms ss z = workers_can_meet b e.depth ss (all_workers b e ms ss z)

parts_stay : (b : Board) (e : Effort) (ms ss : List Worker) → AllZip (HasTakenPart b e) ms ss → HaveStayed b ms ss
parts_stay b e ms ss z = zip_weaker (HasTakenPart b e) (λ (o n : Worker). Stays b o.pass n.pass) ms ss (λ m s done. done.tried.stays) z

stay_all : (b : Board) (depth : ℕ) (ws : List Worker) → All (IsWorkerOf b depth) ws → HaveStayed b ws ws
stay_all b depth ws each = zip_same (λ (o n : Worker). Stays b o.pass n.pass) (IsWorkerOf b depth) ws (λ w is. stays_all b w.pass is.fit.here) each

pub stayed_again : (b : Board) (xs ys zs : List Worker) → HaveStayed b xs ys → HaveStayed b ys zs → HaveStayed b xs zs
stayed_again b xs ys zs first second =
    zip_again (λ (o n : Worker). Stays b o.pass n.pass) xs ys zs (λ x y z one two. stays_again b x.pass y.pass z.pass one two) first second

tail_all : {X : Type 0} (P : X → Type 0) (x : X) (xs : List X) → All P (x ∷ xs) → All P xs
tail_all P x xs all k d below = all (suc k) d (omega arith)

-- a change of the first worker's pass alone
pub first_stays : (b : Board) (depth : ℕ) (s n : Worker) (ss ns : List Worker) → All (IsWorkerOf b depth) (s ∷ ss) → Stays b s.pass n.pass → ns ≡ ss → HaveStayed b (s ∷ ss) (n ∷ ns)
first_stays b depth s n ss ns each stays same = (stays, subst (HaveStayed b ss) (sym same) (stay_all b depth ss (tail_all (IsWorkerOf b depth) s ss each)))

pub first_is_crew : (b : Board) (depth : ℕ) (s n : Worker) (ss ns : List Worker) → IsCrewOf b depth (s ∷ ss) → Stays b s.pass n.pass → n ≡ with_pass n.pass s → ns ≡ ss
    → IsCrewOf b depth (n ∷ ns)
first_is_crew b depth s n ss ns crew stays part same = record {
  some = omega arith;
  few = (let f = crew.few in let e = ap (λ (l : List Worker). length l) same in omega arith);
  each = first_too (IsWorkerOf b depth) n ns
      (subst (IsWorkerOf b depth) (sym part) (worker_with_pass b depth s n.pass (crew.each 0 s (omega arith)) stays))
      (subst (All (IsWorkerOf b depth)) (sym same) (tail_all (IsWorkerOf b depth) s ss crew.each));
}

trial_noted : (b : Board) (e : Effort) (number : ℕ) (v w : View) (p : PathView) → HasMore v w → IsSeededTrial b e number v p → IsSeededTrial b e number w p
trial_noted b e number v w p more is = record {
  from = is.from;
  to = is.to;
  over = is.over;
  noted = has_more_again is.to.pass.view v w is.noted more;
  end = is.end;
  is = is.is;
  unplaced = is.unplaced;
}

-- a worker that learns more shows the same trials
shows_more : (b : Board) (e : Effort) (first past : ℕ) (s n : Worker) → n ≡ with_pass n.pass s → HasMore s.pass.view n.pass.view → ShowsTrials b e first past s → ShowsTrials b e first past n
shows_more b e first past s n part more shows =
    let path = ap (λ (w : Worker). w.path) part in record {
      run = shows.run;
      shown = ap (λ (w : Worker). w.path.run) part ∙ shows.shown;
      is = shows.is;
      trial = subst (IsSeededTrial b e (past - 1) n.pass.view) (sym path) (trial_noted b e (past - 1) s.pass.view n.pass.view s.path more shows.trial);
      known = subst (λ p. All (λ (t : Turn). knows n.pass.view t.id) p.turns) (sym path) (λ k d below. more.known (get_or s.path.turns k d).id (shows.known k d below));
    }

pub first_trials : (e : Effort) (number : ℕ) (b : Board) (s n : Worker) (ss ns : List Worker) → Stays b s.pass n.pass → n ≡ with_pass n.pass s → ns ≡ ss
    → HaveTrials b e number (s ∷ ss) → HaveTrials b e number (n ∷ ns)
first_trials e number b s n ss ns stays part same trials zero w at =
    let is : n ≡ w = some_is n w at in
    let count : length (s ∷ ss) ≡ length (n ∷ ns) = ap (λ (l : List Worker). suc (length l)) (sym same) in
    λ later. subst (ShowsTrials b e _ _) is (shows_more b e _ _ s n part stays.noted (subst (λ c. HasTrials b e number c 0 s) count (trials 0 s refl) later))
  where
    some_is : (x y : Worker) → Some x ≡ Some y → x ≡ y
    some_is x y same = cc
first_trials e number b s n ss ns stays part same trials (suc i) w at =
    let count : length (s ∷ ss) ≡ length (n ∷ ns) = ap (λ (l : List Worker). suc (length l)) (sym same) in
    subst (λ c. HasTrials b e number c (suc i) w) count (trials (suc i) w (subst (λ l. slice_get l i ≡ Some w) same at))

module _ (b : Board) (d : Division) (e : Effort) (number : ℕ) (first : d.first_trial ≡ number * e.trials) (items : d.trials ≡ e.trials) (v : View)
    (os ms ss : List Worker) (count : length os ≡ d.workers) (a : ArePrepared b d v os ms) (z : AllZip (HasTakenPart b e) ms ss) where
  parts_have_trials : HaveTrials b e number ss
  parts_have_trials i w at =
      let long = a.long in let long' = length_all_zip (HasTakenPart b e) ms ss z in
      let inside : i < length ss = slice_get_within ss i w at in
      let p = a.each i w (omega arith) in
      let done : HasTakenPart b e (get_or ms i w) w = subst (HasTakenPart b e (get_or ms i w)) (get_or_from_slice_get ss i w w at) (AllZip-get_or (HasTakenPart b e) ms ss i w w z (omega arith)) in
      let workers : d.workers ≡ length ss = omega arith in
      let from : (get_or ms i w).first_trial ≡ number * e.trials + share_of e.trials (length ss) i =
      ap (λ (x : Worker). x.first_trial) p.part ∙ (λ j. first j + share_of (items j) (workers j) i) in
      let past : (get_or ms i w).past_trial ≡ number * e.trials + share_of e.trials (length ss) (i + 1) =
      ap (λ (x : Worker). x.past_trial) p.part ∙ (λ j. first j + share_of (items j) (workers j) (i + 1)) in
      let shown : (get_or ms i w).first_trial < (get_or ms i w).past_trial → ShowsTrials b e (get_or ms i w).first_trial (get_or ms i w).past_trial w = done.tried.trials in
      λ later. subst (λ n. ShowsTrials b e n (number * e.trials + share_of e.trials (length ss) (i + 1)) w) from
      (subst (λ n. ShowsTrials b e (get_or ms i w).first_trial n w) past (shown (omega arith)))

-- ---- the whole round

pub record IsRound (b : Board) (d : Division) (e : Effort) (os ms ss ns : List Worker) : Type 0 where
  pub division : IsDivision d
  pub count : length os ≡ d.workers
  pub crew : IsCrewOf b e.depth os
  pub prepared : AllPrepared b d os ms
  pub parts : AllZip (HasTakenPart b e) ms ss
  pub met : HaveMet b ss ns

abbrev pub FirstNarrows : Board → ℕ → List Worker → List Worker → Type 0
FirstNarrows b swept (o ∷ os) (n ∷ ns) = (id : ℕ) → id < swept → Narrows b.problem o.pass.view n.pass.view id
FirstNarrows b swept [] ns = ⊥
FirstNarrows b swept (o ∷ os) [] = ⊥

pub record RoundDone (b : Board) (d : Division) (e : Effort) (number : ℕ) (os ns : List Worker) : Type 0 where
  pub crew : IsCrewOf b e.depth ns
  pub stayed : HaveStayed b os ns
  pub trials : HaveTrials b e number ns
  pub swept : FirstNarrows b d.swept os ns
  pub placed : ArePlacedOrFull b.problem d.swept os ns

module _ (b : Board) (d : Division) (e : Effort) (number : ℕ) (first : d.first_trial ≡ number * e.trials) (items : d.trials ≡ e.trials) where
  -- each id is in the range of one worker, which had heard worker 0 and which worker 0 has heard
  module _ (o n s : Worker) (os ms ss ns : List Worker) (division : IsDivision d) (count : length (o ∷ os) ≡ d.workers)
      (a : ArePrepared b d o.pass.view (o ∷ os) ms) (z : AllZip (HasTakenPart b e) ms (s ∷ ss)) (heard : All (HasHeard n.pass) (s ∷ ss)) where
    each_swept : (id : ℕ) → id < d.swept → Narrows b.problem o.pass.view n.pass.view id
    each_swept id below =
        let r = share_with d.swept d.workers id division.some below in let k : ℕ = r.0 in
        let long = a.long in let long' = length_all_zip (HasTakenPart b e) ms (s ∷ ss) z in
        let inside : k < length (o ∷ os) = omega (arith, r.1) in
        let p = a.each k o inside in
        let done = AllZip-get_or (HasTakenPart b e) ms (s ∷ ss) k o o z (omega arith) in
        let from : (get_or ms k o).first_id ≤ id = subst (λ j. j ≤ id) (sym (ap (λ (x : Worker). x.first_id) p.part)) r.2 in
        let past : id < (get_or ms k o).past_id = subst (λ j. id < j) (sym (ap (λ (x : Worker). x.past_id) p.part)) r.3 in
        narrows_wider b.problem o.pass.view (get_or ms k o).pass.view (get_or (s ∷ ss) k o).pass.view n.pass.view id p.heard (heard k o (omega arith)) (done.swept id from past)

    -- a state that follows has an id in the pass that read it, and so in worker 0's, or that pass has found the table full
    each_placed : HaveStayed b (s ∷ ss) (n ∷ ns) → (id : ℕ) → id < d.swept → (from : State) → IsTrue (has_state o.pass.view id from)
        → (t : State) → Contains (successors (ground_process b.problem) from) t → ((own : ℕ) × HasOwn n.pass.view t own) ⊎ OneWasFull (o ∷ os) t (n ∷ ns)
    each_placed behind id below from had t follows =
        let r = share_with d.swept d.workers id division.some below in let k : ℕ = r.0 in
        let long = a.long in let long' = length_all_zip (HasTakenPart b e) ms (s ∷ ss) z in
        let long'' = length_all_zip (λ (x y : Worker). Stays b x.pass y.pass) (s ∷ ss) (n ∷ ns) behind in
        let inside : k < length (o ∷ os) = omega (arith, r.1) in
        let old = get_or (o ∷ os) k o in let mid = get_or ms k o in let done = get_or (s ∷ ss) k o in let new = get_or (n ∷ ns) k o in
        let p = a.each k o inside in
        let part = AllZip-get_or (HasTakenPart b e) ms (s ∷ ss) k o o z (omega arith) in
        let later = AllZip-get_or (λ (x y : Worker). Stays b x.pass y.pass) (s ∷ ss) (n ∷ ns) k o o behind (omega arith) in
        let heard_it = heard k o (omega arith) in
        let first_id : mid.first_id ≤ id = subst (λ j. j ≤ id) (sym (ap (λ (x : Worker). x.first_id) p.part)) r.2 in
        let past_id : id < mid.past_id = subst (λ j. id < j) (sym (ap (λ (x : Worker). x.past_id) p.part)) r.3 in
        let placed : PlacesNext b.problem mid.pass.view done.pass.view id = part.placed id first_id past_id in
        let is : IsPlacedOrFull mid.pass.view done.pass.view t = placed from (has_state_more o.pass.view mid.pass.view p.heard id from had) t follows in
        ⊎_elim
        (λ own. inl (own.0, record { known = heard_it.known own.0 own.1.known; state = has_state_more done.pass.view n.pass.view heard_it own.0 t own.1.state }))
        (λ full. inr (record {
          place = k;
          old = old;
          new = new;
          was = slice_get-get_or (o ∷ os) k o inside;
          is = slice_get-get_or (n ∷ ns) k o (omega arith);
          full = full_between old.pass.view mid.pass.view done.pass.view new.pass.view t p.stays.noted p.stays.looks full later.noted later.looks;
        }))
        is

  pub round_is_done : (os ms ss ns : List Worker) → IsRound b d e os ms ss ns → RoundDone b d e number os ns
  round_is_done [] ms ss ns r = absurd (let s = r.crew.some in omega arith)
  round_is_done (o ∷ os) [] ss ns r = absurd (let l = r.prepared.long in omega arith)
  round_is_done (o ∷ os) (m ∷ ms) [] ns r = absurd r.parts
  round_is_done (o ∷ os) (m ∷ ms) (s ∷ ss) [] r = absurd r.met
  round_is_done (o ∷ os) (m ∷ ms) (s ∷ ss) (n ∷ ns) r =
      let long = r.prepared.long in let long' = length_all_zip (HasTakenPart b e) (m ∷ ms) (s ∷ ss) r.parts in
      let each = all_workers b e (m ∷ ms) (s ∷ ss) r.parts in
      let parted : IsCrewOf b e.depth (s ∷ ss) = record { some = omega arith; few = (let f = r.crew.few in omega arith); each = each } in record {
        crew = first_is_crew b e.depth s n ss ns parted r.met.0 r.met.1 r.met.2;
        stayed = stayed_again b (o ∷ os) (s ∷ ss) (n ∷ ns)
            (stayed_again b (o ∷ os) (m ∷ ms) (s ∷ ss) (prepared_zip b d o.pass.view (o ∷ os) (m ∷ ms) r.prepared) (parts_stay b e (m ∷ ms) (s ∷ ss) r.parts))
            (first_stays b e.depth s n ss ns each r.met.0 r.met.2);
        trials = first_trials e number b s n ss ns r.met.0 r.met.1 r.met.2
            (parts_have_trials b d e number first items o.pass.view (o ∷ os) (m ∷ ms) (s ∷ ss) r.count r.prepared r.parts);
        swept = each_swept o n s os (m ∷ ms) ss ns r.division r.count r.prepared r.parts r.met.3;
        placed = each_placed o n s os (m ∷ ms) ss ns r.division r.count r.prepared r.parts r.met.3 (first_stays b e.depth s n ss ns each r.met.0 r.met.2);
      }
