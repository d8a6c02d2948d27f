-- How a crew is made.
use Rattle.std.proofs.Common.{◌≡◌, ℕ, zero, suc, ◌+◌, ◌-◌, ◌<◌, ◌≤◌, Some, None, List, [], ◌∷◌, ◌++◌, length, All, refl, sym, ap, ◌∙◌, subst, arith}
use Rattle.std.specs.Arc.{arc_value}
use Rattle.std.proofs.lemmas.List.{length-append}
use Rattle.ground_model.specs.Packed.{State}
use Rattle.ground_model.specs.Ground.{Ground}
use Rattle.word_table.specs.declared.view.View.{View}
use Rattle.word_table.specs.view.Laws.{HasMore}
use Rattle.word_table.specs.view.Steps.{without_rights}
use Rattle.word_table.proofs.lemmas.view.Seen.{has_state_more}
use Rattle.word_table.proofs.lemmas.view.Noting.{noted_is_more}
use Rattle.word_table.specs.Seen.{Board, Knowledge, knowledge, IsOf, with_rights}
use Rattle.brtdp_trial.specs.declared.run.Run.{Run}
use Rattle.kept_transitions.specs.Rows.{Transitions}
use Rattle.bellman_backup.specs.Scratches.{ScratchView, new_scratch, with_witness}
use Rattle.bellman_backup.specs.Kept.{KeepsStates}
use Rattle.bellman_backup.proofs.KeptRows.{kept_is_kept_later}
use Rattle.trial_workers.specs.declared.worker.Worker.{Worker}
use Rattle.trial_workers.specs.Workers.{HasListed, IsWorkerOf}
use Rattle.trial_workers.specs.declared.desk.Desk.{Desk}
use Rattle.trial_workers.specs.Crews.{IsCrewOf, FirstHas, IsNewCrew, IsDesk, AreDesks, no_right, new_worker, seated, worker_of}

none_is_not_run : (r : Run) → None ≡ Some r → ⊥
none_is_not_run r same = cc

witness_is : (k q : Knowledge) → Some k ≡ Some q → k ≡ q
witness_is k q same = cc

without_right_is_of : (b : Board) (k : Knowledge) → IsOf b k → IsOf b (no_right k)
without_right_is_of b k of = record { table = of.table; view = record { live = of.view.live; problem = of.view.problem; layout = of.view.layout } }

pub new_is_worker : (b : Board) (k : Knowledge) (depth : ℕ) → IsOf b k → IsWorkerOf b depth (new_worker b.problem k depth)
new_is_worker b k depth of = record {
  fit = record {
    here = record { table = of.table; view = record { live = of.view.live; problem = of.view.problem; layout = of.view.layout } };
    right = omega arith;
    room = refl;
    run = λ r is. absurd (none_is_not_run r is);
  };
  scratch = with_witness (new_scratch b.problem) (no_right k);
  has = refl;
  of = record { problem = refl; witness = λ q is. subst (IsOf b) (witness_is (no_right k) q is) (without_right_is_of b k of) };
}

more_with_right : (v : View) → HasMore v (with_rights 1 (without_rights v))
more_with_right v = record {
  problem = refl;
  layout = refl;
  known = λ id there. there;
  held = λ n there. there;
  words = λ id place x there. there;
  lower = λ n there. there;
  upper = λ n there. there;
}

pub new_is_crew : (b : Board) (k : Knowledge) (n depth : ℕ) (ws : List Worker) → IsOf b k → (1 ≤ n) × (n ≤ 16) → IsNewCrew b.problem k n depth ws → IsCrewOf b depth ws
new_is_crew b k n depth ws of count new = record {
  some = (let c = new.count in omega arith);
  few = (let c = new.count in omega arith);
  each = λ i d below. subst (IsWorkerOf b depth) (sym (new.each i d below)) (new_is_worker b k depth of);
}

pub new_has : (g : Ground) (k : Knowledge) (n depth : ℕ) (ws : List Worker) (states : List State) → 1 ≤ n → IsNewCrew g k n depth ws → HasListed states k.view → FirstHas states ws
new_has g k n depth [] states some new has = absurd (let c = new.count in omega arith)
new_has g k n depth (w ∷ ws) states some new has =
    let is : w ≡ new_worker g k depth = new.each 0 w (omega arith) in
    subst (λ (x : Worker). HasListed states x.pass.view) (sym is) (λ id s at.
    let h = has id s at in (h.0, has_state_more k.view (with_rights 1 (without_rights k.view)) (more_with_right k.view) id s h.1))

pub one_more : {X : Type 0} (P : X → Type 0) (xs : List X) (x : X) → All P xs → P x → All P (xs ++ x ∷ [])
one_more P [] x all one zero d below = one
one_more P [] x all one (suc i) d below = absurd (omega arith)
one_more P (y ∷ ys) x all one zero d below = all 0 d (omega arith)
one_more P (y ∷ ys) x all one (suc i) d below = one_more P ys x (λ k e inside. all (suc k) e (omega arith)) one i d (omega arith)

pub one_desk_more : (g : Ground) (t : Transitions) (depth n : ℕ) (desks : List Desk) (desk : Desk) → AreDesks g t depth n desks → IsDesk g t depth desk
    → AreDesks g t depth (n + 1) (desks ++ desk ∷ [])
one_desk_more g t depth n desks desk so is = record {
  count = length-append desks (desk ∷ []) ∙ (let c = so.count in omega arith);
  each = one_more (IsDesk g t depth) desks desk so.each is;
}

last_of : {X : Type 0} (P : X → Type 0) (xs : List X) (x : X) → All P (xs ++ x ∷ []) → P x
last_of P [] x all = all 0 x (omega arith)
last_of P (y ∷ xs) x all = last_of P xs x (λ k d below. all (suc k) d (omega arith))

first_of : {X : Type 0} (P : X → Type 0) (xs : List X) (x : X) → All P (xs ++ x ∷ []) → All P xs
first_of P [] x all k d below = absurd (omega arith)
first_of P (y ∷ xs) x all zero d below = all 0 d (omega arith)
first_of P (y ∷ xs) x all (suc k) d below = first_of P xs x (λ j e inside. all (suc j) e (omega arith)) k d (omega arith)

-- ---- so many workers have desks and passes

pub record Seating (b : Board) (k : Knowledge) (t : Transitions) (n depth : ℕ) (i : ℕ) (desks : List Desk) (ws : List Worker) (k' : Knowledge) : Type 0 where
  pub seated : IsNewCrew b.problem k i depth ws
  pub left : length desks + i ≡ n
  pub fit : All (IsDesk b.problem t depth) desks
  pub pass : k' ≡ knowledge k.table (with_rights (n - i) k.view)

more_with_rights : (v : View) (n : ℕ) → HasMore v (with_rights n v)
more_with_rights v n = record {
  problem = refl;
  layout = refl;
  known = λ id there. there;
  held = λ m there. there;
  words = λ id place x there. there;
  lower = λ m there. there;
  upper = λ m there. there;
}

-- what is kept near the starts rests on what a pass has noted, also behind a split
pub keeps_with_rights : (g : Ground) (t : Transitions) (v : View) (n : ℕ) → KeepsStates g v t → KeepsStates g (with_rights n v) t
keeps_with_rights g t v n keeps = kept_is_kept_later g t v (with_rights n v) (more_with_rights v n) keeps

pub keeps_without_rights : (g : Ground) (t : Transitions) (v : View) → KeepsStates g v t → KeepsStates g (without_rights v) t
keeps_without_rights g t v keeps = kept_is_kept_later g t v (without_rights v) (noted_is_more v).rights keeps

module _ (b : Board) (k : Knowledge) (t : Transitions) (n depth i : ℕ) (desks : List Desk) (ws : List Worker) (pass : Knowledge) (below : i < n)
    (so : Seating b k t n depth i desks ws pass) where
  module _ (rest : List Desk) (desk : Desk) (split : desks ≡ rest ++ desk ∷ []) where
    pub last_desk : IsDesk b.problem t depth desk
    last_desk = last_of (IsDesk b.problem t depth) rest desk (subst (All (IsDesk b.problem t depth)) split so.fit)

    pub desk_is_fresh : desk.scratch.witness ≡ None
    desk_is_fresh = ap (λ (x : ScratchView). x.witness) last_desk.scratch

    pub desk_is_kept : KeepsStates b.problem k.view t → KeepsStates desk.scratch.problem pass.view (arc_value desk.near)
    desk_is_kept keeps =
        subst (λ (u : Transitions). KeepsStates desk.scratch.problem pass.view u) (sym last_desk.near)
        (subst (λ (x : ScratchView). KeepsStates x.problem pass.view t) (sym last_desk.scratch)
        (subst (λ (l : Knowledge). KeepsStates b.problem l.view t) (sym so.pass) (keeps_with_rights b.problem t k.view (n - i) keeps)))

    pub one_seated : (w : Worker) (left : Knowledge) → w ≡ seated desk pass → left ≡ knowledge pass.table (with_rights (pass.view.rights - 1) pass.view)
        → Seating b k t n depth (i + 1) rest (ws ++ w ∷ []) left
    one_seated w left worker stays =
        let new : w ≡ new_worker b.problem k depth = worker ∙ (λ j. worker_of (so.pass j) (last_desk.scratch j) (last_desk.path j)) in record {
          seated = record {
            count = length-append ws (w ∷ []) ∙ (let c = so.seated.count in omega arith);
            each = one_more (λ x. x ≡ new_worker b.problem k depth) ws w so.seated.each new;
          };
          left = (let e = ap (λ (l : List Desk). length l) split in let a = length-append rest (desk ∷ []) in let l = so.left in omega arith);
          fit = first_of (IsDesk b.problem t depth) rest desk (subst (All (IsDesk b.problem t depth)) split so.fit);
          pass = stays ∙ (λ j. knowledge (so.pass j).table (with_rights ((so.pass j).view.rights - 1) (so.pass j).view))
              ∙ (λ j. knowledge k.table (with_rights ((let e : n - i - 1 ≡ n - (i + 1) = omega arith in e) j) k.view));
        }
