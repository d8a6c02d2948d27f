-- A worker's trials, one after another.
use Rattle.std.proofs.Common.{◌≡◌, ℕ, ◌+◌, ◌-◌, ◌<◌, ◌≤◌, ◌==◌, ◌&&◌, Bool, true, false, cond, Option, Some, None, refl, sym, ap, ◌∙◌, subst, arith, inl, inr}
use Rattle.std.proofs.lemmas.Bool.{cases_Bool, cases_lt, eq-eqb, eqb-true, and_from, and_parts}
use Rattle.word_table.specs.Seen.{Board, Knowledge}
use Rattle.brtdp_trial.specs.declared.ending.Ends.{Ends}
use Rattle.brtdp_trial.specs.declared.ending.Ends.TheVariants.{Depth, New}
use Rattle.brtdp_trial.specs.declared.run.Run.{Run}
use Rattle.brtdp_trial.specs.Endings.{same_ends}
use Rattle.brtdp_trial.specs.Runs.{run_alone, goes_on, next_run}
use Rattle.brtdp_trial.specs.Paths.{PathView}
use Rattle.bellman_backup.specs.Scratches.{ScratchView, IsScratchOf}
use Rattle.trial_workers.specs.declared.effort.Effort.{Effort}
use Rattle.trial_workers.specs.declared.worker.Worker.{Worker}
use Rattle.trial_workers.specs.Trials.{IsSeededTrial}
use Rattle.trial_workers.specs.Workers.{Stays, IsRun, IsRunOf, ShowsTrials, HasTurnsKnown, CanTry, HasTried}
use Rattle.trial_workers.proofs.Passes.{stays_again}

-- ---- runs

some_is : (r s : Run) → Some r ≡ Some s → r ≡ s
some_is r s same = cc

none_is_not_some : (r : Run) → None ≡ Some r → ⊥
none_is_not_some r same = cc

ends_same_when : (x y : Ends) → x ≡ y → same_ends x y ≡ true
ends_same_when Depth Depth same = refl
ends_same_when Depth New same = absurd cc
ends_same_when New Depth same = absurd cc
ends_same_when New New same = refl

ends_same_says : (x y : Ends) → same_ends x y ≡ true → x ≡ y
ends_same_says Depth Depth same = refl
ends_same_says Depth New same = absurd cc
ends_same_says New Depth same = absurd cc
ends_same_says New New same = refl

goes_on_when : (r : Run) (n seed tau : ℕ) (ends : Ends) → r.last + 1 ≡ n → r.seed ≡ seed → r.tau ≡ tau → r.ends ≡ ends
    → goes_on r n seed tau ends ≡ true
goes_on_when r n seed tau ends last same_seed same_tau same =
    let a : (r.last + 1 == n) ≡ true = eq-eqb (r.last + 1) n last in
    let b : (r.seed == seed) ≡ true = eq-eqb r.seed seed same_seed in
    let c : (r.tau == tau) ≡ true = eq-eqb r.tau tau same_tau in
    let d : same_ends r.ends ends ≡ true = ends_same_when r.ends ends same in
    and_from (r.last + 1 == n) ((r.seed == seed) && ((r.tau == tau) && same_ends r.ends ends)) a
    (and_from (r.seed == seed) ((r.tau == tau) && same_ends r.ends ends) b
    (and_from (r.tau == tau) (same_ends r.ends ends) c d))

goes_on_says : (r : Run) (n seed tau : ℕ) (ends : Ends) → goes_on r n seed tau ends ≡ true
    → (r.last + 1 ≡ n) × (r.seed ≡ seed) × (r.tau ≡ tau) × (r.ends ≡ ends)
goes_on_says r n seed tau ends on =
    let one = and_parts (r.last + 1 == n) ((r.seed == seed) && ((r.tau == tau) && same_ends r.ends ends)) on in
    let two = and_parts (r.seed == seed) ((r.tau == tau) && same_ends r.ends ends) one.1 in
    let three = and_parts (r.tau == tau) (same_ends r.ends ends) two.1 in (
      eqb-true (r.last + 1) n one.0,
      eqb-true r.seed seed two.0,
      eqb-true r.tau tau three.0,
      ends_same_says r.ends ends three.1,
    )

-- one trial longer, or alone
abbrev longer : Run → ℕ → Run
longer r n = record r { last = n }

next_is_longer : (r : Run) (n seed tau : ℕ) (ends : Ends) → goes_on r n seed tau ends ≡ true → next_run (Some r) n seed tau ends ≡ longer r n
next_is_longer r n seed tau ends on = ap (λ b. cond b (longer r n) (run_alone n seed tau ends)) on

next_is_alone : (r : Run) (n seed tau : ℕ) (ends : Ends) → goes_on r n seed tau ends ≡ false → next_run (Some r) n seed tau ends ≡ run_alone n seed tau ends
next_is_alone r n seed tau ends off = ap (λ b. cond b (longer r n) (run_alone n seed tau ends)) off

alone_is_run : (n seed tau : ℕ) (ends : Ends) → IsRun (run_alone n seed tau ends)
alone_is_run n seed tau ends = omega arith

pub next_is_run : (old : Option Run) (n seed tau : ℕ) (ends : Ends) → ((r : Run) → old ≡ Some r → IsRun r) → IsRun (next_run old n seed tau ends)
next_is_run None n seed tau ends rises = alone_is_run n seed tau ends
next_is_run (Some r) n seed tau ends rises = elim (cases_Bool (goes_on r n seed tau ends)) [
  | inl on ↦ subst IsRun (sym (next_is_longer r n seed tau ends on)) (let a = rises r refl in let b = (goes_on_says r n seed tau ends on).0 in omega arith)
  | inr off ↦ subst IsRun (sym (next_is_alone r n seed tau ends off)) (alone_is_run n seed tau ends)
]

-- the run so far, where there was a trial
abbrev SoFar : Effort → ℕ → ℕ → Option Run → Type 0
SoFar e first n old = first < n → (r : Run) × (old ≡ Some r) × IsRunOf e first n r

module _ (e : Effort) (first n : ℕ) (from : first ≤ n) where
  alone_is_of : n ≤ first → IsRunOf e first (n + 1) (run_alone n e.seed e.tau e.ends)
  alone_is_of new = record { first_within = new; last_is = refl; seed = refl; tau = refl; ends = refl }

  longer_is_of : (r : Run) → IsRun r → SoFar e first n (Some r) → goes_on r n e.seed e.tau e.ends ≡ true → IsRunOf e first (n + 1) (longer r n)
  longer_is_of r rises so on =
      let says = goes_on_says r n e.seed e.tau e.ends on in record {
        first_within = elim (cases_lt first n) [
          | inl later ↦ (let o = so later in let same = some_is r o.0 o.1 in let w = o.2.first_within in let f = ap (λ (x : Run). x.first) same in omega arith)
          | inr here ↦ (let a = says.0 in omega arith)
        ];
        last_is = refl;
        seed = says.1;
        tau = says.2;
        ends = says.3;
      }

  not_alone : (r : Run) → SoFar e first n (Some r) → goes_on r n e.seed e.tau e.ends ≡ false → n ≤ first
  not_alone r so off = elim (cases_lt first n) [
    | inl later ↦ (let o = so later in let same = some_is r o.0 o.1 in let is = subst (IsRunOf e first n) (sym same) o.2 in
        absurd (both (goes_on r n e.seed e.tau e.ends) (goes_on_when r n e.seed e.tau e.ends is.last_is is.seed is.tau is.ends) off))
    | inr here ↦ here
  ] where
    both : (b : Bool) → b ≡ true → b ≡ false → ⊥
    both b on off = cc

  pub run_goes_on : (old : Option Run) → ((r : Run) → old ≡ Some r → IsRun r) → SoFar e first n old → IsRunOf e first (n + 1) (next_run old n e.seed e.tau e.ends)
  run_goes_on None rises so = alone_is_of (elim (cases_lt first n) [ inl later ↦ absurd (none_is_not_some (so later).0 (so later).1) | inr here ↦ here ])
  run_goes_on (Some r) rises so = elim (cases_Bool (goes_on r n e.seed e.tau e.ends)) [
    | inl on ↦ subst (IsRunOf e first (n + 1)) (sym (next_is_longer r n e.seed e.tau e.ends on)) (longer_is_of r (rises r refl) so on)
    | inr off ↦ subst (IsRunOf e first (n + 1)) (sym (next_is_alone r n e.seed e.tau e.ends off)) (alone_is_of (not_alone r so off))
  ]

-- ---- a worker's trials up to below n

pub record Trying (b : Board) (e : Effort) (v w : Worker) (x : ScratchView) (n : ℕ) : Type 0 where
  pub can : CanTry b e.depth w
  pub of : IsScratchOf b x
  pub stays : Stays b v.pass w.pass
  pub part : (w.first_trial ≡ v.first_trial) × (w.past_trial ≡ v.past_trial)
  pub from : v.first_trial ≤ n
  pub within : v.first_trial < v.past_trial → n ≤ v.past_trial
  pub trials : v.first_trial < n → ShowsTrials b e v.first_trial n w

abbrev with_trial : Worker → Knowledge → PathView → Worker
with_trial w k p = record w { pass = k; path = p }

pub one_trial_more : (b : Board) (e : Effort) (v w : Worker) (x : ScratchView) (k : Knowledge) (y : ScratchView) (p : PathView) (n : ℕ) → Trying b e v w x n → n < v.past_trial
    → Stays b w.pass k → IsScratchOf b y → p.room ≡ w.path.room → p.run ≡ Some (next_run w.path.run n e.seed e.tau e.ends) → IsSeededTrial b e n k.view p → HasTurnsKnown k.view p
    → Trying b e v (with_trial w k p) y (n + 1)
one_trial_more b e v w x k y p n so below stays of room run trial known =
    let old = so.can.fit in
    let rises : IsRun (next_run w.path.run n e.seed e.tau e.ends) = next_is_run w.path.run n e.seed e.tau e.ends old.run in
    let so_far : SoFar e v.first_trial n w.path.run = λ later. let t = so.trials later in (t.run, t.shown, t.is) in record {
      can = record {
        fit = record {
          here = stays.here;
          right = (let a = old.right in let c = stays.rights in omega arith);
          room = room ∙ old.room;
          run = λ r is. subst IsRun (some_is (next_run w.path.run n e.seed e.tau e.ends) r (sym run ∙ is)) rises;
        };
        starts = λ id inside. stays.noted.known id (so.can.starts id inside);
      };
      of = of;
      stays = stays_again b v.pass w.pass k so.stays stays;
      part = so.part;
      from = (let f = so.from in omega arith);
      within = λ some. omega arith;
      trials = λ later. record {
        run = next_run w.path.run n e.seed e.tau e.ends;
        shown = run;
        is = run_goes_on e v.first_trial n so.from w.path.run old.run so_far;
        trial = subst (λ m. IsSeededTrial b e m k.view p) (let last : n ≡ n + 1 - 1 = omega arith in last) trial;
        known = known;
      };
    }

-- no number of the worker's part is left
pub all_tried : (b : Board) (e : Effort) (v w : Worker) (x : ScratchView) (n : ℕ) → Trying b e v w x n → v.past_trial ≤ n → HasTried b e v w
all_tried b e v w x n so past = record {
  fit = so.can.fit;
  stays = so.stays;
  trials = λ some.
      let end : n ≡ v.past_trial = (let within = so.within some in omega arith) in
      subst (λ m. ShowsTrials b e v.first_trial m w) end (so.trials (omega arith));
}
