-- Crews: lists of workers, of which the first is worker 0.
--     IsCrewOf b depth ws        1 to 16 workers over these words, for trials of so many turns
--     FirstHas states ws         worker 0 has each state of the list, with its place as its id
--     AreNear g most states x    the states near the starts of the problem, level by level, as far as x says, at most one more than
--                                `most`
--     IsListed g states x        so they are for as many states as may be swept at most
--     IsNear g x ws              worker 0 has them, with their places as ids
--     seated desk k              the worker at a desk: its pass and its witness know and have seen what the pass k does
--     new_worker g k depth       the worker of a new crew: nothing was backed up or tried yet
--     IsNewCrew g k n depth ws   n workers that know and have seen what the pass k does, with one right each, and so do their witnesses
--     AreDesks g kept depth n desks
--                                what they need beside their passes, with these transitions near the starts
--     IsFirstPass ws k           k is the pass of worker 0
--     HaveStayed b os ns         each worker has noted all that it had noted, and has the same rights
--     HaveTrials b e number ws   each worker that has trials in the round of this number shows them
--     OneWasFull os t ns         a look of a worker for the state t has found the table full meanwhile
--     ArePlacedOrFull g swept os ns
--                                each state that follows one which worker 0 had with an id below `swept` is one that it then has with an
--                                id, or a look of a worker for it has found the table full meanwhile
--     HasReadMeans b v w m       the means are between what v and w have seen, over a problem within its limits
--     FirstReads b os ns m       worker 0 has read the means of the starts' bounds; nothing else is changed
use Rattle.std.specs.Prelude.{◌≡◌, ◌⊎◌, ℕ, ◌+◌, ◌*◌, ◌<◌, ◌≤◌, Some, List, [], ◌∷◌, length, All}
use Rattle.std.specs.Prelude.{IsTrue, Contains}
use Rattle.std.specs.List.{slice_get, AllZip}
use Rattle.std.specs.Arc.{arc_value}
use Rattle.decision_process.specs.Levels.{successors}
use Rattle.ground_model.specs.Packed.{State}
use Rattle.ground_model.specs.Ground.{Ground}
use Rattle.ground_model.specs.Invariant.{IsGroundProblem}
use Rattle.ground_model.specs.Steps.{ground_process, ground_starts}
use Rattle.word_table.specs.declared.view.View.{View}
use Rattle.word_table.specs.view.Steps.{without_rights}
use Rattle.word_table.specs.view.Views.{has_state}
use Rattle.word_table.specs.Seen.{Board, Knowledge, knowledge, with_rights}
use Rattle.state_interner.specs.Interned.{HasOwn}
use Rattle.brtdp_trial.specs.Paths.{PathView, new_path}
use Rattle.kept_transitions.specs.Rows.{Transitions}
use Rattle.bellman_backup.specs.Readings.{WasFull}
use Rattle.bellman_backup.specs.Scratches.{ScratchView, new_scratch, with_witness}
use Rattle.trial_workers.specs.declared.explorer.explored.TheConstants.{MOST_SWEPT}
use Rattle.trial_workers.specs.explorer.Explored.{AreLevels}
use Rattle.bellman_backup.specs.declared.means.Means.{Means}
use Rattle.bellman_backup.specs.means.Means.{AreMeans}
use Rattle.trial_workers.specs.declared.desk.Desk.{Desk}
use Rattle.trial_workers.specs.declared.effort.Effort.{Effort}
use Rattle.trial_workers.specs.declared.extent.Extent.{Extent}
use Rattle.trial_workers.specs.declared.worker.Worker.{Worker}
use Rattle.trial_workers.specs.Parts.{share_of}
use Rattle.trial_workers.specs.Workers.{Stays, HasListed, IsWorkerOf, ShowsTrials}
use Rattle.trial_workers.specs.Rounds.{with_pass}

pub record IsCrewOf (b : Board) (depth : ℕ) (ws : List Worker) : Type 0 where
  pub some : 0 < length ws
  pub few : length ws ≤ 16
  pub each : All (IsWorkerOf b depth) ws

abbrev pub FirstHas : List State → List Worker → Type 0
FirstHas states [] = ⊥
FirstHas states (w ∷ ws) = HasListed states w.pass.view

abbrev pub AreNear : Ground → ℕ → List State → Extent → Type 0
AreNear g most states x =
    AreLevels (ground_process g) (ground_starts g) most states x.swept x.depth

abbrev pub IsListed : Ground → List State → Extent → Type 0
IsListed g states x = (most : ℕ) × (most ≤ MOST_SWEPT) × AreNear g most states x

pub record IsNear (g : Ground) (x : Extent) (ws : List Worker) : Type 0 where
  pub states : List State
  pub listed : IsListed g states x
  pub has : FirstHas states ws

-- ---- new crews

abbrev pub one_right : Knowledge → Knowledge
one_right k = knowledge k.table (with_rights 1 (without_rights k.view))

abbrev pub no_right : Knowledge → Knowledge
no_right k = knowledge k.table (without_rights k.view)

abbrev pub worker_of : Knowledge → ScratchView → PathView → Worker
worker_of k x p = record {
  pass = one_right k;
  scratch = Some (with_witness x (no_right k));
  path = p;
  first_id = 0;
  past_id = 0;
  first_trial = 0;
  past_trial = 0;
}

abbrev pub seated : Desk → Knowledge → Worker
seated desk k = worker_of k desk.scratch desk.path

abbrev pub new_worker : Ground → Knowledge → ℕ → Worker
new_worker g k depth = worker_of k (new_scratch g) (new_path depth)

pub record IsNewCrew (g : Ground) (k : Knowledge) (n depth : ℕ) (ws : List Worker) : Type 0 where
  pub count : length ws ≡ n
  pub each : All (λ w. w ≡ new_worker g k depth) ws

pub record IsDesk (g : Ground) (kept : Transitions) (depth : ℕ) (desk : Desk) : Type 0 where
  pub scratch : desk.scratch ≡ new_scratch g
  pub near : arc_value desk.near ≡ kept
  pub path : desk.path ≡ new_path depth

pub record AreDesks (g : Ground) (kept : Transitions) (depth n : ℕ) (desks : List Desk) : Type 0 where
  pub count : length desks ≡ n
  pub each : All (IsDesk g kept depth) desks

abbrev pub IsFirstPass : List Worker → Knowledge → Type 0
IsFirstPass ws k = (w : Worker) → slice_get ws 0 ≡ Some w → k ≡ w.pass

-- ---- rounds

abbrev pub HaveStayed : Board → List Worker → List Worker → Type 0
HaveStayed b os ns = AllZip (λ (o n : Worker). Stays b o.pass n.pass) os ns

abbrev pub trial_at : Effort → ℕ → ℕ → ℕ → ℕ
trial_at e number workers i = number * e.trials + share_of e.trials workers i

abbrev pub HasTrials : Board → Effort → ℕ → ℕ → ℕ → Worker → Type 0
HasTrials b e number workers i w = let first = trial_at e number workers i in
    let past = trial_at e number workers (i + 1) in first < past → ShowsTrials b e first past w

abbrev pub HaveTrials : Board → Effort → ℕ → List Worker → Type 0
HaveTrials b e number ws = (i : ℕ) (w : Worker) → slice_get ws i ≡ Some w
    → HasTrials b e number (length ws) i w

pub record OneWasFull (os : List Worker) (t : State) (ns : List Worker) : Type 0 where
  pub place : ℕ
  pub old : Worker
  pub new : Worker
  pub was : slice_get os place ≡ Some old
  pub is : slice_get ns place ≡ Some new
  pub full : WasFull old.pass.view t new.pass.view

abbrev pub ArePlacedOrFull : Ground → ℕ → List Worker → List Worker → Type 0
ArePlacedOrFull g swept [] news = ⊥
ArePlacedOrFull g swept (o ∷ os) [] = ⊥
ArePlacedOrFull g swept (o ∷ os) (n ∷ ns) =
    (id : ℕ) → id < swept → (s : State) → IsTrue (has_state o.pass.view id s)
    → (t : State) → Contains (successors (ground_process g) s) t
    → ((own : ℕ) × HasOwn n.pass.view t own) ⊎ OneWasFull (o ∷ os) t (n ∷ ns)

pub record HasReadMeans (b : Board) (v w : View) (m : Means) : Type 0 where
  pub problem : IsGroundProblem b.problem
  pub means : AreMeans b.problem v w m

abbrev pub FirstReads : Board → List Worker → List Worker → Means → Type 0
FirstReads b [] news m = ⊥
FirstReads b (o ∷ os) [] m = ⊥
FirstReads b (o ∷ os) (n ∷ ns) m = Stays b o.pass n.pass × (n ≡ with_pass n.pass o) × (ns ≡ os)
    × HasReadMeans b o.pass.view n.pass.view m
