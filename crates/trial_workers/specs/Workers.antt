-- What a worker does in its part of a round.
--     Stays b k l                the same pass later: it has noted all that it had noted, has made its looks and maybe more, and has the
--                                same rights
--     HasListed states v         the view has each state of the list, with its place as its id
--     HasSwept g first past v w  for each id from first up to below past, w has seen at least the backup, from what v had seen, of each
--                                state that v has the id with
--     HasPlacedNext g first past v w
--                                for each such id and state, w has each state that follows with an id, or a look for it has found the
--                                table full since v
--     IsRun r                    the first trial of a run is not behind its last
--     HasTurnsKnown v p          the view knows the ids of the path's turns
--     IsFit b depth w            a pass over these words, and a path for trials of so many turns
--     IsWorkerOf b depth w       a worker over these words, for trials of so many turns
--     ShowsTrials b e first past w
--                                its path ends a run that contains the trials from first up to below past and ends with the last of them,
--                                with the seed, the tau and the ends of the effort; it shows that one, and the worker has noted what its bounds
--                                have, and knows the ids of its turns
--     CanTry, CanTakePart        it knows the starts, and the ids that it is to back up
--     HasTried, HasTakenPart     what it has done
use Rattle.std.specs.Prelude.{◌≡◌, ℕ, ◌+◌, ◌-◌, ◌<◌, ◌≤◌, IsTrue, Some, List, length, All}
use Rattle.std.specs.List.{slice_get}
use Rattle.ground_model.specs.Packed.{State}
use Rattle.ground_model.specs.Ground.{Ground}
use Rattle.word_table.specs.declared.view.View.{View}
use Rattle.word_table.specs.view.Views.{knows, has_state}
use Rattle.word_table.specs.view.Laws.{HasMore}
use Rattle.word_table.specs.Seen.{Board, Knowledge, IsOf}
use Rattle.state_interner.specs.Interned.{AddsLooks}
use Rattle.brtdp_trial.specs.declared.run.Run.{Run}
use Rattle.brtdp_trial.specs.declared.turn.Turn.{Turn}
use Rattle.brtdp_trial.specs.Paths.{PathView}
use Rattle.bellman_backup.specs.Scratches.{ScratchView, IsScratchOf}
use Rattle.bellman_backup.specs.Backups.{Narrows, PlacesNext}
use Rattle.trial_workers.specs.declared.effort.Effort.{Effort}
use Rattle.trial_workers.specs.declared.worker.Worker.{Worker}
use Rattle.trial_workers.specs.Trials.{IsSeededTrial}

pub record Stays (b : Board) (k l : Knowledge) : Type 0 where
  pub here : IsOf b l
  pub noted : HasMore k.view l.view
  pub looks : AddsLooks k.view l.view
  pub rights : l.view.rights ≡ k.view.rights

abbrev pub HasListed : List State → View → Type 0
HasListed states v = (id : ℕ) (s : State) → slice_get states id ≡ Some s
    → knows v id × IsTrue (has_state v id s)

abbrev pub HasSwept : Ground → ℕ → ℕ → View → View → Type 0
HasSwept g first past v w = (id : ℕ) → first ≤ id → id < past → Narrows g v w id

abbrev pub HasPlacedNext : Ground → ℕ → ℕ → View → View → Type 0
HasPlacedNext g first past v w = (id : ℕ) → first ≤ id → id < past → PlacesNext g v w id

abbrev pub IsRun : Run → Type 0
IsRun r = r.first ≤ r.last

abbrev pub HasTurnsKnown : View → PathView → Type 0
HasTurnsKnown v p = All (λ (t : Turn). knows v t.id) p.turns

pub record IsFit (b : Board) (depth : ℕ) (w : Worker) : Type 0 where
  pub here : IsOf b w.pass
  pub right : 0 < w.pass.view.rights
  pub room : w.path.room ≡ depth
  pub run : (r : Run) → w.path.run ≡ Some r → IsRun r

pub record IsWorkerOf (b : Board) (depth : ℕ) (w : Worker) : Type 0 where
  pub fit : IsFit b depth w
  pub scratch : ScratchView
  pub has : w.scratch ≡ Some scratch
  pub of : IsScratchOf b scratch

pub record IsRunOf (e : Effort) (first past : ℕ) (r : Run) : Type 0 where
  pub first_within : r.first ≤ first
  pub last_is : r.last + 1 ≡ past
  pub seed : r.seed ≡ e.seed
  pub tau : r.tau ≡ e.tau
  pub ends : r.ends ≡ e.ends

pub record ShowsTrials (b : Board) (e : Effort) (first past : ℕ) (w : Worker) : Type 0 where
  pub run : Run
  pub shown : w.path.run ≡ Some run
  pub is : IsRunOf e first past run
  pub trial : IsSeededTrial b e (past - 1) w.pass.view w.path
  pub known : HasTurnsKnown w.pass.view w.path

pub record CanTry (b : Board) (depth : ℕ) (w : Worker) : Type 0 where
  pub fit : IsFit b depth w
  pub starts : (id : ℕ) → id < length b.problem.starts → knows w.pass.view id

pub record HasTried (b : Board) (e : Effort) (v w : Worker) : Type 0 where
  pub fit : IsFit b e.depth w
  pub stays : Stays b v.pass w.pass
  pub trials : v.first_trial < v.past_trial → ShowsTrials b e v.first_trial v.past_trial w

pub record CanTakePart (b : Board) (e : Effort) (w : Worker) : Type 0 where
  pub deep : 1 ≤ e.depth
  pub worker : IsWorkerOf b e.depth w
  pub try : CanTry b e.depth w
  pub ids : (id : ℕ) → id < w.past_id → knows w.pass.view id

pub record HasTakenPart (b : Board) (e : Effort) (v w : Worker) : Type 0 where
  pub worker : IsWorkerOf b e.depth w
  pub tried : HasTried b e v w
  pub swept : HasSwept b.problem v.first_id v.past_id v.pass.view w.pass.view
  pub placed : HasPlacedNext b.problem v.first_id v.past_id v.pass.view w.pass.view
