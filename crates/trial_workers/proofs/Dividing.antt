-- A worker's part of a round.
use Rattle.std.proofs.Common.{ℕ, Option, Some, refl}
use Rattle.word_table.specs.Seen.{Board, Knowledge}
use Rattle.bellman_backup.specs.Scratches.{ScratchView, IsScratchOf}
use Rattle.trial_workers.specs.declared.effort.Effort.{Effort}
use Rattle.trial_workers.specs.declared.worker.Worker.{Worker}
use Rattle.trial_workers.specs.Workers.{Stays, HasSwept, HasPlacedNext, IsFit, HasTried, HasTakenPart}
use Rattle.trial_workers.proofs.Passes.{stays_again}
use Rattle.trial_workers.proofs.Falling.{swept_more, placed_more}

abbrev with_scratch : Option ScratchView → Worker → Worker
with_scratch x w = record w { scratch = x }

abbrev swept_with : Knowledge → Option ScratchView → Worker → Worker
swept_with k x w = record w { pass = k; scratch = x }

fit_still : (b : Board) (depth : ℕ) (w : Worker) (x : Option ScratchView) → IsFit b depth w → IsFit b depth (with_scratch x w)
fit_still b depth w x fit = record { here = fit.here; right = fit.right; room = fit.room; run = fit.run }

pub part_is_taken : (b : Board) (e : Effort) (v w : Worker) (k : Knowledge) (x : Option ScratchView) (y : ScratchView) → Stays b v.pass k
    → HasSwept b.problem v.first_id v.past_id v.pass.view k.view → HasPlacedNext b.problem v.first_id v.past_id v.pass.view k.view → HasTried b e (swept_with k x v) w → IsScratchOf b y
    → HasTakenPart b e v (with_scratch (Some y) w)
part_is_taken b e v w k x y stays swept placed tried of = record {
  worker = record { fit = fit_still b e.depth w (Some y) tried.fit; scratch = y; has = refl; of = of };
  tried = record {
    fit = fit_still b e.depth w (Some y) tried.fit;
    stays = stays_again b v.pass k w.pass stays tried.stays;
    trials = λ later. let s = tried.trials later in record { run = s.run; shown = s.shown; is = s.is; trial = s.trial; known = s.known };
  };
  swept = swept_more b.problem v.first_id v.past_id v.pass.view k.view w.pass.view tried.stays.noted swept;
  placed = placed_more b v.first_id v.past_id v.pass.view k w.pass tried.stays placed;
}
