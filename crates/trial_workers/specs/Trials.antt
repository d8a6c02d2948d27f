-- A trial of a worker, as `brtdp_trial` says it over the bounds of a pass (`bellman_backup`).
--     later r s                  the bounds s may follow r: the same words, the same pass later, a scratch of the same problem
--     full r s                   between r and s a look for a state has found the table full
--     weights r, last r          the weights of the starts; what the last backup answered
--     untold                     no number is told beforehand, since others narrow the bounds meanwhile
--     IsSeededTrial b e number v p
--                                the path shows a trial of this number over the words b, with the seed, tau, depth and ends of the effort,
--                                and v has noted all that its bounds have. The trial ended before a state without an id only where a
--                                look meanwhile has found the table full
use Rattle.std.specs.Prelude.{◌≡◌, ℕ, false, List, [], map}
use Rattle.ground_model.specs.declared.start.Start.{Start}
use Rattle.word_table.specs.declared.view.View.{View}
use Rattle.word_table.specs.view.Laws.{HasMore}
use Rattle.word_table.specs.Seen.{Board}
use Rattle.brtdp_trial.specs.declared.ends.TrialEnd.{TrialEnd}
use Rattle.brtdp_trial.specs.declared.ends.TrialEnd.TheVariants.{Unplaced}
use Rattle.brtdp_trial.specs.Meaning.{Last, Told}
use Rattle.brtdp_trial.specs.Draws.{draw_of}
use Rattle.brtdp_trial.specs.Paths.{PathView}
use Rattle.brtdp_trial.specs.Trials.{IsTrial}
use Rattle.brtdp_trial.specs.Listed.{no_action}
use Rattle.bellman_backup.specs.declared.racing.Racing.{Racing}
use Rattle.bellman_backup.specs.Races.{FoundFull, Races}
use Rattle.trial_workers.specs.declared.effort.Effort.{Effort}

abbrev pub later : Racing → Racing → Type 0
later r s = Races r.words.now r.pass r.scratch s.words.now s.pass s.scratch

abbrev pub full : Racing → Racing → Type 0
full r s = FoundFull r.pass.view s.pass.view

abbrev pub weights : Racing → List ℕ
weights r = map (λ (x : Start). x.weight) r.words.now.problem.starts

abbrev pub last : Racing → Last
last r = r.scratch.last

abbrev pub untold : Told Racing
untold = record {
  tells = λ r. false;
  starts = λ r. [];
  backed = λ r id. no_action 0;
  after = λ r id. r;
}

-- the bounds before the trial and after it, and how it ended
pub record IsSeededTrial (b : Board) (e : Effort) (number : ℕ) (v : View) (p : PathView) : Type 0 where
  pub from : Racing
  pub to : Racing
  pub over : from.words.now ≡ b
  pub noted : HasMore to.pass.view v
  pub end : TrialEnd
  pub is : IsTrial later full weights last untold (draw_of e.seed number) e.tau e.depth e.ends from p end to
  pub unplaced : end ≡ Unplaced → full from to
