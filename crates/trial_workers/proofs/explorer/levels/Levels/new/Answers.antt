-- The starts are the first level.
use Rattle.std.proofs.Common.{◌≡◌, ◌≤◌, length, map, sym, ap, ◌∙◌, subst, arith}
use Rattle.decision_process.specs.sweeps.Laws.{states_of}
use Rattle.ground_model.specs.declared.start.Start.{Start}
use Rattle.ground_model.specs.Steps.{ground_process, ground_starts}
use Rattle.trial_workers.specs.explorer.Exploring.{Exploring}
use Rattle.trial_workers.proofs.lemmas.explorer.Insides.{starts_are, starts_long}
use Rattle.trial_workers.proofs.lemmas.explorer.ListedLevels.{begins}
use Rattle.trial_workers.proofs.explorer.levels.Levels.new.Goals as goal

pub returns : goal.returns
returns c = λ most enough.
    let g = c.args.problem.now in
    let l = c.in_ok-listing.listing in
    let is : l ≡ states_of (ground_starts g) =
    c.in_ok-listing.ensures ∙ ap (map (λ (x : Start). x.state)) c.starts.ensures.value ∙ starts_are g.starts in
    let long : length l ≡ length g.starts = ap length is ∙ starts_long g.starts in
    let few : length l ≤ most = omega (arith, c.starts.ensures.valid.starts_count, enough) in
    record {
      valid = c.starts.ensures.valid;
      explores = subst (λ n. Exploring (ground_process g) (ground_starts g) most 0 n 1 l) (sym c.len-level.ensures.count)
          (begins (ground_process g) (ground_starts g) most l c.len-level.ensures.differ is few);
      shallow = omega arith;
    }
