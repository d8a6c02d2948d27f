-- From the rounds to the answer.
use Rattle.std.proofs.Common.{◌≡◌, ⊎_elim, ◌+◌, ◌≤◌, Some, List, [], ◌∷◌, length, take, refl, sym, subst, inl, inr, arith}
use Rattle.std.specs.List.{slice_get}
use Rattle.std.proofs.lemmas.List.Elements.{length_all_zip}
use Rattle.decision_process.specs.Readings.{low, high}
use Rattle.decision_process.specs.sweeps.Sweeps.{IsNear}
use Rattle.ground_model.specs.Packed.{State, same_state}
use Rattle.ground_model.specs.Ground.{Ground}
use Rattle.ground_model.specs.Steps.{ground_process, ground_starts}
use Rattle.ground_model.proofs.Steps.{slice_get-contains}
use Rattle.bound_core.specs.declared.image.Image.{Image}
use Rattle.bound_core.proofs.Numbers.{value_rises}
use Rattle.word_table.specs.declared.view.View.{View}
use Rattle.word_table.specs.view.Views.{seen_lower, seen_upper}
use Rattle.word_table.proofs.lemmas.view.Seen.{has_state_more, more_is_later}
use Rattle.word_table.specs.Seen.{Board, Knowledge}
use Rattle.bellman_backup.specs.means.Means.{seen_value, lower_mean, upper_mean}
use Rattle.trial_workers.specs.declared.effort.Effort.{Effort}
use Rattle.trial_workers.specs.declared.effort.Solved.{Solved}
use Rattle.trial_workers.specs.declared.extent.Extent.{Extent}
use Rattle.trial_workers.specs.declared.worker.Worker.{Worker}
use Rattle.trial_workers.specs.Workers.{Stays}
use Rattle.trial_workers.specs.Crews.{AreNear, HaveStayed}
use Rattle.trial_workers.proofs.Counting.{taken_at, starts_first}
use Rattle.trial_workers.proofs.Means.{floors_rise, ceilings_rise}
use Rattle.bound_core.specs.ends.Closing.{closing_rows, HasStartsFirst, HasRowOf}
use Rattle.bound_core.specs.ends.Ends.{closing_low, closing_high}
use Rattle.plan_search.specs.declared.solver.sizes.Sizes.{Sizes}
use Rattle.plan_search.specs.solver.Rounds.{HasSolved}
use Rattle.plan_search.specs.solver.Ended.{IsEnded}
use Rattle.plan_search.specs.solver.Solved.{IsSolved}
use Rattle.plan_search.specs.solver.Laws.{FirstHasSolved, LaterHasSolved, ClosingIsSolved, closing_of}
use Rattle.plan_search.proofs.lemmas.solver.Listing.{opened_lists}
use Rattle.plan_search.proofs.lemmas.solver.Rows.{place_of}

-- ---- the pass of worker 0, and passes that have noted more

-- each pass has stayed, so there are as many
as_many : (b : Board) (os ns : List Worker) → HaveStayed b os ns → length ns ≡ length os
as_many b os ns stayed = sym (length_all_zip (λ (o n : Worker). Stays b o.pass n.pass) os ns stayed)

pub first_has_solved : FirstHasSolved
first_has_solved b effort states x [] ns solved k has made first = absurd has
first_has_solved b effort states x (o ∷ os) [] solved k has made first = absurd made.stayed
first_has_solved b effort states x (o ∷ os) (n ∷ ns) solved k has made first =
    let same : k ≡ n.pass = first n refl in
    subst (HasSolved b effort (length (o ∷ os)) states x solved) (sym same) record {
      here = (made.crew.each 0 n (omega arith)).fit.here;
      has = λ id s at. let had = has id s at in
          (made.stayed.0.noted.known id had.0, has_state_more o.pass.view n.pass.view made.stayed.0.noted id s had.1);
      trials = λ some. record {
        words = b;
        of = refl;
        crew = n ∷ ns;
        count = as_many b (o ∷ os) (n ∷ ns) made.stayed;
        is = made.crew;
        trials = made.trials some;
      };
      plain = made.plain;
      most = made.most;
      early = made.early;
      end = made.end;
      lower = made.seen.0;
      upper = made.seen.1;
    }

pub later_has_solved : LaterHasSolved
later_has_solved b effort workers states x solved k l has here more =
    let later = more_is_later k.view l.view more in record {
      here = here;
      has = λ id s at. let had = has.has id s at in (later.known id had.0, later.states id s had.1);
      trials = has.trials;
      plain = has.plain;
      most = has.most;
      early = has.early;
      end = has.end;
      lower = (let was = has.lower in let rises = floors_rise b.problem (seen_lower k.view) (seen_lower l.view) later.lower in omega arith);
      upper = (let was = has.upper in
          let falls = ceilings_rise b.problem (seen_value l.view) (seen_value k.view) (λ s. value_rises (seen_upper l.view s) (seen_upper k.view s) (later.upper s)) in omega arith);
    }

-- ---- the answer

module _ (b : Board) (v : View) (image : Image) (ended : IsEnded b v image) where
  pub low_is_narrower : lower_mean b.problem v ≤ closing_low b.problem image.rows
  low_is_narrower = floors_rise b.problem (seen_lower v) (low same_state (closing_rows image.rows)) ended.lower

  pub high_is_narrower : closing_high b.problem image.rows ≤ upper_mean b.problem v
  high_is_narrower = ceilings_rise b.problem (high (ground_process b.problem) same_state (closing_rows image.rows)) (seen_value v) ended.upper

module _ (b : Board) (sizes : Sizes) (effort : Effort) (states : List State) (extent : Extent) (listed : AreNear b.problem sizes.sweep_states states extent)
    (ids : b.layout.ids ≤ sizes.states + sizes.workers) (rights : b.most ≡ sizes.workers)
    (solved : Solved) (k : Knowledge) (has : HasSolved b effort sizes.workers states extent solved k) (image : Image) (ended : IsEnded b k.view image) where
  starts_have_rows : HasStartsFirst b.problem image.rows
  starts_have_rows place x there = ended.first states has.has place x.state
      (subst (λ l. slice_get l place ≡ Some x.state) (sym listed.first.1) (starts_first b.problem.starts listed.first.0 place x there))

  near_have_rows : (t : State) → IsNear (ground_process b.problem) (ground_starts b.problem) extent.depth t → HasRowOf image.rows t
  near_have_rows t near =
      let place = place_of (take extent.swept states) t ((listed.are t).1 near) in
      let row = ended.first states has.has place.0 t (taken_at states extent.swept place.0 t place.1).1 in
      record { row = row.row; held = slice_get-contains image.rows place.0 row.row row.here; of_state = row.of_state }

  is_solved : IsSolved b.problem sizes effort (closing_of image solved)
  is_solved =
      let lows = low_is_narrower b k.view image ended in
      let highs = high_is_narrower b k.view image ended in
      let lower = has.lower in
      let upper = has.upper in
      record {
        closing = ended.closing;
        starts = starts_have_rows;
        depth = extent.depth;
        fits = listed.fits;
        near = near_have_rows;
        few = ended.few;
        given = (let within = ended.given in omega arith);
        spares = (let spares = ended.spares in omega arith);
        rounds = has.most;
        early = has.early;
        trials = has.trials;
        low = (let reached = has.plain.lower in omega arith);
        high = (let reached = has.plain.upper in omega arith);
        end = ⊎_elim (λ near. inl (omega arith)) (λ all. inr all) has.end;
      }

pub closing_is_solved : ClosingIsSolved
closing_is_solved g sizes effort o solved k image opened has ended =
    subst (λ (p : Ground). IsSolved p sizes effort (closing_of image solved)) opened.problem
    (is_solved o.words sizes effort opened.states o.extent
    (opened_lists g sizes o opened)
    opened.room opened.rights.0 solved k has image ended)
