-- What the server's lines told is kept, once its pass is joined.
use Rattle.std.proofs.Common.{◌≡◌, ℕ, ◌≤◌, List, take, sym, ◌∙◌, subst, arith}
use Rattle.fixed_round.specs.Words.{value_of}
use Rattle.ground_model.specs.Packed.{State}
use Rattle.ground_model.specs.Ground.{Ground}
use Rattle.ground_model.specs.Steps.{ground_process, ground_starts}
use Rattle.bound_core.specs.declared.image.Image.{Image}
use Rattle.bound_core.specs.Numbers.{first_word}
use Rattle.bound_core.proofs.Numbers.{value_rises}
use Rattle.word_table.specs.declared.view.View.{View}
use Rattle.word_table.specs.view.Views.{has_state, seen_upper}
use Rattle.word_table.specs.view.Laws.{HasMore}
use Rattle.word_table.proofs.lemmas.view.Seen.{least_first, more_is_later}
use Rattle.word_table.specs.Seen.{Board, Knowledge}
use Rattle.bound_words.specs.declared.bounds.Interval.{Interval}
use Rattle.bound_words.specs.Intervals.{word_in}
use Rattle.bound_core.specs.ends.Closing.{closing_rows}
use Rattle.trial_workers.specs.declared.extent.Extent.{Extent}
use Rattle.trial_workers.specs.Workers.{HasListed}
use Rattle.trial_workers.specs.Crews.{AreNear}
use Rattle.trial_workers.proofs.Counting.{taken_at}
use Rattle.plan_search.specs.solver.Ended.{IsEnded}
use Rattle.plan_search.proofs.lemmas.solver.Rows.{place_of}
use Rattle.policy_server.specs.declared.served.Served.{Served}
use Rattle.policy_server.specs.Replies.{Reply, NoQuery, NoAtom, Unvisited, Found, IsUnvisited, IsFound, IsTold}
use Rattle.policy_server.proofs.Runs.{all_weaker}
use Rattle.plan_search.specs.service.Served.{Streams, IsSoundInterval, IsFar, IsSound, IsWithin, IsKept, HasServed, IsServed, WasServed}
use Rattle.plan_search.specs.service.Beside.{HasRun}

-- of a view that has the listed states
module _ (g : Ground) (swept : ℕ) (states : List State) (x : Extent) (listed : AreNear g swept states x)
    (v w : View) (of : v.problem ≡ g) (has : HasListed states v) where
  unvisited_is_far : (s : State) → IsUnvisited v s w → IsFar (ground_process g) (ground_starts g) swept s
  unvisited_is_far s told = record {
    depth = x.depth;
    fits = listed.fits;
    far = λ near.
        let place = place_of (take x.swept states) s ((listed.are s).1 near) in
        told.none place.0 (has place.0 s (taken_at states x.swept place.0 s place.1).1).1;
  }

  found_is_sound : (s : State) (id : ℕ) (i : Interval) → IsFound g v s id i w → IsSoundInterval g s i
  found_is_sound s id i told =
      let first : seen_upper v s ≤ first_word g s =
      subst (λ p. seen_upper v s ≤ first_word p s) of (least_first (λ n. has_state v n s) (first_word v.problem s) v.upper) in record {
        is_code = told.is_code;
        ordered = told.ordered;
        within_quit = told.within_quit;
        within_first = (let since = told.upper_since in omega arith);
        covers = told.covers;
        worth = told.worth;
      }

  told_is_sound : (r : Reply) → IsTold g v w r → IsSound g swept r
  told_is_sound NoQuery told = tt
  told_is_sound NoAtom told = tt
  told_is_sound (Unvisited s) told = unvisited_is_far s told
  told_is_sound (Found s id i) told = found_is_sound s id i told

module _ (b : Board) (v w l : View) (more : HasMore w l) (image : Image) (ended : IsEnded b l image) where
  found_is_within : (s : State) (id : ℕ) (i : Interval) → IsFound b.problem v s id i w → IsWithin b.problem (closing_rows image.rows) s i
  found_is_within s id i found =
      let later = more_is_later w l more in record {
        lower = (let told = found.lower_until in let seen = later.lower s in let kept = ended.lower s in omega arith);
        upper = (
            let word : seen_upper l s ≤ word_in i = (let told = found.upper_until in let seen = later.upper s in omega arith) in
            let value = value_rises (seen_upper l s) (word_in i) word in
            let small = found.is_code in let own : value_of (word_in i) ≡ i.upper = omega arith in
            let kept = ended.upper s in omega arith);
      }

  told_is_kept : (r : Reply) → IsTold b.problem v w r → IsKept b.problem (closing_rows image.rows) r
  told_is_kept NoQuery told = tt
  told_is_kept NoAtom told = tt
  told_is_kept (Unvisited s) told = tt
  told_is_kept (Found s id i) told = found_is_within s id i told

module _ (b : Board) (k l : Knowledge) (old new : Streams) (served : Served) (ran : HasRun b k l old new served)
    (swept : ℕ) (states : List State) (x : Extent) (listed : AreNear b.problem swept states x) (has_listed : HasListed states k.view) where
  pub has_served : HasServed b.problem swept old new served ran.run.replies
  has_served = record {
    answered = ran.run.answered;
    faults = ran.faults;
    in_turn = ran.run.serves.in_turn;
    sound = (
        let serves = ran.run.serves in
        let of : k.view.problem ≡ b.problem = sym serves.noted.problem ∙ serves.here.view.problem in
        all_weaker (IsTold b.problem k.view l.view) (IsSound b.problem swept)
        (told_is_sound b.problem swept states x listed k.view l.view of has_listed) ran.run.replies serves.told);
  }

  pub was_served : (g : Ground) → b.problem ≡ g → WasServed g swept old new
  was_served g of = subst (λ (p : Ground). WasServed p swept old new) of (record { served = served; replies = ran.run.replies; has = has_served })

  pub is_served : (g : Ground) → b.problem ≡ g → (m : Knowledge) → HasMore l.view m.view → (image : Image) → IsEnded b m.view image
      → IsServed g swept (closing_rows image.rows) old new served
  is_served g of m more image ended = subst (λ (p : Ground). IsServed p swept (closing_rows image.rows) old new served) of record {
    replies = ran.run.replies;
    has = has_served;
    kept = all_weaker (IsTold b.problem k.view l.view) (IsKept b.problem (closing_rows image.rows))
        (told_is_kept b k.view l.view m.view more image ended) ran.run.replies ran.run.serves.told;
  }
