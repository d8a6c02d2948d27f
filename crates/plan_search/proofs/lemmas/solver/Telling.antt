-- From what a watcher was told of rounds to what it was told of a search.
use Rattle.std.proofs.Common.{◌≡◌, ◌+◌, ◌≤◌, ◌∙◌, List, [], Result, Ok, Err, refl, subst, arith}
use Rattle.std.specs.Prelude.{IfOk, AllPairs}
use Rattle.ground_model.specs.Packed.{State}
use Rattle.ground_model.specs.Ground.{Ground}
use Rattle.bound_core.specs.declared.image.Image.{Image}
use Rattle.word_table.specs.Seen.{Board, Knowledge}
use Rattle.trial_workers.specs.declared.effort.Effort as workers
use Rattle.trial_workers.specs.declared.effort.Solved.{Solved}
use Rattle.trial_workers.specs.declared.extent.Extent.{Extent}
use Rattle.trial_workers.specs.declared.reading.Reading.{Reading}
use Rattle.trial_workers.specs.Crews.{AreNear}
use Rattle.trial_workers.specs.Watching.{Encloses, IsBefore, AreTold}
use Rattle.trial_workers.proofs.Watching.{still_told}
use Rattle.plan_request.specs.declared.effort.Effort.{Effort}
use Rattle.plan_request.specs.declared.sizes.Sizes as request
use Rattle.plan_request.specs.declared.stop.Stop.{Stop}
use Rattle.plan_search.specs.declared.answer.Answer.{Answer}
use Rattle.plan_search.specs.declared.solver.closing.Closing.{Closing}
use Rattle.plan_search.specs.declared.solver.opening.Opening.{Opening}
use Rattle.plan_search.specs.declared.solver.sizes.Sizes.{Sizes}
use Rattle.plan_search.specs.solver.Opened.{IsOpened}
use Rattle.plan_search.specs.solver.Rounds.{HasSolved}
use Rattle.plan_search.specs.solver.Ended.{IsEnded}
use Rattle.plan_search.specs.solver.Laws.{closing_of}
use Rattle.plan_search.specs.solver.Told.{ends_of, AreToldOf}
use Rattle.plan_search.specs.Found.{IsFound}
use Rattle.plan_search.specs.Solving.{solver_sizes, told_of, IsAnswerLeft}
use Rattle.plan_search.specs.Telling.{IsWrittenOf, AreToldBefore}
use Rattle.plan_search.proofs.lemmas.solver.Listing.{opened_lists}
use Rattle.plan_search.proofs.lemmas.solver.Answering.{low_is_narrower, high_is_narrower}

pub none_rise : AllPairs IsBefore []
none_rise = λ i j d before below. absurd (omega arith)

module _ (b : Board) (sizes : Sizes) (states : List State) (extent : Extent) (listed : AreNear b.problem sizes.sweep_states states extent)
    (ids : b.layout.ids ≤ sizes.states + sizes.workers) (effort : workers.Effort) (solved : Solved) (k : Knowledge)
    (has : HasSolved b effort sizes.workers states extent solved k) (image : Image) (ended : IsEnded b k.view image) (rs : List Reading)
    (told : AreTold b.problem b.layout.ids extent.depth solved rs) where
  encloses : Encloses solved (ends_of b.problem (closing_of image solved))
  encloses = record {
    lower = (let seen = has.lower in let kept = low_is_narrower b k.view image ended in omega arith);
    upper = (let seen = has.upper in let kept = high_is_narrower b k.view image ended in omega arith);
  }

  are_told : AreToldOf b.problem sizes (closing_of image solved) rs
  are_told = record {
    depth = extent.depth;
    fits = listed.fits;
    told = still_told b.problem b.layout.ids extent.depth (sizes.states + sizes.workers) ids solved (ends_of b.problem (closing_of image solved)) refl encloses rs told;
  }

pub told_of_closing : (g : Ground) (sizes : Sizes) (effort : workers.Effort) (o : Opening) (solved : Solved) (k : Knowledge) (image : Image)
    → (opened : IsOpened g sizes o) → HasSolved o.words effort sizes.workers opened.states o.extent solved k → IsEnded o.words k.view image
    → (rs : List Reading) → AreTold o.words.problem o.words.layout.ids o.extent.depth solved rs → AreToldOf g sizes (closing_of image solved) rs
told_of_closing g sizes effort o solved k image opened has ended rs told =
    subst (λ (p : Ground). AreToldOf p sizes (closing_of image solved) rs) opened.problem
    (are_told o.words sizes opened.states o.extent (opened_lists g sizes o opened) opened.room effort solved k has image ended rs told)

-- ---- the answer

module _ (g : Ground) (effort : Effort) (sizes : request.Sizes) (left : Closing) where
  -- the report is free
  pub written_of : (a b : Answer) → b.certificate ≡ a.certificate → IsAnswerLeft g effort sizes left a → IsWrittenOf g effort sizes left b
  written_of a b same is = record {
    content = is.is_answer.content;
    found = subst (IsFound g effort sizes is.is_answer.content) is.same is.is_answer.found;
    text = same ∙ is.is_answer.text;
  }

  module _ (rs : List Reading) (told : AreToldOf g (solver_sizes sizes) left rs) where
    told_before : (a : Answer) → IsWrittenOf g effort sizes left a → AreToldBefore g effort sizes a rs
    told_before a is = record {
      content = is.content;
      solved = told_of g effort sizes left;
      found = is.found;
      text = is.text;
      depth = told.depth;
      fits = told.fits;
      told = told.told;
    }

    pub told_before_answer : (r : Result Answer Stop) → IfOk r (IsWrittenOf g effort sizes left) → IfOk r (λ a. AreToldBefore g effort sizes a rs)
    told_before_answer (Ok a) is = told_before a is
    told_before_answer (Err stop) is = tt
