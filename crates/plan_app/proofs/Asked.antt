-- The parts of a request are in range.
use Rattle.std.proofs.Common.{ℕ, List, subst, inl, inr}
use Rattle.std.specs.Borrow.{Bor}
use Rattle.plan_request.specs.words.Shown.{texts_of}
use Rattle.plan_request.specs.Asked.{Sources, Solving, Merging, Walking, Drawing, Asked, to_solve, to_check, to_serve, to_ground, to_merge, to_walk, to_draw}
use Rattle.plan_request.specs.Laws.{AreTerms, IsSolving, IsInRange, RequestsAreInRange}
use Rattle.shelf_io.specs.Shelf.{Told}
use Rattle.plan_sources.specs.declared.texts.Texts.{Texts}
use Rattle.plan_app.specs.Asking.{Asks}
use Rattle.plan_app.specs.Verdicts.{TellsJudged}

module _ (law : RequestsAreInRange) (words : List (Bor (List ℕ))) where
  pub asked_range : (q : Asked) → Asks words q → IsInRange q
  asked_range q asks = law (texts_of words) q asks

  pub ground_terms : (s : Sources) → Asks words (to_ground s) → AreTerms s
  ground_terms s asks = law (texts_of words) (to_ground s) asks

  pub check_terms : (s : Sources) (name : List ℕ) → Asks words (to_check s name) → AreTerms s
  check_terms s name asks = law (texts_of words) (to_check s name) asks

  pub solve_range : (s : Solving) → Asks words (to_solve s) → IsSolving s
  solve_range s asks = law (texts_of words) (to_solve s) asks

  pub serve_range : (s : Solving) → Asks words (to_serve s) → IsSolving s
  serve_range s asks = law (texts_of words) (to_serve s) asks

  pub merge_terms : (m : Merging) → Asks words (to_merge m) → AreTerms m.sources
  merge_terms m asks = law (texts_of words) (to_merge m) asks

  pub walk_terms : (w : Walking) → Asks words (to_walk w) → AreTerms w.sources
  walk_terms w asks = (law (texts_of words) (to_walk w) asks).terms

  pub draw_terms : (d : Drawing) → Asks words (to_draw d) → AreTerms d.sources
  draw_terms d asks = (law (texts_of words) (to_draw d) asks).terms

  pub judged_terms : (held : List ℕ → Told) (s : Sources) (t : Texts) (f : List ℕ) → TellsJudged words held s t f → AreTerms s
  judged_terms held s t f (inl tells) = check_terms s tells.name tells.asks
  judged_terms held s t f (inr (inl (w, same, tells))) = subst AreTerms same (walk_terms w tells.asks)
  judged_terms held s t f (inr (inr (d, same, tells))) = subst AreTerms same (draw_terms d tells.asks)
