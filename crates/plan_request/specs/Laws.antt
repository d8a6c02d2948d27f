-- What holds of every request, as statements.
--     AreTerms s, IsEffort e, AreSizes s       the numbers are in their ranges
--     IsSolving s, IsMerging m, IsWalking w, IsDrawing d
--                                              so are all of what a command asks for
--     IsInRange q                              so are all of the request
--     RequestsAreInRange                       every request is so
use Rattle.std.specs.Prelude.{◌≡◌, ℕ, ◌<◌, ◌≤◌, ◌^◌, List, Some, IfSome}
use Rattle.plan_request.specs.words.Words.{Text}
use Rattle.plan_request.specs.declared.effort.Effort.{Effort}
use Rattle.plan_request.specs.declared.sizes.Sizes.{Sizes}
use Rattle.plan_request.specs.Asked.{Sources, Solving, Merging, Walking, Drawing, Asked, to_solve, to_check, to_serve, to_ground, to_bench, to_merge, to_walk, to_draw, request_of}

abbrev pub IsBetween : ℕ → ℕ → ℕ → Type 0
IsBetween least most n = (least ≤ n) × (n ≤ most)

pub record AreTerms (s : Sources) : Type 0 where
  pub penalty : IfSome s.penalty (IsBetween 1 (10 ^ 14))
  pub step_cost : s.step_cost ≤ 10 ^ 12

pub record IsEffort (e : Effort) : Type 0 where
  pub gap : e.gap ≤ 10 ^ 14
  pub rounds : e.rounds ≤ 100000
  pub trials : e.trials ≤ 4096
  pub depth : IsBetween 1 10000 e.depth
  pub tau : IsBetween 1 1000 e.tau
  pub seed : e.seed < 2 ^ 64

pub record AreSizes (s : Sizes) : Type 0 where
  pub workers : IsBetween 1 16 s.workers
  pub states : IsBetween 65 262144 s.states
  pub least_swept : 64 ≤ s.sweep_states
  pub fewer_swept : s.sweep_states < s.states

pub record IsSolving (s : Solving) : Type 0 where
  pub terms : AreTerms s.sources
  pub effort : IsEffort s.effort
  pub sizes : AreSizes s.sizes

abbrev pub IsMerging : Merging → Type 0
IsMerging m = AreTerms m.sources

pub record IsWalking (w : Walking) : Type 0 where
  pub terms : AreTerms w.sources
  pub seed : w.seed < 2 ^ 64
  pub walks : IsBetween 1 100 w.walks
  pub steps : IsBetween 1 10000 w.steps

pub record IsDrawing (d : Drawing) : Type 0 where
  pub terms : AreTerms d.sources
  pub states : IsBetween 1 10000 d.states

abbrev pub IsInRange : Asked → Type 0
IsInRange (to_solve s) = IsSolving s
IsInRange (to_check s f) = AreTerms s
IsInRange (to_serve s) = IsSolving s
IsInRange (to_ground s) = AreTerms s
IsInRange (to_bench places seed) = IsBetween 2 1000 places × (seed < 2 ^ 64)
IsInRange (to_merge m) = IsMerging m
IsInRange (to_walk w) = IsWalking w
IsInRange (to_draw d) = IsDrawing d

abbrev pub RequestsAreInRange : Type 0
RequestsAreInRange = (words : List Text) (q : Asked) → request_of words ≡ Some q → IsInRange q
