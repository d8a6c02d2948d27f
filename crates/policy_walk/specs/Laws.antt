-- The laws of walks, as statements.
--     FirstAboveIsFirst      what a draw gives is the item at the first place whose running sum is above its rest, as in a trial
--     WalksAreRuns           each walk of a ground problem is a run of its process under the policy, whatever is drawn
--     RunsAreCarried         a run of a process is one of that for which it stands, under the policy for which its own stands
--     ActsAreCarried         what certificates do in a valid state, and in that for which it stands, is the same, where they say the
--                            same row by row
use Rattle.std.specs.Prelude.{◌≡◌, ℕ, ◌<◌, Bool, Option, List, map}
use Rattle.std.specs.List.{slice_get}
use Rattle.plain_list.specs.weighted.Chances.{IsExact}
use Rattle.plain_list.specs.weighted.Mean.{total}
use Rattle.brtdp_trial.specs.Draws.{IsFirstAbove}
use Rattle.decision_process.specs.Process.{Process, Start}
use Rattle.decision_process.specs.Policies.{IsPolicy}
use Rattle.decision_process.specs.Readings.{Certificate, act}
use Rattle.decision_process.specs.homomorphism.Homomorphism.{Mapping, IsValid, IsHomomorphism, AreStartsOf, IsInverse, IsActOf, IsPolicyOf}
use Rattle.decision_process.specs.homomorphism.Counterparts.{IsCertificateOf}
use Rattle.ground_model.specs.Ground.{Ground}
use Rattle.ground_model.specs.Invariant.{IsGroundProblem}
use Rattle.ground_model.specs.Steps.{ground_process, ground_starts}
use Rattle.policy_walk.specs.declared.ends.Walk.{Walk}
use Rattle.policy_walk.specs.Policies.{Policy}
use Rattle.policy_walk.specs.Walks.{first_above, walk}
use Rattle.policy_walk.specs.Runs.{IsRunOf}

abbrev pub FirstAboveIsFirst : Type 0 → Type 0
FirstAboveIsFirst X = (w : X → ℕ) (items : List X) (r : ℕ) → r < total w items
    → (i : ℕ) × IsFirstAbove (map w items) r i × (first_above w items r ≡ slice_get items i)

abbrev pub WalksAreRuns : Type 0
WalksAreRuns = (g : Ground) → IsGroundProblem g → (policy : Policy) → IsPolicy (ground_process g) policy
    → (draw : ℕ → ℕ) (most : ℕ)
    → IsRunOf (ground_process g) (ground_starts g) policy most (walk g policy draw most)

module _ (S T A B : Type 0) where
  abbrev pub RunsAreCarried : Type 0
  RunsAreCarried = (p : Process S A) (q : Process T B) (m : Mapping S T A B)
      → IsHomomorphism p q m
      → (same : T → T → Bool) → IsExact same
      → (starts : List (Start S)) (den : ℕ) (starts' : List (Start T)) (den' : ℕ)
      → AreStartsOf m starts den starts' den'
      → (policy : S → Option A) (policy' : T → Option B) → IsPolicyOf p m policy policy'
      → (most : ℕ) (walk : Walk)
      → IsRunOf p starts policy most walk → IsRunOf q starts' policy' most walk

  abbrev pub ActsAreCarried : Type 0
  ActsAreCarried = (m : Mapping S T A B)
      → (same : S → S → Bool) → IsExact same → (same' : T → T → Bool) → IsExact same'
      → (back : T → S) → IsInverse m back
      → (c : Certificate S A) (c' : Certificate T B) → IsCertificateOf m c c'
      → (s : S) → IsValid m s → IsActOf m (act same c.rows s) (act same' c'.rows (m.state s))
