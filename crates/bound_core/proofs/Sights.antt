-- The sights of a core, worker by worker.
use Rattle.std.proofs.Common.{◌≡◌, ◌≢◌, ℕ, suc, zero, ◌<◌, true, false, List, [], ◌∷◌, ◌++◌, length, sym, ap, inl, inr, ◌∙◌}
use Rattle.std.specs.Prelude.{get_or, slice_set}
use Rattle.std.proofs.lemmas.List.{get_or_past, get_or-set_same, get_or-set_other}
use Rattle.std.proofs.lemmas.Bool.{cases_lt}
use Rattle.ground_model.specs.Ground.{Ground}
use Rattle.bound_core.specs.Core.{Sight, Core, ended, sight_at, IsLive}

-- what holds of each sight still does once one that meets it is in the place of another
pub set_each : (P : Sight → Type 0) (ws : List Sight) (k : ℕ) (w d : Sight) → P w → ((j : ℕ) → P (get_or ws j d))
    → (j : ℕ) → P (get_or (slice_set ws k w) j d)
set_each P [] k w d here each j = each j
set_each P (v ∷ vs) zero w d here each zero = here
set_each P (v ∷ vs) zero w d here each (suc j) = each (suc j)
set_each P (v ∷ vs) (suc k) w d here each zero = each zero
set_each P (v ∷ vs) (suc k) w d here each (suc j) = set_each P vs k w d here (λ i. each (suc i)) j

pub push_each : (P : Sight → Type 0) (ws : List Sight) (w d : Sight) → P w → P d → ((j : ℕ) → P (get_or ws j d))
    → (j : ℕ) → P (get_or (ws ++ w ∷ []) j d)
push_each P [] w d here past each zero = here
push_each P [] w d here past each (suc j) = past
push_each P (v ∷ vs) w d here past each zero = each zero
push_each P (v ∷ vs) w d here past each (suc j) = push_each P vs w d here past (λ i. each (suc i)) j

-- the sights before and after are related where the one that changed is to what it was
pub set_relates : (Q : Sight → Sight → Type 0) → ((v : Sight) → Q v v) → (ws : List Sight) (k : ℕ) (w d : Sight)
    → Q (get_or ws k d) w → (j : ℕ) → Q (get_or ws j d) (get_or (slice_set ws k w) j d)
set_relates Q same [] k w d here j = same d
set_relates Q same (v ∷ vs) zero w d here zero = here
set_relates Q same (v ∷ vs) zero w d here (suc j) = same (get_or vs j d)
set_relates Q same (v ∷ vs) (suc k) w d here zero = same v
set_relates Q same (v ∷ vs) (suc k) w d here (suc j) = set_relates Q same vs k w d here j

pub push_relates : (Q : Sight → Sight → Type 0) → ((v : Sight) → Q v v) → (ws : List Sight) (w d : Sight) → Q d w
    → (j : ℕ) → Q (get_or ws j d) (get_or (ws ++ w ∷ []) j d)
push_relates Q same [] w d here zero = here
push_relates Q same [] w d here (suc j) = same d
push_relates Q same (v ∷ vs) w d here zero = same v
push_relates Q same (v ∷ vs) w d here (suc j) = push_relates Q same vs w d here j

module _ (g : Ground) (c : Core) where
  -- a worker that lives is one of the workers
  pub live_is_there : (k : ℕ) → IsLive g c k → k < length c.workers
  live_is_there k live = elim (cases_lt k (length c.workers)) [
    | inl below ↦ below
    | inr past ↦
        let gone : false ≡ true = ap (λ (w : Sight). w.live) (sym (get_or_past c.workers k (ended g) past)) ∙ live in
        absurd cc
  ]

  pub set_sight : (k : ℕ) (w : Sight) → IsLive g c k → get_or (slice_set c.workers k w) k (ended g) ≡ w
  set_sight k w live = get_or-set_same c.workers k w (ended g) (live_is_there k live)

  pub other_sight : (k : ℕ) (w : Sight) (j : ℕ) → j ≢ k → get_or (slice_set c.workers k w) j (ended g) ≡ sight_at g c j
  other_sight k w j apart = get_or-set_other c.workers k j w (ended g) apart
