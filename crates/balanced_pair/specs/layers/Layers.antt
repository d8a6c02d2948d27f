-- Layers: lower values of the states of a projection, each layer with a share of the costs.
-- A projected state stands for many states. The outcomes of an action are a list; a layer sees of each which projected states may come.
--     Branch V                 an outcome as a layer sees it: its weight, and the projected states that may come
--     Layer S A V              the projection; the lower value of a projected state, 0 without a row; the layer's own penalty;
--                              the projected states that may be of goals; the actions that may be open in one; the actions that touch it;
--                              the branches of an action; the share in the cost of the i-th outcome of an action
--     paid layer share branches
--                              the sum of weight times the sum of share and least lower value that may come
--     Sees layer branches outcomes
--                              there is one branch for each outcome, of its weight, with the projection of its next state
--     IsProjection p layer     goals may be goals; and where the value is not 0, open actions may be open, an action that does not touch
--                              the layer leaves the projected state, and one that does is seen by its branches
--     IsLayer p layer          a value is within the layer's penalty, 0 where a goal may be, and at most what each action pays that may
--                              be open there and touches it
--     WithinCosts share outcomes
--                              each share is at most the cost of its outcome
--     IsGroup p layers         each is a layer of a projection; the penalties sum to at most the penalty, and the shares to at most the
--                              cost (an additive cost partitioning)
--     group_low layers s       the sum of the layers' values
--     layers_low groups s      the greatest sum of a group
-- Source: projections with a table of values (pattern databases: Edelkamp 2001; of stochastic shortest path problems: Klößner and Hoffmann
-- 2021); sums of heuristics that share the costs of actions (Haslum, Bonet and Geffner 2005; Katz and Domshlak 2010).
use Rattle.std.specs.Prelude.{◌≡◌, ℕ, suc, ◌+◌, ◌*◌, ◌<◌, ◌≤◌, max, Bool, true, false, List, [], ◌∷◌, Contains}
use Rattle.plain_list.specs.weighted.Mean.{total}
use Rattle.decision_process.specs.Process.{Process, Outcome, min_with}

pub record Branch (V : Type 0) : Type 0 where
  pub weight : ℕ
  pub nexts : List V

pub record Layer (S A V : Type 0) : Type 0 where
  pub project : S → V
  pub low : V → ℕ
  pub penalty : ℕ
  pub may_end : V → Bool
  pub may_open : A → V → Bool
  pub touches : A → Bool
  pub branches : A → V → List (Branch V)
  pub share : A → ℕ → ℕ

abbrev pub WithinCosts : {S : Type 0} → (ℕ → ℕ) → List (Outcome S) → Type 0
WithinCosts share [] = Unit {0}
WithinCosts share (o ∷ outcomes) =
    (share 0 ≤ o.cost) × WithinCosts (λ i. share (suc i)) outcomes

module _ {S A V : Type 0} (layer : Layer S A V) where
  abbrev pub paid : (ℕ → ℕ) → List (Branch V) → ℕ
  paid share [] = 0
  paid share (b ∷ branches) =
      b.weight * (share 0 + min_with layer.penalty layer.low b.nexts)
      + paid (λ i. share (suc i)) branches

  abbrev pub Sees : List (Branch V) → List (Outcome S) → Type 0
  Sees [] [] = Unit {0}
  Sees [] (o ∷ outcomes) = ⊥
  Sees (b ∷ branches) [] = ⊥
  Sees (b ∷ branches) (o ∷ outcomes) =
      (b.weight ≡ o.weight) × Contains b.nexts (layer.project o.next) × Sees branches outcomes

module _ {S A V : Type 0} (p : Process S A) where
  -- what a layer sees of an action in a state
  pub record IsSeen (layer : Layer S A V) (a : A) (s : S) : Type 0 where
    pub opens : layer.may_open a (layer.project s) ≡ true
    pub leaves : layer.touches a ≡ false → (o : Outcome S) → Contains (p.step a s) o
        → layer.project o.next ≡ layer.project s
    pub sees : layer.touches a ≡ true
        → Sees layer (layer.branches a (layer.project s)) (p.step a s)

  pub record IsProjection (layer : Layer S A V) : Type 0 where
    pub goals : (s : S) → p.goal s ≡ true → layer.may_end (layer.project s) ≡ true
    pub actions : (a : A) (s : S) → 0 < layer.low (layer.project s) → p.goal s ≡ false
        → Contains (p.choices s) a → IsSeen layer a s

  pub record IsLayer (layer : Layer S A V) : Type 0 where
    pub within_penalty : (v : V) → layer.low v ≤ layer.penalty
    pub at_goal : (v : V) → layer.may_end v ≡ true → layer.low v ≡ 0
    pub within_step : (a : A) (v : V) → layer.may_end v ≡ false
        → layer.may_open a v ≡ true → layer.touches a ≡ true
        → layer.low v * p.den ≤ paid layer (layer.share a) (layer.branches a v)

  abbrev pub group_low : List (Layer S A V) → S → ℕ
  group_low layers s = total (λ layer. layer.low (layer.project s)) layers

  pub record IsGroup (layers : List (Layer S A V)) : Type 0 where
    pub is_projection : (layer : Layer S A V) → Contains layers layer → IsProjection layer
    pub is_layer : (layer : Layer S A V) → Contains layers layer → IsLayer layer
    pub penalties : total (λ layer. layer.penalty) layers ≤ p.penalty
    pub shares : (a : A) (s : S) → p.goal s ≡ false → Contains (p.choices s) a
        → WithinCosts (λ i. total (λ layer. layer.share a i) layers) (p.step a s)

  abbrev pub layers_low : List (List (Layer S A V)) → S → ℕ
  layers_low [] s = 0
  layers_low (group ∷ groups) s = max (group_low group s) (layers_low groups s)
