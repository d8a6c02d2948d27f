-- What shares of the costs come to.
--     shared share v outcomes  the sum of weight times the sum of share and value
use Rattle.std.proofs.Common.{◌≡◌, ℕ, suc, ◌+◌, ◌*◌, ◌≤◌, List, [], ◌∷◌, refl, ap, arith}
use Rattle.std.specs.Prelude.{Contains}
use Rattle.std.proofs.Math.Nat.{mul-le-mul_left}
use Rattle.plain_list.specs.weighted.Mean.{total}
use Rattle.plain_list.proofs.Members.{Contains-first, Contains-later}
use Rattle.decision_process.specs.Process.{Outcome, expected, min_with}
use Rattle.decision_process.proofs.Choice.{min_with_is_least}
use Rattle.balanced_pair.specs.layers.Layers.{Branch, Layer, WithinCosts, paid, Sees}

abbrev pub shared : {S : Type 0} → (ℕ → ℕ) → (S → ℕ) → List (Outcome S) → ℕ
shared share v [] = 0
shared share v (o ∷ outcomes) = o.weight * (share 0 + v o.next) + shared (λ i. share (suc i)) v outcomes

sum_of_shares : (w f g u v : ℕ) → w * ((f + g) + (u + v)) ≡ w * (f + u) + w * (g + v)
sum_of_shares w f g u v = grind arith

pub weight_times : (w rest value : ℕ) → (w + rest) * value ≡ w * value + rest * value
weight_times w rest value = grind arith

pub turned : (m n : ℕ) → m * n ≡ n * m
turned m n = grind arith

module _ {S : Type 0} where
  pub shared-add : (f g : ℕ → ℕ) (u v : S → ℕ) (outcomes : List (Outcome S))
      → shared (λ i. f i + g i) (λ s. u s + v s) outcomes ≡ shared f u outcomes + shared g v outcomes
  shared-add f g u v [] = refl
  shared-add f g u v (o ∷ outcomes) =
      let here : o.weight * ((f 0 + g 0) + (u o.next + v o.next)) ≡ o.weight * (f 0 + u o.next) + o.weight * (g 0 + v o.next)
      = sum_of_shares o.weight (f 0) (g 0) (u o.next) (v o.next) in
      omega (arith, here, shared-add (λ i. f (suc i)) (λ i. g (suc i)) u v outcomes)

  -- what shares within the costs pay is at most the cost
  pub shared-le_expected : (f : ℕ → ℕ) (v : S → ℕ) (outcomes : List (Outcome S)) → WithinCosts f outcomes
      → shared f v outcomes ≤ expected (λ o. o.cost + v o.next) outcomes
  shared-le_expected f v [] within = omega arith
  shared-le_expected f v (o ∷ outcomes) within =
      let here : o.weight * (f 0 + v o.next) ≤ o.weight * (o.cost + v o.next) = mul-le-mul_left o.weight (omega (arith, within.0)) in
      omega (arith, here, shared-le_expected (λ i. f (suc i)) v outcomes within.1)

  -- what doesn't change costs its layer nothing
  pub kept-le_shared : (f : ℕ → ℕ) (v : S → ℕ) (value : ℕ) (outcomes : List (Outcome S))
      → ((o : Outcome S) → Contains outcomes o → v o.next ≡ value)
      → total (λ (o : Outcome S). o.weight) outcomes * value ≤ shared f v outcomes
  kept-le_shared f v value [] kept = omega arith
  kept-le_shared f v value (o ∷ outcomes) kept =
      let here : o.weight * value ≤ o.weight * (f 0 + v o.next)
      = mul-le-mul_left o.weight (omega (arith, kept o (Contains-first o outcomes))) in
      omega (
        arith,
        here,
        weight_times o.weight (total (λ (x : Outcome S). x.weight) outcomes) value,
        kept-le_shared (λ i. f (suc i)) v value outcomes (λ x inside. kept x (Contains-later o outcomes x inside)),
      )

module _ {S A V : Type 0} (layer : Layer S A V) where
  -- what the branches pay is at most what comes
  pub paid-le_shared : (f : ℕ → ℕ) (branches : List (Branch V)) (outcomes : List (Outcome S)) → Sees layer branches outcomes
      → paid layer f branches ≤ shared f (λ s. layer.low (layer.project s)) outcomes
  paid-le_shared f [] [] sees = omega arith
  paid-le_shared f [] (o ∷ outcomes) sees = absurd sees
  paid-le_shared f (b ∷ branches) [] sees = absurd sees
  paid-le_shared f (b ∷ branches) (o ∷ outcomes) sees =
      let least : min_with layer.penalty layer.low b.nexts ≤ layer.low (layer.project o.next)
      = (min_with_is_least layer.penalty layer.low b.nexts).within_each (layer.project o.next) sees.1 in
      let here : b.weight * (f 0 + min_with layer.penalty layer.low b.nexts) ≤ b.weight * (f 0 + layer.low (layer.project o.next))
      = mul-le-mul_left b.weight (omega (arith, least)) in
      let weight : b.weight * (f 0 + layer.low (layer.project o.next)) ≡ o.weight * (f 0 + layer.low (layer.project o.next))
      = ap (λ w. w * (f 0 + layer.low (layer.project o.next))) sees.0 in
      omega (arith, here, weight, paid-le_shared (λ i. f (suc i)) branches outcomes sees.2)
