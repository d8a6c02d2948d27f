-- The sums of layers' values follow from those of the next states.
use Rattle.std.proofs.Common.{◌≡◌, ◌⊎◌, ℕ, zero, suc, ◌*◌, ◌<◌, ◌≤◌, max, true, false, List, [], ◌∷◌, refl, ap, inl, inr, ◌∙◌, arith}
use Rattle.std.specs.Prelude.{Contains}
use Rattle.std.proofs.lemmas.Bool.{cases_Bool}
use Rattle.plain_list.specs.weighted.Mean.{total}
use Rattle.plain_list.proofs.Members.{Contains-first, Contains-later}
use Rattle.plain_list.proofs.lemmas.weighted.Totals.{total-le}
use Rattle.decision_process.specs.Process.{Process, Outcome, HasDenominator}
use Rattle.decision_process.proofs.Backups.{lower_still_follows}
use Rattle.balanced_pair.specs.layers.Layers.{Layer, IsSeen, IsProjection, IsLayer, group_low, layers_low}
use Rattle.balanced_pair.specs.layers.Laws as laws
use Rattle.balanced_pair.proofs.Halves.{greater_follows, zero_follows}
use Rattle.balanced_pair.proofs.lemmas.layers.Shares.{shared, shared-add, shared-le_expected, kept-le_shared, paid-le_shared, weight_times, turned}

zero_or_positive : (n : ℕ) → (n ≡ 0) ⊎ (0 < n)
zero_or_positive zero = inl refl
zero_or_positive (suc n) = inr (omega arith)

module _ {S A V : Type 0} (p : Process S A) (whole : HasDenominator p) where
  module _ (layer : Layer S A V) (projection : IsProjection p layer) (rows : IsLayer p layer) where
    -- the value of a layer follows with its share of the costs
    open_step : (a : A) (s : S) → 0 < layer.low (layer.project s) → p.goal s ≡ false → Contains (p.choices s) a → layer.may_end (layer.project s) ≡ false
        → layer.low (layer.project s) * p.den ≤ shared (layer.share a) (λ t. layer.low (layer.project t)) (p.step a s)
    open_step a s positive off is_open closed =
        let seen : IsSeen p layer a s = projection.actions a s positive off is_open in
        elim (cases_Bool (layer.touches a)) [
          | inl on ↦
              omega (
                arith,
                rows.within_step a (layer.project s) closed (seen.opens) on,
                paid-le_shared layer (layer.share a) (layer.branches a (layer.project s)) (p.step a s) (seen.sees on),
              )
          | inr still ↦
              let kept : total (λ (o : Outcome S). o.weight) (p.step a s) * layer.low (layer.project s)
              ≤ shared (layer.share a) (λ t. layer.low (layer.project t)) (p.step a s)
              = kept-le_shared (layer.share a) (λ t. layer.low (layer.project t)) (layer.low (layer.project s)) (p.step a s)
              (λ o inside. ap layer.low (seen.leaves still o inside)) in
              let den : total (λ (o : Outcome S). o.weight) (p.step a s) * layer.low (layer.project s) ≡ layer.low (layer.project s) * p.den
              = ap (λ d. d * layer.low (layer.project s)) (whole a s is_open) ∙ turned p.den (layer.low (layer.project s)) in
              omega (arith, kept, den)
        ]

    layer_step : (a : A) (s : S) → p.goal s ≡ false → Contains (p.choices s) a
        → layer.low (layer.project s) * p.den ≤ shared (layer.share a) (λ t. layer.low (layer.project t)) (p.step a s)
    layer_step a s off is_open = elim (zero_or_positive (layer.low (layer.project s))) [
      | inl none ↦
          let times : layer.low (layer.project s) * p.den ≡ 0 = ap (λ n. n * p.den) none ∙ omega arith in
          omega (arith, times)
      | inr positive ↦ elim (cases_Bool (layer.may_end (layer.project s))) [
        | inl on ↦ absurd (omega (arith, positive, rows.at_goal (layer.project s) on))
        | inr closed ↦ open_step a s positive off is_open closed
      ]
    ]

  group_step : (layers : List (Layer S A V)) → ((layer : Layer S A V) → Contains layers layer → IsProjection p layer)
      → ((layer : Layer S A V) → Contains layers layer → IsLayer p layer)
      → (a : A) (s : S) → p.goal s ≡ false → Contains (p.choices s) a
      → group_low p layers s * p.den ≤ shared (λ i. total (λ (layer : Layer S A V). layer.share a i) layers) (group_low p layers) (p.step a s)
  group_step [] projections rows a s off is_open = omega arith
  group_step (layer ∷ layers) projections rows a s off is_open =
      let first : layer.low (layer.project s) * p.den ≤ shared (layer.share a) (λ t. layer.low (layer.project t)) (p.step a s)
      = layer_step layer (projections layer (Contains-first layer layers)) (rows layer (Contains-first layer layers)) a s off is_open in
      let rest : group_low p layers s * p.den
      ≤ shared (λ i. total (λ (l : Layer S A V). l.share a i) layers) (group_low p layers) (p.step a s)
      = group_step layers (λ l inside. projections l (Contains-later layer layers l inside))
      (λ l inside. rows l (Contains-later layer layers l inside)) a s off is_open in
      omega (
        arith,
        first,
        rest,
        weight_times (layer.low (layer.project s)) (group_low p layers s) p.den,
        shared-add (layer.share a) (λ i. total (λ (l : Layer S A V). l.share a i) layers)
            (λ t. layer.low (layer.project t)) (group_low p layers) (p.step a s),
      )

  group_at_goal : (layers : List (Layer S A V)) → ((layer : Layer S A V) → Contains layers layer → IsProjection p layer)
      → ((layer : Layer S A V) → Contains layers layer → IsLayer p layer)
      → (s : S) → p.goal s ≡ true → group_low p layers s ≡ 0
  group_at_goal [] projections rows s on = refl
  group_at_goal (layer ∷ layers) projections rows s on =
      let first : layer.low (layer.project s) ≡ 0
      = (rows layer (Contains-first layer layers)).at_goal (layer.project s)
      ((projections layer (Contains-first layer layers)).goals s on) in
      let rest : group_low p layers s ≡ 0
      = group_at_goal layers (λ l inside. projections l (Contains-later layer layers l inside))
      (λ l inside. rows l (Contains-later layer layers l inside)) s on in
      omega (arith, first, rest)

module _ {S A : Type 0} (p : Process S A) where
  pub greater_is_sub_solution : laws.GreaterIsSubSolution p
  greater_is_sub_solution low other lower lower' s =
      greater_follows p (λ t. max (low t) (other t)) s (low s) (other s)
      (lower_still_follows p low (λ t. max (low t) (other t)) s (low s) (lower s) (λ _ a _ o _. omega arith))
      (lower_still_follows p other (λ t. max (low t) (other t)) s (other s) (lower' s) (λ _ a _ o _. omega arith))

module _ {S A V : Type 0} (p : Process S A) where
  pub group_is_sub_solution : laws.GroupIsSubSolution V p
  group_is_sub_solution whole layers group s = record {
    at_goal = group_at_goal p whole layers group.is_projection group.is_layer s;
    within_quit = λ off.
        let each : group_low p layers s ≤ total (λ (layer : Layer S A V). layer.penalty) layers
        = total-le (λ (layer : Layer S A V). layer.low (layer.project s)) (λ layer. layer.penalty) layers
        (λ layer inside. (group.is_layer layer inside).within_penalty (layer.project s)) in
        omega (arith, each, group.penalties);
    within_step = λ a off is_open.
        omega (
          arith,
          group_step p whole layers group.is_projection group.is_layer a s off is_open,
          shared-le_expected (λ i. total (λ (layer : Layer S A V). layer.share a i) layers) (group_low p layers) (p.step a s)
              (group.shares a s off is_open),
        );
  }

  pub layers_are_sub_solution : laws.LayersAreSubSolution V p
  layers_are_sub_solution whole [] each s = zero_follows p (λ t. 0) s
  layers_are_sub_solution whole (group ∷ groups) each s =
      greater_is_sub_solution p (group_low p group) (layers_low p groups)
      (group_is_sub_solution whole group (each group (Contains-first group groups)))
      (layers_are_sub_solution whole groups (λ g inside. each g (Contains-later group groups g inside))) s
