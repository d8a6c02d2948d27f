-- The weights of the starts.
use Rattle.std.proofs.Common.{◌≡◌, ℕ, ◌+◌, ◌<◌, ◌≤◌, ◌^◌, List, [], ◌∷◌, map, refl, ap, ◌∙◌, arith}
use Rattle.std.specs.Prelude.{All, sum, sum_by}
use Rattle.std.proofs.lemmas.List.Sums.{sum-map, sum_by-cons}
use Rattle.std.proofs.lemmas.List.Elements.{All-map}
use Rattle.plain_list.specs.weighted.Mean.{total}
use Rattle.ground_model.specs.declared.start.Start.{Start}
use Rattle.ground_model.specs.Ground.{Ground}
use Rattle.ground_model.specs.Invariant.{IsGroundProblem}

weights_by_total : (xs : List Start) → sum_by (λ (x : Start). x.weight) xs ≡ total (λ (x : Start). x.weight) xs
weights_by_total [] = refl
weights_by_total (x ∷ xs) = sum_by-cons (λ (y : Start). y.weight) x xs ∙ ap (λ n. x.weight + n) (weights_by_total xs)

module _ (g : Ground) (is : IsGroundProblem g) where
  abbrev weights : List ℕ
  weights = map (λ (x : Start). x.weight) g.starts

  pub positive_weights : All (λ w. 0 < w) weights
  positive_weights = All-map (λ w. 0 < w) (λ (x : Start). x.weight) g.starts is.starts_weights.positive

  pub whole_weights : sum weights ≤ 10 ^ 18
  whole_weights =
      let by = sum-map (λ (x : Start). x.weight) g.starts ∙ weights_by_total g.starts in
      let e = is.starts_weights.sum in let within = is.starts_weights.den_within in omega arith
