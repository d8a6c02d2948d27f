-- Choices and entries whose keys are joined alike stay alike in products, with the rest, and when they are merged.
use Rattle.std.proofs.Common.{◌≡◌, ℕ, ◌+◌, ◌-◌, ◌*◌, List, [], ◌∷◌, map, sym, ap, ◌∙◌, arith}
use Rattle.std.specs.Prelude.{All}
use Rattle.std.proofs.Math.Nat.{mul_assoc}
use Rattle.std.proofs.lemmas.List.Elements.{All-head, All-tail}
use Rattle.plain_list.specs.weighted.Mean.{total, mean, IsAlike, products, positive}
use Rattle.plain_list.specs.weighted.Operations.{IsProduct, IsMerge}
use Rattle.plain_list.proofs.lemmas.weighted.Totals.{total-append}
use Rattle.plain_list.proofs.lemmas.weighted.Means.{mean-constant, mean-positive}
use Rattle.plain_list.proofs.lemmas.weighted.Merging.{mean-merged}
use Rattle.plain_list.proofs.lemmas.weighted.Alike.{alike_products}
use Rattle.ppddl_model.specs.Outcomes as task
use Rattle.ppddl_model.specs.Outcomes.{Entry, nothing, products_with}
use Rattle.ground_model.specs.declared.action.Choice.{Choice}
use Rattle.ground_meaning.proofs.lemmas.choices.Law.{entry_weight, ones, rest_law, rest_sum}
use Rattle.ground_meaning.specs.choices.Same.{same_choice}
use Rattle.ground_meaning.specs.choices.Joint.{weight_of, idle, joined, added, merged, with_factor, product_with, with_rest}

one_more : (a b x m n den whole : ℕ) → a * whole ≡ b * den → m * whole ≡ n * den → (a * x + m) * whole ≡ (b * x + n) * den
one_more a b x m n den whole h g =
    let p : (a * x + m) * whole ≡ a * whole * x + m * whole = grind arith in
    let q : (b * x + n) * den ≡ b * den * x + n * den = grind arith in
    p ∙ ap (λ t. t * x + m * whole) h ∙ ap (λ t. b * den * x + t) g ∙ sym q

times_one : (k : ℕ) → k * 1 ≡ k
times_one k = omega arith

module _ {K : Type 0} (view : Choice → K) (seen : Entry → K) (combine : K → K → K)
    (choices_join : IsProduct weight_of view joined combine) (entries_join : IsProduct entry_weight seen task.joined combine)
    (choices_merge : IsMerge weight_of view same_choice added) (same_still : (k : ℕ) → view (idle k) ≡ seen (nothing k))
    (one_still : (k : ℕ) → view (idle k) ≡ view (idle 1)) where
  abbrev pub Alike : List Choice → ℕ → List Entry → ℕ → Type 0
  Alike cs den es den' = IsAlike weight_of view entry_weight seen cs den es den'

  alike_merged : (cs : List Choice) (den : ℕ) (es : List Entry) (den' : ℕ) → Alike cs den es den' → Alike (merged cs) den es den'
  alike_merged cs den es den' alike v =
      ap (λ t. t * den') (mean-merged weight_of view same_choice added choices_merge v (positive weight_of cs) ∙ mean-positive weight_of view v cs) ∙ alike v

  alike_factor : (xs ys : List Choice) (d e : ℕ) (xs' ys' : List Entry) (d' e' : ℕ) → Alike xs d xs' d' → Alike ys e ys' e'
      → Alike (with_factor xs ys) (d * e) (products task.joined xs' ys') (d' * e')
  alike_factor xs ys d e xs' ys' d' e' first second =
      alike_merged (products joined xs ys) (d * e) (products task.joined xs' ys') (d' * e')
      (alike_products weight_of view entry_weight seen joined task.joined combine choices_join entries_join xs ys d e xs' ys' d' e' first second)

  -- products of all factors of a list, each over its own denominators
  pub alike_over : {X : Type 0} (f : X → List Choice) (g : X → List Entry) (d d' : X → ℕ) (whole whole' : List X → ℕ)
      → whole [] ≡ 1 → whole' [] ≡ 1
      → ((x : X) (xs : List X) → whole (x ∷ xs) ≡ d x * whole xs) → ((x : X) (xs : List X) → whole' (x ∷ xs) ≡ d' x * whole' xs)
      → (done : List Choice) (k : ℕ) (done' : List Entry) (k' : ℕ) (xs : List X) → All (λ x. Alike (f x) (d x) (g x) (d' x)) xs
      → Alike done k done' k' → Alike (product_with done (map f xs)) (k * whole xs) (products_with done' (map g xs)) (k' * whole' xs)
  alike_over f g d d' whole whole' one one' more more' done k done' k' [] each alike v =
      ap (λ t. mean weight_of view v done * (k' * t)) one' ∙ ap (λ t. mean weight_of view v done * t) (times_one k')
      ∙ alike v ∙ ap (λ t. mean entry_weight seen v done' * t) (sym (times_one k)) ∙ ap (λ t. mean entry_weight seen v done' * (k * t)) (sym one)
  alike_over f g d d' whole whole' one one' more more' done k done' k' (x ∷ xs) each alike v =
      let rest = alike_over f g d d' whole whole' one one' more more' (with_factor done (f x)) (k * d x) (products task.joined done' (g x)) (k' * d' x) xs
      (All-tail (λ y. Alike (f y) (d y) (g y) (d' y)) x xs each)
      (alike_factor done (f x) k (d x) done' (g x) k' (d' x) alike (All-head (λ y. Alike (f y) (d y) (g y) (d' y)) x xs each)) v in
      let left : k' * d' x * whole' xs ≡ k' * whole' (x ∷ xs) = mul_assoc k' (d' x) (whole' xs) ∙ ap (λ t. k' * t) (sym (more' x xs)) in
      let right : k * d x * whole xs ≡ k * whole (x ∷ xs) = mul_assoc k (d x) (whole xs) ∙ ap (λ t. k * t) (sym (more x xs)) in
      ap (λ t. mean weight_of view v (product_with (with_factor done (f x)) (map f xs)) * t) (sym left) ∙ rest
      ∙ ap (λ t. mean entry_weight seen v (products_with (products task.joined done' (g x)) (map g xs)) * t) right

  -- with what is left over
  pub alike_rest : (cs : List Choice) (den : ℕ) (es : List Entry) (whole : ℕ) → Alike cs den es whole
      → Alike (with_rest den cs) den (task.with_rest whole es) whole
  alike_rest cs den es whole alike v =
      let w : ℕ = total weight_of cs in
      let w' : ℕ = total entry_weight es in
      let sums : w * whole ≡ w' * den = omega (
        arith,
        alike (λ _. 1),
        ap (λ t. t * whole) (mean-constant weight_of view 1 cs),
        ap (λ t. t * den) (mean-constant entry_weight seen 1 es),
        ones w whole,
        ones w' den,
      ) in
      let left : (den - w) * whole ≡ (whole - w') * den = rest_law den whole w w' sums in
      let one : mean weight_of view v (with_rest den cs) ≡ mean weight_of view v cs + ((den - w) * v (view (idle 1)) + 0)
      = total-append (λ (c : Choice). c.weight * v (view c)) cs (idle (den - w) ∷ [])
      ∙ ap (λ x. mean weight_of view v cs + ((den - w) * v x + 0)) (one_still (den - w)) in
      let two : mean entry_weight seen v (task.with_rest whole es) ≡ mean entry_weight seen v es + ((whole - w') * v (view (idle 1)) + 0)
      = total-append (λ (x : Entry). x.weight * v (seen x)) es (nothing (whole - w') ∷ [])
      ∙ ap (λ x. mean entry_weight seen v es + ((whole - w') * v x + 0)) (sym (same_still (whole - w')) ∙ one_still (whole - w')) in
      ap (λ t. t * whole) one
      ∙ rest_sum (mean weight_of view v cs) (mean entry_weight seen v es) (den - w) (whole - w') (v (view (idle 1))) den whole (alike v) left
      ∙ sym (ap (λ t. t * den) two)

  -- one choice for each item and one entry, with the same keys and weights in proportion
  pub alike_shares : {X : Type 0} (f : X → Choice) (g : X → Entry) (den whole : ℕ) (xs : List X)
      → All (λ x. ((f x).weight * whole ≡ (g x).weight * den) × (view (f x) ≡ seen (g x))) xs → Alike (map f xs) den (map g xs) whole
  alike_shares f g den whole [] each v = omega arith
  alike_shares f g den whole (x ∷ xs) each v =
      let here = All-head (λ y. ((f y).weight * whole ≡ (g y).weight * den) × (view (f y) ≡ seen (g y))) x xs each in
      let rest = alike_shares f g den whole xs (All-tail (λ y. ((f y).weight * whole ≡ (g y).weight * den) × (view (f y) ≡ seen (g y))) x xs each) v in
      ap (λ k. ((f x).weight * v k + mean weight_of view v (map f xs)) * whole) here.1
      ∙ one_more (f x).weight (g x).weight (v (seen (g x))) (mean weight_of view v (map f xs)) (mean entry_weight seen v (map g xs)) den whole here.0 rest
