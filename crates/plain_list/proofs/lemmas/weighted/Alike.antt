-- Weighted lists that are alike.
use Rattle.std.proofs.Common.{◌≡◌, ℕ, ◌*◌, ◌<◌, List, map, sym, ap, ◌∙◌}
use Rattle.std.proofs.Math.Nat.{mul_assoc, mul_right_comm, eq_of_mul-eq-mul_right}
use Rattle.plain_list.specs.weighted.Mean.{mean, IsAlike, products}
use Rattle.plain_list.specs.weighted.Operations.{IsProduct, IsScaled, IsReduced}
use Rattle.plain_list.proofs.lemmas.weighted.Means.{mean-same, mean-times, mean-scaled, mean-reduced, mean-products}

-- of two equations between products, what follows for the outer numbers
chained : (a d' b d e' c e : ℕ) → a * d' ≡ b * d → b * e' ≡ c * e → a * (d' * e') ≡ c * (d * e)
chained a d' b d e' c e first second =
    sym (mul_assoc a d' e') ∙ ap (λ t. t * e') first ∙ mul_right_comm b d e' ∙ ap (λ t. t * d) second ∙ mul_right_comm c e d
    ∙ mul_assoc c d e

module _ {C D E X : Type 0} (w : C → ℕ) (key : C → X) (w' : D → ℕ) (key' : D → X) (w'' : E → ℕ) (key'' : E → X) where
  pub alike_transitive : (l : List C) (den : ℕ) (l' : List D) (den' : ℕ) (l'' : List E) (den'' : ℕ) → 0 < den'
      → IsAlike w key w' key' l den l' den' → IsAlike w' key' w'' key'' l' den' l'' den'' → IsAlike w key w'' key'' l den l'' den''
  alike_transitive l den l' den' l'' den'' positive first second v =
      eq_of_mul-eq-mul_right den' positive (mean w key v l * den'') (mean w'' key'' v l'' * den)
      (mul_right_comm (mean w key v l) den'' den' ∙ ap (λ t. t * den'') (first v) ∙ mul_right_comm (mean w' key' v l') den den''
      ∙ ap (λ t. t * den) (second v) ∙ mul_right_comm (mean w'' key'' v l'') den' den)

module _ {C D X : Type 0} (w : C → ℕ) (key : C → X) (w' : D → ℕ) (key' : D → X) where
  pub alike_symmetric : (l : List C) (den : ℕ) (l' : List D) (den' : ℕ) → IsAlike w key w' key' l den l' den'
      → IsAlike w' key' w key l' den' l den
  alike_symmetric l den l' den' alike v = sym (alike v)

  pub alike_scaled : (k : ℕ) (g : C → D) (l : List C) (den : ℕ) → IsScaled w key w' key' k g l
      → IsAlike w key w' key' l den (map g l) (den * k)
  alike_scaled k g l den scaled v =
      sym (mul_assoc (mean w key v l) den k) ∙ mul_right_comm (mean w key v l) den k
      ∙ ap (λ t. t * den) (sym (mean-scaled w key w' key' k g l scaled v))

  pub alike_reduced : (k : ℕ) (g : C → D) (l : List C) (den' : ℕ) → IsReduced w key w' key' k g l
      → IsAlike w key w' key' l (den' * k) (map g l) den'
  alike_reduced k g l den' reduced v =
      ap (λ t. t * den') (sym (mean-reduced w key w' key' k g l reduced v)) ∙ mul_right_comm (mean w' key' v (map g l)) k den'
      ∙ mul_assoc (mean w' key' v (map g l)) den' k

  module _ (join : C → C → C) (join' : D → D → D) (combine : X → X → X) (product : IsProduct w key join combine)
      (product' : IsProduct w' key' join' combine) where
    pub alike_products : (xs ys : List C) (d e : ℕ) (xs' ys' : List D) (d' e' : ℕ)
        → IsAlike w key w' key' xs d xs' d' → IsAlike w key w' key' ys e ys' e'
        → IsAlike w key w' key' (products join xs ys) (d * e) (products join' xs' ys') (d' * e')
    alike_products xs ys d e xs' ys' d' e' first second v =
        let inner : X → ℕ = λ x. mean w key (λ y. v (combine x y)) ys in
        let inner' : X → ℕ = λ x. mean w' key' (λ y. v (combine x y)) ys' in
        let inner_alike : mean w' key' inner xs' * e' ≡ mean w' key' inner' xs' * e
        = sym (mean-times w' key' inner e' xs')
        ∙ mean-same w' key' (λ x. inner x * e') (λ x. inner' x * e) xs' (λ c _. second (λ y. v (combine (key' c) y)))
        ∙ mean-times w' key' inner' e xs' in
        ap (λ t. t * (d' * e')) (mean-products w key join combine product v xs ys)
        ∙ chained (mean w key inner xs) d' (mean w' key' inner xs') d e' (mean w' key' inner' xs') e (first inner) inner_alike
        ∙ sym (ap (λ t. t * (d * e)) (mean-products w' key' join' combine product' v xs' ys'))
