-- Numbers one after the other, as a loop reads them.
use Rattle.std.proofs.Common.{◌≡◌, ℕ, ◌<◌, false, eqb, List, [], ◌∷◌, ◌++◌, length, Option, Some, None, refl, ap, sym, ◌∙◌, arith, length-append}
use Rattle.std.specs.Prelude.{codes, decimal}
use Rattle.certificate.specs.Decoding.{behind, parts, place_at, spaced_places}
use Rattle.certificate.proofs.Cuts.{behind_is_rest}
use Rattle.certificate.proofs.Fronts.{with_front, regroup}
use Rattle.certificate.proofs.Numbers.{number_then, place_is, spaced_step, spaced_fails}

module _ (m : ℕ) (front : List ℕ) (text : List ℕ) (whole : Option (List ℕ)) (so_far : with_front front (spaced_places m (parts 32 text)) ≡ whole) where
  pub no_blank : eqb (length text) 0 ≡ false → None ≡ behind (codes " ") text → whole ≡ None
  no_blank some none = sym so_far ∙ ap (with_front front) (spaced_fails m text some (sym none))

  module _ (after : List ℕ) (blank : Some after ≡ behind (codes " ") text) where
    is : text ≡ 32 ∷ after
    is = behind_is_rest (codes " ") text after (sym blank)

    pub no_number : None ≡ place_at m after → whole ≡ None
    no_number none =
        let step : spaced_places m (parts 32 text) ≡ None = spaced_step m text after is ∙ rw (← none) refl in
        sym so_far ∙ ap (with_front front) step

    module _ (n : ℕ) (rest : List ℕ) (found : Some (n, rest) ≡ place_at m after) where
      pub goes_on : with_front (front ++ n ∷ []) (spaced_places m (parts 32 rest)) ≡ whole
      goes_on =
          let step : spaced_places m (parts 32 text) ≡ number_then (Some (n, rest)) (λ r. spaced_places m (parts 32 r)) = spaced_step m text after is ∙ rw (← found) refl in
          sym (ap (with_front front) step ∙ regroup front n (spaced_places m (parts 32 rest))) ∙ so_far

      pub number_shortens : length rest < length text
      number_shortens =
          let spelled = place_is m after n rest (sym found) in
          omega (arith, ap length is, ap length spelled.0, length-append (decimal n) rest)
