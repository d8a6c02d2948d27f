-- The interval of the starts is carried.
use Rattle.std.proofs.Common.{◌≡◌, ℕ, ◌*◌, List, sym, ap, ◌∙◌}
use Rattle.plain_list.proofs.lemmas.weighted.Totals.{total-same}
use Rattle.decision_process.specs.Process.{Start, at_starts}
use Rattle.decision_process.specs.Backup.{floor, ceiling}
use Rattle.decision_process.specs.Rounded.{down, up}
use Rattle.decision_process.specs.homomorphism.Homomorphism.{Mapping, AreStartsOf, AreReadingsOf}
use Rattle.decision_process.specs.homomorphism.Laws as laws
use Rattle.decision_process.proofs.lemmas.homomorphism.Ratios.{floor-same, ceiling-same}
use Rattle.decision_process.proofs.lemmas.homomorphism.Following.{down_is_carried, up_is_carried}

module _ {S T A B : Type 0} (m : Mapping S T A B) (starts : List (Start S)) (den : ℕ) (starts' : List (Start T)) (den' : ℕ)
    (are : AreStartsOf m starts den starts' den') (v : S → ℕ) (v' : T → ℕ) (reads : AreReadingsOf m v v') where
  at_starts-carried : at_starts v starts * den' ≡ at_starts v' starts' * den
  at_starts-carried =
      ap (λ n. n * den') (total-same (λ start. start.weight * v start.state) (λ start. start.weight * v' (m.state start.state)) starts
      (λ start inside. ap (λ n. start.weight * n) (reads start.state (are.is_valid start inside))))
      ∙ are.chances v'

  pub floor-carried : floor (at_starts v starts) den ≡ floor (at_starts v' starts') den'
  floor-carried = floor-same (at_starts v starts) den (at_starts v' starts') den' are.den_positive are.den_positive_there at_starts-carried

  pub ceiling-carried : ceiling (at_starts v starts) den ≡ ceiling (at_starts v' starts') den'
  ceiling-carried = ceiling-same (at_starts v starts) den (at_starts v' starts') den' are.den_positive are.den_positive_there at_starts-carried

module _ {S T A B : Type 0} where
  pub plain_is_carried : laws.PlainIsCarried S T A B
  plain_is_carried p q m is starts den starts' den' are k = (
    floor-carried m starts den starts' den' are (down p k) (down q k) (down_is_carried p q m is k),
    ceiling-carried m starts den starts' den' are (up p k) (up q k) (up_is_carried p q m is k),
  )

module _ {S T A B : Type 0} where
  pub interval_is_carried : laws.IntervalIsCarried S T A B
  interval_is_carried m starts den starts' den' are low high low' high' lows highs lower upper =
      let floors = floor-carried m starts den starts' den' are low low' lows in
      let ceilings = ceiling-carried m starts den starts' den' are high high' highs in (
        λ here. record { floor_of_low = here.floor_of_low ∙ floors; ceiling_of_high = here.ceiling_of_high ∙ ceilings },
        λ there. record {
          floor_of_low = there.floor_of_low ∙ sym floors;
          ceiling_of_high = there.ceiling_of_high ∙ sym ceilings;
        },
      )
