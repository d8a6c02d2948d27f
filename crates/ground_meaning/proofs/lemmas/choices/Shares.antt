-- Where chances sum to at most 1, their shares of the least common multiple of their denominators do.
use Rattle.std.proofs.Common.{◌≡◌, ℕ, ◌*◌, ◌/◌, ◌<◌, ◌≤◌, List, ap, sym, ◌∙◌, arith}
use Rattle.std.specs.Prelude.{All}
use Rattle.std.specs.Int.{◌∣◌}
use Rattle.std.proofs.Math.Nat.{div-mul_cancel, le_of_mul-le-mul_right, mul-le-mul_right}
use Rattle.std.proofs.Math.Nat.{pos_of_dvd_of_pos}
use Rattle.std.proofs.lemmas.List.Elements.{All-weaker, All-contains, All-map}
use Rattle.exact_fraction.specs.declared.fraction.Fraction.{Fraction}
use Rattle.exact_fraction.specs.Divisors.{common_multiple}
use Rattle.exact_fraction.proofs.DivisorLemmas.{IsLeastMultipleOf-common_multiple, common_multiple-pos}
use Rattle.plain_list.specs.weighted.Mean.{total}
use Rattle.plain_list.proofs.lemmas.weighted.Totals.{total-same, total-times}
use Rattle.ppddl_model.specs.Denominator.{denominators_of, share}
use Rattle.ppddl_model.specs.Chances.{SumWithinOne}
use Rattle.ground_meaning.proofs.lemmas.choices.Lists.{All-from_map}

-- shares of one whole, in those of another
pub share-times : (whole other : ℕ) (chance : Fraction) → chance.den ∣ whole → chance.den ∣ other
    → share whole chance * other ≡ share other chance * whole
share-times whole other chance divides divides_other =
    let q : ℕ = whole / chance.den in
    let r : ℕ = other / chance.den in
    let swapped : chance.num * q * (r * chance.den) ≡ chance.num * r * (q * chance.den) = grind arith in
    ap (λ t. chance.num * q * t) (sym (div-mul_cancel chance.den divides_other)) ∙ swapped
    ∙ ap (λ t. chance.num * r * t) (div-mul_cancel chance.den divides)

shares_within : (whole : ℕ) (chances : List Fraction) → SumWithinOne chances
    → All (λ (chance : Fraction). chance.den ∣ whole) chances → total (share whole) chances ≤ whole
shares_within whole chances sum divides =
    let scaled : total (share whole) chances * sum.parts ≡ total (share sum.parts) chances * whole
    = sym (total-times (share whole) sum.parts chances)
    ∙ total-same (λ chance. share whole chance * sum.parts) (λ chance. share sum.parts chance * whole) chances
    (λ chance inside. share-times whole sum.parts chance
    (All-contains (λ (c : Fraction). c.den ∣ whole) chances chance divides inside)
    (All-contains (λ (c : Fraction). c.den ∣ sum.parts) chances chance sum.common inside))
    ∙ total-times (share sum.parts) whole chances in
    let within : total (share sum.parts) chances * whole ≤ sum.parts * whole = mul-le-mul_right whole sum.within in
    le_of_mul-le-mul_right (omega (arith, scaled, within)) sum.positive

pub dens_divide : (chances : List Fraction)
    → All (λ (chance : Fraction). chance.den ∣ common_multiple (denominators_of chances)) chances
dens_divide chances =
    All-from_map (λ d. d ∣ common_multiple (denominators_of chances)) (λ (chance : Fraction). chance.den) chances
    (IsLeastMultipleOf-common_multiple (denominators_of chances)).members

pub shares_of_own : (chances : List Fraction) → SumWithinOne chances
    → total (share (common_multiple (denominators_of chances))) chances ≤ common_multiple (denominators_of chances)
shares_of_own chances sum =
    shares_within (common_multiple (denominators_of chances)) chances sum (dens_divide chances)

pub own_den_positive : (chances : List Fraction) → SumWithinOne chances → 0 < common_multiple (denominators_of chances)
own_den_positive chances sum =
    common_multiple-pos (denominators_of chances)
    (All-map (λ d. 0 < d) (λ (chance : Fraction). chance.den) chances
    (All-weaker (λ (chance : Fraction). chance.den ∣ sum.parts) (λ (chance : Fraction). 0 < chance.den)
    (λ chance divides. pos_of_dvd_of_pos divides sum.positive) chances sum.common))
