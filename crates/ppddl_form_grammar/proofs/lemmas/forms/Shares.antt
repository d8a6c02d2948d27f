-- The chances of one `probabilistic`: as a grammar judges them, one behind the others, and as they are judged together.
use Rattle.std.proofs.Common.{◌≡◌, ℕ, ◌*◌, ◌/◌, ◌<◌, ◌≤◌, List, [], ◌∷◌, ◌++◌, Ok, refl, sym, ap, ◌∙◌, arith, nat_lt}
use Rattle.std.specs.Prelude.{All}
use Rattle.std.specs.Int.{◌∣◌}
use Rattle.std.proofs.lemmas.Bool.{ltb-false, le-ltb}
use Rattle.std.proofs.lemmas.List.Elements.{All-nil, All-map, All-weaker, All-contains}
use Rattle.std.proofs.Math.Nat.{div-mul_cancel, le_of_mul-le-mul_right, mul-le-mul_right}
use Rattle.std.proofs.lemmas.Nat.Gcd.{le_of_dvd}
use Rattle.plain_list.proofs.Results.{ok_is, test_fails}
use Rattle.exact_fraction.specs.declared.fraction.Fraction.{Fraction}
use Rattle.exact_fraction.specs.Numbers.{IsProbability}
use Rattle.exact_fraction.proofs.DivisorLemmas.{IsLeastMultipleOf-common_multiple, common_multiple-pos}
use Rattle.plain_list.specs.weighted.Mean.{total}
use Rattle.plain_list.proofs.lemmas.weighted.Totals.{total-append, total-same, total-times}
use Rattle.ppddl_model.specs.declared.limits.TheConstants.{MOST_DENOMINATOR}
use Rattle.ppddl_model.specs.Chances.{SumWithinOne}
use Rattle.ppddl_model.specs.Denominator.{denominators_of, share}
use Rattle.ppddl_model.specs.WellFormed.{AreProbabilities}
use Rattle.ppddl_model.proofs.Lists.{All-append_left, All-from_map}
use Rattle.ppddl_cursor.specs.declared.place.Place.{Place}
use Rattle.ppddl_cursor.specs.Reading.{Fault}
use Rattle.ppddl_forms.specs.Chances.{common_of, shares_of, within}

abbrev Divide : ℕ → List Fraction → Type 0
Divide whole chances = All (λ (chance : Fraction). chance.den ∣ whole) chances

members : (chances : List Fraction) → Divide (common_of chances) chances
members chances = All-from_map (λ d. d ∣ common_of chances) (λ (c : Fraction). c.den) chances (IsLeastMultipleOf-common_multiple (denominators_of chances)).members

-- ---- one behind the others

pub within_ok : (seen : List Fraction) (p q : Fraction) (a : Place) → within seen p a ≡ Ok q
    → (p ≡ q) × (common_of (seen ++ p ∷ []) ≤ MOST_DENOMINATOR) × (shares_of (seen ++ p ∷ []) ≤ common_of (seen ++ p ∷ []))
within_ok seen p q a is =
    let common : ℕ = common_of (seen ++ p ∷ []) in
    let shares : ℕ = shares_of (seen ++ p ∷ []) in
    let r = test_fails (nat_lt MOST_DENOMINATOR common) _ _ q is in
    let t = test_fails (nat_lt common shares) _ (Ok p) q r.1 in
    (ok_is {E = Fault} p q t.1, ltb-false MOST_DENOMINATOR common r.0, ltb-false common shares t.0)

positive_dens : (chances : List Fraction) → All IsProbability chances → All (λ d. 0 < d) (denominators_of chances)
positive_dens chances each = All-map (λ d. 0 < d) (λ (c : Fraction). c.den) chances (All-weaker IsProbability (λ (c : Fraction). 0 < c.den) (λ c is. omega (arith, is.den_positive)) chances each)

pub common_positive : (chances : List Fraction) → All IsProbability chances → 0 < common_of chances
common_positive chances each = common_multiple-pos (denominators_of chances) (positive_dens chances each)

pub together : (chances : List Fraction) → All IsProbability chances → common_of chances ≤ MOST_DENOMINATOR → shares_of chances ≤ common_of chances → AreProbabilities chances
together chances each common sum = record {
  each = each;
  within = record { parts = common_of chances; positive = common_positive chances each; common = members chances; within = sum };
  common = common;
}

pub no_chances : AreProbabilities []
no_chances = together [] (All-nil IsProbability) (omega arith) (omega arith)

-- ---- the first of them

pub prefix : (xs ys : List Fraction) → AreProbabilities (xs ++ ys) → AreProbabilities xs
prefix xs ys are =
    let own : All (λ d. d ∣ common_of (xs ++ ys)) (denominators_of xs)
    = All-map (λ d. d ∣ common_of (xs ++ ys)) (λ (c : Fraction). c.den) xs (All-append_left (λ (c : Fraction). c.den ∣ common_of (xs ++ ys)) xs ys (members (xs ++ ys))) in
    let divides : common_of xs ∣ common_of (xs ++ ys) = (IsLeastMultipleOf-common_multiple (denominators_of xs)).least (common_of (xs ++ ys)) own in
    let less : common_of xs ≤ common_of (xs ++ ys) = le_of_dvd (common_positive (xs ++ ys) are.each) divides in
    record {
      each = All-append_left IsProbability xs ys are.each;
      within = record {
        parts = are.within.parts;
        positive = are.within.positive;
        common = All-append_left (λ (c : Fraction). c.den ∣ are.within.parts) xs ys are.within.common;
        within = omega (arith, total-append (share are.within.parts) xs ys, are.within.within);
      };
      common = omega (arith, less, are.common);
    }

-- ---- and the other way round

-- shares of one whole, in those of another
share-times : (whole other : ℕ) (chance : Fraction) → chance.den ∣ whole → chance.den ∣ other → share whole chance * other ≡ share other chance * whole
share-times whole other chance divides divides_other =
    let q : ℕ = whole / chance.den in
    let r : ℕ = other / chance.den in
    let swapped : chance.num * q * (r * chance.den) ≡ chance.num * r * (q * chance.den) = grind arith in
    ap (λ t. chance.num * q * t) (sym (div-mul_cancel chance.den divides_other)) ∙ swapped ∙ ap (λ t. chance.num * r * t) (div-mul_cancel chance.den divides)

shares_within : (chances : List Fraction) → SumWithinOne chances → shares_of chances ≤ common_of chances
shares_within chances sum =
    let whole : ℕ = common_of chances in
    let scaled : total (share whole) chances * sum.parts ≡ total (share sum.parts) chances * whole
    = sym (total-times (share whole) sum.parts chances)
    ∙ total-same (λ chance. share whole chance * sum.parts) (λ chance. share sum.parts chance * whole) chances
    (λ chance inside. share-times whole sum.parts chance (All-contains (λ (c : Fraction). c.den ∣ whole) chances chance (members chances) inside)
    (All-contains (λ (c : Fraction). c.den ∣ sum.parts) chances chance sum.common inside))
    ∙ total-times (share sum.parts) whole chances in
    let within : total (share sum.parts) chances * whole ≤ sum.parts * whole = mul-le-mul_right whole sum.within in
    le_of_mul-le-mul_right (omega (arith, scaled, within)) sum.positive

pub judged : (seen : List Fraction) (p : Fraction) (a : Place) → AreProbabilities (seen ++ p ∷ []) → within seen p a ≡ Ok p
judged seen p a are =
    let all = seen ++ p ∷ [] in
    rw (le-ltb MOST_DENOMINATOR (common_of all) are.common, le-ltb (common_of all) (shares_of all) (shares_within all are.within)) refl
