-- The common multiple and the sum of chances, when one more is added.
--     common_next     the common multiple
--     shares_next     the sum
use Rattle.std.proofs.Common.{◌≡◌, ℕ, ◌+◌, ◌*◌, ◌/◌, ◌<◌, ◌≤◌, List, [], ◌∷◌, ◌++◌, Ok, refl, sym, ap, subst, ◌∙◌, arith}
use Rattle.std.specs.Prelude.{All, Contains}
use Rattle.std.proofs.lemmas.Bool.{lt-ltb, le-ltb}
use Rattle.std.specs.Int.{◌∣◌}
use Rattle.std.proofs.Math.Nat.{div-mul_cancel, mul-div_cancel, pos_of_dvd_of_pos, mul_assoc}
use Rattle.std.proofs.lemmas.Nat.Gcd.{dvd_trans}
use Rattle.std.proofs.lemmas.List.Elements.{All-contains}
use Rattle.ppddl_model.proofs.Lists.{All-from_map}
use Rattle.exact_fraction.specs.declared.fraction.Fraction.{Fraction}
use Rattle.exact_fraction.specs.Divisors.{lcm_of, common_multiple}
use Rattle.exact_fraction.proofs.DivisorLemmas.{IsLeastMultiple-lcm_of, lcm_of-unique, lcm_of-pos, IsLeastMultipleOf-common_multiple}
use Rattle.ppddl_model.specs.Denominator.{denominators_of, share}
use Rattle.plain_list.specs.weighted.Mean.{total}
use Rattle.plain_list.proofs.lemmas.weighted.Totals.{total-append, total-same, total-times}
use Rattle.ppddl_model.specs.declared.limits.TheConstants.{MOST_DENOMINATOR}
use Rattle.ppddl_model.specs.declared.refusal.TextCode.TheVariants.{Probability, SumAboveOne}
use Rattle.ppddl_cursor.specs.declared.place.Place.{Place}
use Rattle.ppddl_cursor.specs.Reading.{fails}
use Rattle.ppddl_forms.specs.Chances.{common_of, shares_of, within, IsRunning}

lcm_of_assoc : (a b c : ℕ) → lcm_of a (lcm_of b c) ≡ lcm_of (lcm_of a b) c
lcm_of_assoc a b c =
    let m = IsLeastMultiple-lcm_of a (lcm_of b c) in
    let bc = IsLeastMultiple-lcm_of b c in
    let ab = IsLeastMultiple-lcm_of a b in
    lcm_of-unique (lcm_of a b) c (lcm_of a (lcm_of b c)) (record {
      first = ab.least (lcm_of a (lcm_of b c)) m.first (dvd_trans b bc.first m.second);
      second = dvd_trans c bc.second m.second;
      least = λ n of_ab of_c. m.least n (dvd_trans a ab.first of_ab) (bc.least n (dvd_trans b ab.second of_ab) of_c);
    })

lcm_of_comm : (a b : ℕ) → lcm_of a b ≡ lcm_of b a
lcm_of_comm a b =
    let m = IsLeastMultiple-lcm_of a b in
    lcm_of-unique b a (lcm_of a b) (record { first = m.second; second = m.first; least = λ n of_b of_a. m.least n of_a of_b })

pub common_next : (ds : List ℕ) (d : ℕ) → common_multiple (ds ++ d ∷ []) ≡ lcm_of (common_multiple ds) d
common_next [] d = lcm_of_comm d 1
common_next (x ∷ ds) d = ap (lcm_of x) (common_next ds d) ∙ lcm_of_assoc x (common_multiple ds) d

map-push : (seen : List Fraction) (p : Fraction) → denominators_of (seen ++ p ∷ []) ≡ denominators_of seen ++ p.den ∷ []
map-push [] p = refl
map-push (q ∷ seen) p = ap (λ ds. q.den ∷ ds) (map-push seen p)

pub common_of_next : (seen : List Fraction) (p : Fraction) → common_of (seen ++ p ∷ []) ≡ lcm_of (common_of seen) p.den
common_of_next seen p = ap common_multiple (map-push seen p) ∙ common_next (denominators_of seen) p.den

-- a part of a part
div_of_div : (whole den d : ℕ) → 0 < d → d ∣ den → den ∣ whole → 0 < den → whole / d ≡ den / d * (whole / den)
div_of_div whole den d some of_den of_whole positive =
    let r : ℕ = den / d in
    let q : ℕ = whole / den in
    let er : r * d ≡ den = div-mul_cancel d of_den in
    let eq : q * den ≡ whole = div-mul_cancel den of_whole in
    let product : r * q * d ≡ whole = grind (arith, er, eq) in
    ap (λ n. n / d) (sym product) ∙ mul-div_cancel (r * q) some

pub shares_next : (seen : List Fraction) (p : Fraction) → 0 < common_of seen
    → shares_of (seen ++ p ∷ []) ≡ shares_of seen * (common_of (seen ++ p ∷ []) / common_of seen) + p.num * (common_of (seen ++ p ∷ []) / p.den)
shares_next seen p positive =
    let den : ℕ = common_of seen in
    let whole : ℕ = common_of (seen ++ p ∷ []) in
    let of_whole : den ∣ whole = subst (λ m. den ∣ m) (sym (common_of_next seen p)) (IsLeastMultiple-lcm_of den p.den).first in
    let members : All (λ (c : Fraction). c.den ∣ den) seen = All-from_map (λ d. d ∣ den) (λ (c : Fraction). c.den) seen (IsLeastMultipleOf-common_multiple (denominators_of seen)).members in
    let each : (c : Fraction) → Contains seen c → share whole c ≡ share den c * (whole / den)
    = λ c inside.
    let divides = All-contains (λ (x : Fraction). x.den ∣ den) seen c members inside in
    ap (λ n. c.num * n) (div_of_div whole den c.den (pos_of_dvd_of_pos divides positive) divides of_whole positive) ∙ sym (mul_assoc c.num (den / c.den) (whole / den)) in
    let rest : total (share whole) seen ≡ shares_of seen * (whole / den)
    = total-same (share whole) (λ c. share den c * (whole / den)) seen each ∙ total-times (share den) (whole / den) seen in
    let split : total (share whole) (seen ++ p ∷ []) ≡ total (share whole) seen + (share whole p + 0) = total-append (share whole) seen (p ∷ []) in
    omega (arith, split, rest)

-- one more chance, by the numbers that are kept of those before it
module _ (seen : List Fraction) (p : Fraction) (a : Place) (den num : ℕ) (running : IsRunning seen den num) where
  abbrev all : List Fraction
  all = seen ++ p ∷ []

  pub common_is : common_of all ≡ lcm_of den p.den
  common_is = common_of_next seen p ∙ ap (λ n. lcm_of n p.den) (sym running.common)

  pub shares_are : (whole : ℕ) → whole ≡ lcm_of den p.den → shares_of all ≡ num * (whole / den) + p.num * (whole / p.den)
  shares_are whole is =
      let w : common_of all ≡ whole = common_is ∙ sym is in
      let positive : 0 < common_of seen = subst (λ n. 0 < n) running.common running.positive in
      shares_next seen p positive
      ∙ ap (λ n. shares_of seen * (n / common_of seen) + p.num * (n / p.den)) w
      ∙ ap (λ n. n * (whole / common_of seen) + p.num * (whole / p.den)) (sym running.shares)
      ∙ ap (λ n. num * (whole / n) + p.num * (whole / p.den)) (sym running.common)

  pub too_large : (lcm_of den p.den ≤ MOST_DENOMINATOR → ⊥) → within seen p a ≡ fails Probability a
  too_large large =
      let above : MOST_DENOMINATOR < common_of all = rw common_is (omega (arith, large)) in
      rw (lt-ltb MOST_DENOMINATOR (common_of all) above) refl

  pub too_many : (whole : ℕ) → whole ≡ lcm_of den p.den → lcm_of den p.den ≤ MOST_DENOMINATOR → whole < num * (whole / den) + p.num * (whole / p.den) → within seen p a ≡ fails SumAboveOne a
  too_many whole is small many =
      let w : common_of all ≡ whole = common_is ∙ sym is in
      let below : common_of all ≤ MOST_DENOMINATOR = rw common_is small in
      let above : common_of all < shares_of all = rw (shares_are whole is, w) many in
      rw (le-ltb MOST_DENOMINATOR (common_of all) below, lt-ltb (common_of all) (shares_of all) above) refl

  pub is_within : (whole : ℕ) → whole ≡ lcm_of den p.den → lcm_of den p.den ≤ MOST_DENOMINATOR → num * (whole / den) + p.num * (whole / p.den) ≤ whole → within seen p a ≡ Ok p
  is_within whole is small few =
      let w : common_of all ≡ whole = common_is ∙ sym is in
      let below : common_of all ≤ MOST_DENOMINATOR = rw common_is small in
      let enough : shares_of all ≤ common_of all = rw (shares_are whole is, w) few in
      rw (le-ltb MOST_DENOMINATOR (common_of all) below, le-ltb (common_of all) (shares_of all) enough) refl

  pub runs_on : (whole : ℕ) → 0 < p.den → whole ≡ lcm_of den p.den → lcm_of den p.den ≤ MOST_DENOMINATOR → num * (whole / den) + p.num * (whole / p.den) ≤ whole
      → IsRunning all whole (num * (whole / den) + p.num * (whole / p.den))
  runs_on whole some is small few = record {
    common = is ∙ sym common_is;
    shares = sym (shares_are whole is);
    positive = subst (λ n. 0 < n) (sym is) (lcm_of-pos den p.den running.positive some);
    most = subst (λ n. n ≤ MOST_DENOMINATOR) (sym is) small;
    sum = few;
  }
