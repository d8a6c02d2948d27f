-- Joint choices: the choices with the base cost, in lowest terms.
use Rattle.std.proofs.Common.{◌≡◌, ℕ, ◌+◌, ◌*◌, ◌/◌, ◌^◌, ◌<◌, Bool, List, [], ◌∷◌, map, sym, ap, ◌∙◌, arith}
use Rattle.std.specs.Prelude.{All, flat_map}
use Rattle.std.specs.Int.{◌∣◌}
use Rattle.std.proofs.Math.Nat.{mul_assoc, mul_right_comm, div-mul_cancel, pos_of_dvd_of_pos}
use Rattle.std.proofs.Math.Nat.{eq_of_mul-eq-mul_right}
use Rattle.std.proofs.lemmas.Nat.Gcd.{dvd_trans, dvd_refl}
use Rattle.std.proofs.lemmas.List.Elements.{All-nil, All-cons, All-contains}
use Rattle.exact_fraction.specs.declared.fraction.Fraction.{Fraction}
use Rattle.exact_fraction.specs.Divisors.{gcd_of}
use Rattle.exact_fraction.proofs.DivisorLemmas.{IsGcd-gcd_of}
use Rattle.plain_list.specs.weighted.Mean.{mean}
use Rattle.plain_list.proofs.lemmas.weighted.Totals.{total-map, total-same, total-times}
use Rattle.ppddl_model.specs.declared.tree.Effect.{Effect}
use Rattle.ppddl_model.specs.State.{GroundAtom}
use Rattle.ppddl_model.specs.Objects.{World, Binding}
use Rattle.ppddl_model.specs.Draws.{chance_lists, EachDraw}
use Rattle.ppddl_model.specs.Denominator.{denominators_of, draws}
use Rattle.ppddl_model.specs.Chances.{SumWithinOne}
use Rattle.ppddl_model.specs.Outcomes.{Entry, outcomes}
use Rattle.ground_model.specs.declared.action.Choice.{Choice}
use Rattle.ground_model.specs.Choices.{active_cost}
use Rattle.ground_meaning.specs.choices.Numbering.{Numbering}
use Rattle.ground_meaning.specs.choices.Joint.{weight_of, common_divisor, charged, reduced, den_of, choices, divisor, joint}
use Rattle.ground_meaning.specs.choices.Change.{Change, change_of, entry_change}
use Rattle.ground_meaning.specs.choices.Laws.{JointIsOutcomes}
use Rattle.ground_meaning.proofs.lemmas.choices.Lists.{All-both, All-from_map, All-from_flat_map}
use Rattle.ground_meaning.proofs.lemmas.choices.Weights.{den_positive}
use Rattle.ground_meaning.proofs.lemmas.choices.Law.{IsFair, choices_law}

-- ---- the common divisor

pub divides_start : (d : ℕ) (cs : List Choice) → common_divisor d cs ∣ d
divides_start d [] = dvd_refl d
divides_start d (c ∷ cs) =
    dvd_trans (common_divisor (gcd_of d c.weight) cs) (divides_start (gcd_of d c.weight) cs) (IsGcd-gcd_of d c.weight).0

pub divides_weights : (d : ℕ) (cs : List Choice) → All (λ (c : Choice). common_divisor d cs ∣ c.weight) cs
divides_weights d [] = All-nil (λ (c : Choice). common_divisor d [] ∣ c.weight)
divides_weights d (c ∷ cs) =
    All-cons (λ (x : Choice). common_divisor d (c ∷ cs) ∣ x.weight) c cs
    (dvd_trans (common_divisor (gcd_of d c.weight) cs) (divides_start (gcd_of d c.weight) cs) (IsGcd-gcd_of d c.weight).1)
    (divides_weights (gcd_of d c.weight) cs)

module _ (w : World) (n : Numbering) (e : Effect) (b : Binding) (base : ℕ) where
  pub divisor_divides : divisor w n e b ∣ den_of w e
  divisor_divides = divides_start (den_of w e) (choices w n e b)

  pub divisor_divides_weights : All (λ (c : Choice). divisor w n e b ∣ c.weight) (choices w n e b)
  divisor_divides_weights = divides_weights (den_of w e) (choices w n e b)

  pub divisor_positive : EachDraw SumWithinOne e → 0 < divisor w n e b
  divisor_positive fair = pos_of_dvd_of_pos divisor_divides (den_positive w e fair)

  pub den_restored : (joint w n e b base).den * divisor w n e b ≡ den_of w e
  den_restored = div-mul_cancel (divisor w n e b) divisor_divides

-- ---- what the base cost and the division make of changes

priced : ℕ → Change → Change
priced base y = record { adds = y.adds; deletes = y.deletes; cost = y.cost + base }

module _ (order : List GroundAtom) (bit : ℕ → Bool) where
  change_of-charged : (base : ℕ) (c : Choice) → change_of order bit (charged base c) ≡ priced base (change_of order bit c)
  unfolding priced
  change_of-charged base c =
      let costs : c.cost + base + active_cost bit c.guarded ≡ c.cost + active_cost bit c.guarded + base = omega arith in
      ap (λ k. record { adds = (change_of order bit c).adds; deletes = (change_of order bit c).deletes; cost = k }) costs

module _ (w : World) (n : Numbering) (order : List GroundAtom) (bit : ℕ → Bool) where
  mean-joint : (e : Effect) (b : Binding) (base : ℕ) (v : Change → ℕ)
      → mean weight_of (change_of order bit) v (joint w n e b base).list * divisor w n e b
      ≡ mean weight_of (change_of order bit) (λ y. v (priced base y)) (choices w n e b)
  mean-joint e b base v =
      let g : ℕ = divisor w n e b in
      let cs : List Choice = choices w n e b in
      ap (λ t. t * g)
      (total-map (λ (c : Choice). c.weight * v (change_of order bit c)) (reduced g) (map (charged base) cs)
      ∙ total-map (λ (c : Choice). c.weight / g * v (change_of order bit c)) (charged base) cs)
      ∙ sym (total-times (λ (c : Choice). c.weight / g * v (change_of order bit (charged base c))) g cs)
      ∙ total-same (λ (c : Choice). c.weight / g * v (change_of order bit (charged base c)) * g)
      (λ (c : Choice). c.weight * v (priced base (change_of order bit c))) cs
      (λ c inside. mul_right_comm (c.weight / g) (v (change_of order bit (charged base c))) g
      ∙ ap (λ t. t * v (change_of order bit (charged base c)))
      (div-mul_cancel g (All-contains (λ (x : Choice). g ∣ x.weight) cs c (divisor_divides_weights w n e b base) inside))
      ∙ ap (λ y. c.weight * v y) (change_of-charged order bit base c))

fair_of : (den : ℕ) (lists : List (List Fraction)) → All SumWithinOne lists
    → All (λ d. d ∣ den) (flat_map denominators_of lists) → All (IsFair den) lists
fair_of den lists sums divide =
    All-both SumWithinOne (λ chances. All (λ d. d ∣ den) (denominators_of chances)) (IsFair den)
    (λ chances sum each. record {
      sums = sum;
      divide = All-from_map (λ d. d ∣ den) (λ (chance : Fraction). chance.den) chances each;
    }) lists sums (All-from_flat_map (λ d. d ∣ den) denominators_of lists divide)

-- an equation of numbers that a positive factor multiplies
without_factor : (m m' x p d d' g : ℕ) → 0 < g → m * g ≡ m' → d * g ≡ d' → m' * p ≡ x * d' → m * p ≡ x * d
without_factor m m' x p d d' g positive mean den whole =
    eq_of_mul-eq-mul_right g positive (m * p) (x * d)
    (mul_right_comm m p g ∙ ap (λ t. t * p) mean ∙ whole ∙ ap (λ t. x * t) (sym den) ∙ sym (mul_assoc x d g))

pub joint_law : (w : World) (n : Numbering) → JointIsOutcomes w n
unfolding priced
joint_law w n order bit s e fair den divide b describes base v =
    let v' : Change → ℕ = λ y. v (priced base y) in
    let cs : List Choice = choices w n e b in
    without_factor (mean weight_of (change_of order bit) v (joint w n e b base).list)
    (mean weight_of (change_of order bit) v' cs)
    (mean (λ (x : Entry). x.weight) (entry_change base) v (outcomes w den e b s))
    (den ^ draws w e) (joint w n e b base).den (den_of w e) (divisor w n e b)
    (divisor_positive w n e b base fair) (mean-joint w n order bit e b base v) (den_restored w n e b base)
    (choices_law w n order bit s den e (fair_of den (chance_lists e) fair divide) b describes.numbered describes.agrees v')
