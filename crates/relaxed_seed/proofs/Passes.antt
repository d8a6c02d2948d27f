-- Prices before any action, and after passes over all actions.
use Rattle.std.proofs.Common.{◌≡◌, ℕ, ◌+◌, ◌<◌, ◌≤◌, Bool, true, false, cond, List, length, refl, sym, ap, ◌∙◌, inl, inr, arith}
use Rattle.std.specs.Prelude.{All}
use Rattle.std.specs.List.{sum}
use Rattle.std.proofs.Math.ListN.{set}
use Rattle.std.proofs.Math.Nat.{le_trans}
use Rattle.std.proofs.lemmas.Bool.{cases_Bool, cases_lt}
use Rattle.std.proofs.lemmas.Bool.Decides.{eqb_tells}
use Rattle.std.proofs.lemmas.List.{get_or_past, get_or-set_same, get_or-set_other}
use Rattle.ground_model.specs.Packed.{State, has_bit}
use Rattle.ground_model.specs.Ground.{Ground}
use Rattle.relaxed_seed.specs.Prices.{prices_at}
use Rattle.relaxed_seed.specs.Potential.{AllowsAction, IsGreatestPotential}
use Rattle.relaxed_seed.specs.Lowering.{IsLowered, IsAbovePotentials}

-- ---- before any action

abbrev pub ArePutUpTo : (ℕ → Bool) → ℕ → List ℕ → ℕ → Type 0
ArePutUpTo bit penalty prices i = (q : ℕ) → q < i → prices_at prices penalty q ≡ cond (bit q) 0 penalty

pub put_more : (bit : ℕ → Bool) (penalty : ℕ) (prices : List ℕ) (i value : ℕ) → i < length prices → value ≡ cond (bit i) 0 penalty
    → ArePutUpTo bit penalty prices i → ArePutUpTo bit penalty (set prices i value) (i + 1)
put_more bit penalty prices i value within is so q below = elim (eqb_tells q i) [
  | inl same ↦
      ap (λ p. prices_at (set prices i value) penalty p) same.1 ∙ get_or-set_same prices i value penalty within ∙ is
      ∙ ap (λ p. cond (bit p) 0 penalty) (sym same.1)
  | inr other ↦
      (let differ = other.1 in get_or-set_other prices i q value penalty differ ∙ so q (omega (arith, below, differ)))
]

pub cond_within : (b : Bool) (n : ℕ) → cond b 0 n ≤ n
cond_within true n = omega arith
cond_within false n = omega arith

le_from_same : (a b n : ℕ) → a ≡ b → b ≤ n → a ≤ n
le_from_same a b n same below = omega (arith, same, below)

le_to_same : (a b n : ℕ) → a ≡ b → n ≤ b → n ≤ a
le_to_same a b n same below = omega (arith, same, below)

le_of_zero : (a b : ℕ) → a ≡ 0 → a ≤ b
le_of_zero a b none = omega (arith, none)

le_zero : (a b : ℕ) → a ≤ b → b ≡ 0 → a ≡ 0
le_zero a b below none = omega (arith, below, none)

module _ (g : Ground) (s : State) where
  pub first_prices : (prices : List ℕ) → length prices ≡ length g.atoms → ArePutUpTo (has_bit s) g.penalty prices (length prices)
      → IsAbovePotentials g s prices
  first_prices prices long so = record {
    same_length = long;
    within_quit = λ q. elim (cases_lt q (length prices)) [
      | inl below ↦ le_from_same (prices_at prices g.penalty q) (cond (has_bit s q) 0 g.penalty) g.penalty (so q below) (cond_within (has_bit s q) g.penalty)
      | inr past ↦ (let is = get_or_past prices q g.penalty past in omega (arith, is))
    ];
    at_true = λ q below on. so q (omega (arith, below, long)) ∙ ap (λ b. cond b 0 g.penalty) on;
    above = λ r is q. elim (cases_lt q (length prices)) [
      | inl below ↦ elim (cases_Bool (has_bit s q)) [
        | inl on ↦ le_of_zero (r q) (prices_at prices g.penalty q) (is.at_true q (omega (arith, below, long)) on)
        | inr off ↦
            le_to_same (prices_at prices g.penalty q) g.penalty (r q) (so q below ∙ ap (λ b. cond b 0 g.penalty) off) (is.within_quit q)
      ]
      | inr past ↦ le_to_same (prices_at prices g.penalty q) g.penalty (r q) (get_or_past prices q g.penalty past) (is.within_quit q)
    ];
  }

  -- ---- after passes

  pub still_above : (a b : List ℕ) (fell : Bool) → IsAbovePotentials g s a
      → IsLowered g.penalty (λ r. All (AllowsAction g.penalty r) g.actions) a b fell → IsAbovePotentials g s b
  still_above a b fell is lowered = record {
    same_length = lowered.same_length ∙ is.same_length;
    within_quit = λ q. le_trans (lowered.below q) (is.within_quit q);
    at_true = λ q below on. le_zero (prices_at b g.penalty q) (prices_at a g.penalty q) (lowered.below q) (is.at_true q below on);
    above = λ r potential. lowered.above r (is.above r potential) potential.allowed;
  }

  pub greatest_at_rest : (prices : List ℕ) → IsAbovePotentials g s prices → All (AllowsAction g.penalty (prices_at prices g.penalty)) g.actions
      → IsGreatestPotential g s (prices_at prices g.penalty)
  greatest_at_rest prices is allowed = record {
    potential = record { within_quit = is.within_quit; at_true = is.at_true; allowed = allowed };
    greatest = is.above;
  }

-- a pass lowers the sum, or is the last
pub pass_ends : (Allows : (ℕ → ℕ) → Type 0) (penalty : ℕ) (a b : List ℕ) (fell : Bool) → IsLowered penalty Allows a b fell
    → sum b + cond fell 1 0 < sum a + 1
pass_ends Allows penalty a b true is = (let less = is.falls refl in omega (arith, less))
pass_ends Allows penalty a b false is = (let same : sum b ≡ sum a = ap sum ((is.rests refl).0) in omega (arith, same))
