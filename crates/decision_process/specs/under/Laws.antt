-- The laws of what is known from below, as statements.
--     ZeroIsUnder                0 is known of every state
--     SmallerIsUnder             and so is what is at most a value that is known
--     LeastStepIsUnder           off goals, so is the smaller of the penalty and what each step costs at least
--     GreaterCovers              the greater of two values that cover from below covers from below
--     UnderMeanIsBelowPlans      no plans fitted to the starts cost less than the mean of the greater of balanced lower readings and values
--                                that cover from below
--     UnderMeanIsHigher          and it is at least the mean of the lower readings alone
--     UnderIsCarried             what is known of a valid state is what is known of that for which it stands
--     UnderMeanIsCarried         and the mean is that of the other side
use Rattle.std.specs.Prelude.{◌≡◌, ◌↔◌, ℕ, ◌<◌, ◌≤◌, min, max, false, List, Option, Contains}
use Rattle.decision_process.specs.Process.{Process, Start, at_starts, HasDenominator, CostsAtLeast}
use Rattle.decision_process.specs.Least.{CoversFromBelow}
use Rattle.decision_process.specs.Backup.{floor}
use Rattle.decision_process.specs.Balanced.{IsBalanced}
use Rattle.decision_process.specs.homomorphism.Homomorphism.{Mapping, IsValid, IsHomomorphism, AreStartsOf, AreReadingsOf}
use Rattle.decision_process.specs.under.Under.{IsUnder, AreBelowPlans, under_mean}

module _ {S A : Type 0} (p : Process S A) where
  abbrev pub ZeroIsUnder : Type 0
  ZeroIsUnder = (s : S) → IsUnder p 0 s

  abbrev pub SmallerIsUnder : Type 0
  SmallerIsUnder = (value smaller : ℕ) (s : S) → smaller ≤ value → IsUnder p value s
      → IsUnder p smaller s

  abbrev pub LeastStepIsUnder : Type 0
  LeastStepIsUnder = HasDenominator p → (c : ℕ) → CostsAtLeast p c
      → (s : S) → p.goal s ≡ false → IsUnder p (min p.penalty c) s

  abbrev pub GreaterCovers : Type 0
  GreaterCovers = (a b : ℕ) (s : S) → CoversFromBelow p a s → CoversFromBelow p b s
      → CoversFromBelow p (max a b) s

  abbrev pub UnderMeanIsBelowPlans : Type 0
  UnderMeanIsBelowPlans = 0 < p.den → (low high : S → ℕ) (act : S → Option A)
      → IsBalanced p low high act → (value : S → ℕ) (starts : List (Start S)) (start_den : ℕ)
      → ((x : Start S) → Contains starts x → CoversFromBelow p (value x.state) x.state)
      → AreBelowPlans p starts start_den (under_mean low value starts start_den)

abbrev pub UnderMeanIsHigher : Type 0 → Type 0
UnderMeanIsHigher S = (low value : S → ℕ) (starts : List (Start S)) (start_den : ℕ)
    → floor (at_starts low starts) start_den ≤ under_mean low value starts start_den

module _ (S T A B : Type 0) where
  abbrev pub UnderIsCarried : Type 0
  UnderIsCarried = (p : Process S A) (q : Process T B) (m : Mapping S T A B)
      → IsHomomorphism p q m
      → (s : S) → IsValid m s → (value : ℕ)
      → IsUnder p value s ↔ IsUnder q value (m.state s)

  abbrev pub UnderMeanIsCarried : Type 0
  UnderMeanIsCarried = (m : Mapping S T A B)
      → (starts : List (Start S)) (den : ℕ) (starts' : List (Start T)) (den' : ℕ)
      → AreStartsOf m starts den starts' den' → (low value : S → ℕ) (low' value' : T → ℕ)
      → AreReadingsOf m low low' → AreReadingsOf m value value'
      → under_mean low value starts den ≡ under_mean low' value' starts' den'
