-- A consistent heuristic is known from below: n steps find it out as far as n.
use Rattle.std.proofs.Common.{◌≡◌, ℕ, suc, zero, ◌+◌, ◌*◌, ◌≤◌, min, false, ap, subst, ◌∙◌, arith}
use Rattle.std.specs.Prelude.{Contains}
use Rattle.plain_list.specs.weighted.Mean.{total}
use Rattle.plain_list.proofs.lemmas.weighted.Totals.{total-times, total-weighted_le}
use Rattle.decision_process.specs.Process.{Process, Outcome, HasDenominator, CostsAtLeast}
use Rattle.decision_process.specs.Least.{CoversFromBelow}
use Rattle.decision_process.specs.Following.{IsLowerFrom}
use Rattle.decision_process.specs.Backup.{action_value}
use Rattle.decision_process.proofs.Covering.{raised_covers}
use Rattle.decision_process.proofs.lemmas.under.Values.{zero_is_under}
use Rattle.relaxed_seed.specs.Consistent.{IsConsistent}
use Rattle.relaxed_seed.specs.Laws.{ConsistentIsUnder}

no_steps : (h : ℕ) → 0 ≡ min h 0
no_steps h = omega arith

all_steps : (h : ℕ) → min h h ≡ h
all_steps h = omega arith

at_zero : (h n : ℕ) → h ≡ 0 → min h n ≡ 0
at_zero h n none = omega (arith, none)

within_all : (h n top : ℕ) → h ≤ top → min h n ≤ top
within_all h n top below = omega (arith, below)

one_step_more : (here cost next n : ℕ) → here ≤ cost + next → 1 ≤ cost → min here (suc n) ≤ cost + min next n
one_step_more here cost next n falls costs = omega (arith, falls, costs)

turned : (value den above : ℕ) → den * value ≤ above → value * den ≤ above
turned value den above below = (let same : den * value ≡ value * den = grind arith in omega (arith, below, same))

module _ {S A : Type 0} (p : Process S A) (weights : HasDenominator p) (costs : CostsAtLeast p 1) (h : S → ℕ) (is : IsConsistent p h) where
  abbrev after : ℕ → S → ℕ
  after n t = min (h t) n

  step_value : (n : ℕ) (s : S) → p.goal s ≡ false → (a : A) → Contains (p.choices s) a
      → after (suc n) s * p.den ≤ action_value p (after n) a s
  step_value n s off a is_open =
      let value : ℕ = after (suc n) s in
      let each : total (λ (o : Outcome S). o.weight * value) (p.step a s) ≤ action_value p (after n) a s
      = total-weighted_le (λ (o : Outcome S). o.weight) (λ o. value) (λ o. o.cost + after n o.next) (p.step a s)
      (λ o there. one_step_more (h s) o.cost (h o.next) n (is.steps s off a is_open o there) (costs a s is_open o there)) in
      let whole : total (λ (o : Outcome S). o.weight * value) (p.step a s) ≡ p.den * value
      = total-times (λ (o : Outcome S). o.weight) value (p.step a s) ∙ ap (λ t. t * value) (weights a s is_open) in
      turned value p.den (action_value p (after n) a s) (subst (λ t. t ≤ action_value p (after n) a s) whole each)

  follows : (n : ℕ) (s : S) → IsLowerFrom p (after n) s (after (suc n) s)
  follows n s = record {
    at_goal = λ on. at_zero (h s) (suc n) (is.at_goal s on);
    within_quit = λ _. within_all (h s) (suc n) p.penalty (is.within_quit s);
    within_step = λ a off is_open. step_value n s off a is_open;
  }

  covers : (n : ℕ) (s : S) → CoversFromBelow p (after n s) s
  covers zero s = subst (λ v. CoversFromBelow p v s) (no_steps (h s)) (zero_is_under p s).1
  covers (suc n) s = raised_covers p (after n) s (after (suc n) s) (follows n s) (λ off a is_open o there. covers n o.next)

pub consistent_is_under : {S A : Type 0} (p : Process S A) → ConsistentIsUnder p
consistent_is_under p weights costs h is s =
    (is.within_quit s, subst (λ v. CoversFromBelow p v s) (all_steps (h s)) (covers p weights costs h is (h s) s))
